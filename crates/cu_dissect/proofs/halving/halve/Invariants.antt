use Rattle.std.proofs.Common.{◌≡◌, not, take}
use Rattle.std.specs.List.{filter}
use Rattle.cu_dissect.specs.Steps.Keys.{is_upto}
use Rattle.cu_dissect.proofs.halving.halve.Given as goal

abbrev pub invariant-loop-node : goal.invariant-loop-node
invariant-loop-node l = record {
  left : l.left.items ≡ filter (is_upto l.places l.wide l.last) (take l.node-index l.part);
  rest : l.rest.items ≡ filter (λ node. not (is_upto l.places l.wide l.last node)) (take l.node-index l.part);
}
