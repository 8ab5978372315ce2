use Rattle.std.proofs.Common.{◌≡◌, not, take}
use Rattle.std.specs.List.{filter}
use Rattle.cu_dissect.specs.Steps.Parts.{is_beside}
use Rattle.cu_dissect.proofs.splitting.part_by_marks.Given as goal

abbrev pub invariant-loop-node : goal.invariant-loop-node
invariant-loop-node l = record {
  beside : l.beside.items ≡ filter (is_beside l.map.neighbours l.marks) (take l.node-index l.nodes);
  others : l.others.items ≡ filter (λ node. not (is_beside l.map.neighbours l.marks node)) (take l.node-index l.nodes);
}
