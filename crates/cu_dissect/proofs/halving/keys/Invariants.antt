use Rattle.std.proofs.Common.{◌≡◌, map, take}
use Rattle.cu_dissect.specs.Steps.Keys.{key_of}
use Rattle.cu_dissect.proofs.halving.keys.Given as goal

abbrev pub invariant-loop-node : goal.invariant-loop-node
invariant-loop-node l = l.keys.items ≡ map (key_of l.places l.wide) (take l.node-index l.part)
