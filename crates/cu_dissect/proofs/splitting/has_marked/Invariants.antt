use Rattle.std.proofs.Common.{◌≡◌, false, take}
use Rattle.cu_dissect.specs.Steps.Parts.{is_marked}
use Rattle.cu_dissect.proofs.splitting.has_marked.Given as goal

abbrev pub invariant-loop-node : goal.invariant-loop-node
invariant-loop-node l = is_marked l.marks (take l.node-index l.nodes) ≡ false
