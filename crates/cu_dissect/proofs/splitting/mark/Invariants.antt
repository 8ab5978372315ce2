use Rattle.std.proofs.Common.{◌≡◌, ℕ, false, cond, get_or, take}
use Rattle.cu_dissect.specs.Dissection.{has}
use Rattle.cu_dissect.proofs.splitting.mark.Given as goal

abbrev pub invariant-loop-node : goal.invariant-loop-node
invariant-loop-node l = (node : ℕ) → get_or l.marks node false ≡ cond (has (take l.node-index l.nodes) node) l.value (get_or l.fn.marks node false)
