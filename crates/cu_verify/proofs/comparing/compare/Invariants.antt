use Rattle.std.proofs.Common.{◌≡◌, ◌*◌, take}
use Rattle.cu_verify.proofs.comparing.compare.Given as goal

abbrev pub invariant-loop-edge : goal.invariant-loop-edge
invariant-loop-edge g l = take (2 * l.edge) l.view.lists ≡ take (2 * l.edge) l.built
