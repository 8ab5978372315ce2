use Rattle.std.proofs.Common.{◌≡◌, ◌<◌, ℕ, length, get_or}
use Rattle.cu_model.proofs.orders.places.Given as goal

abbrev pub invariant-loop-place : goal.invariant-loop-place
invariant-loop-place l = record {
  long : length l.places.items ≡ length l.nodes;
  placed : (r : ℕ) → r < l.place → get_or l.places.items (get_or l.nodes r 0) 0 ≡ r;
}
