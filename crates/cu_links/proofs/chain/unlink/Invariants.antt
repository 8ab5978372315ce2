-- Each place that still has a link is among those noted from here on.
use Rattle.std.proofs.Common.{◌≡◌, ◌≤◌, ◌<◌, ℕ, Some}
use Rattle.std.specs.Prelude.{slice_get}
use Rattle.cu_links.specs.Chains.{link_at}
use Rattle.cu_links.proofs.chain.unlink.Given as goal

abbrev pub invariant-places : goal.invariant-places
invariant-places l = (place : ℕ) (link : ℕ × ℕ) → link_at l.links place ≡ Some link → (i : ℕ) × (l.index ≤ i) × (i < l.count) × (slice_get l.noted i ≡ Some place)
