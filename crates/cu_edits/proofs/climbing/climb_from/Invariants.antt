-- The edges from the ranks so far to their heads were found.
use Rattle.std.proofs.Common.{◌≡◌, ◌<◌, ◌-◌, List, ℕ, length}
use Rattle.cu_edits.proofs.ClimbLaws.{AreClimbing}
use Rattle.cu_edits.proofs.climbing.climb_from.Given as goal

abbrev pub invariant-ranks : goal.invariant-ranks
invariant-ranks l = (l.rank < l.graph.ranks) × ((found : List ℕ) × AreClimbing l.graph l.edge l.marks l.rank l.heads found l.edges.items l.is_known × (l.count ≡ length found))

abbrev pub decreases-ranks : goal.decreases-ranks
decreases-ranks l = l.graph.ranks - l.rank
