-- Lists of what waits, as one more waits and the last goes on.
use Rattle.std.proofs.Common.{◌≡◌, ◌≤◌, ◌∙◌, ℕ, List, [], ◌∷◌, arith, length}
use Rattle.std.specs.Prelude.{slice_set}
use Rattle.cu_model.proofs.ListLaws.{get_other}
use Rattle.cu_interval.specs.Hierarchies.{HierarchyValue}
use Rattle.cu_interval.specs.declared.shortcuts.Leg.{Leg}
use Rattle.cu_unpack.specs.Steps.Legs.{AreWaiting}

-- what waits is the same where more is written above it
pub waiting_kept : (h : HierarchyValue) (pending : List ℕ) (i x count : ℕ) (legs : List Leg) → count ≤ i → AreWaiting h pending count legs → AreWaiting h (slice_set pending i x) count legs
waiting_kept h pending i x count [] le none = none
waiting_kept h pending i x count (leg ∷ legs) le (below, edge, is, at, of, room, way, rest) =
    (below, edge, is, get_other pending i below x (λ same. omega (arith, is, le, same)) ∙ at, of, room, way, waiting_kept h pending i x below legs (omega (arith, is, le)) rest)

-- as many wait as there are legs
pub waiting_count : (h : HierarchyValue) (pending : List ℕ) (count : ℕ) (legs : List Leg) → AreWaiting h pending count legs → count ≡ length legs
waiting_count h pending count [] none = none
waiting_count h pending count (leg ∷ legs) (below, edge, is, at, of, room, way, rest) =
    let more = waiting_count h pending below legs rest in
    omega (arith, is, more)
