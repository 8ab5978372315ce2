-- The legs of a hull, and what is kept behind each.
use Rattle.std.specs.Prelude.{ℕ, List, ◌≡◌, ◌+◌, All}
use Rattle.cu_model.specs.Days.{day}
use Rattle.cu_wait.specs.declared.legs.Leg.{Leg}
use Rattle.cu_wait.specs.Legs.{IsLeg, Tile, bounds_behind, day_least}

-- the legs are those of a day, and the bounds what later legs and the next day allow behind each
pub record IsHull (legs : List Leg) (bounds : List ℕ) : Type 0 where
  pub tile : Tile 0 legs
  pub sound : All IsLeg legs
  pub behind : bounds ≡ bounds_behind (day + day_least legs) legs
