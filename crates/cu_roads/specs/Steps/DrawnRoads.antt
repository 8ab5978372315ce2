-- How the roads of a grid are drawn one after the other.
use Rattle.std.specs.Prelude.{ℕ, List, ◌++◌, ◌≡◌, length}
use Rattle.cu_model.specs.declared.roads.RoadArc.{RoadArc}
use Rattle.cu_roads.specs.Draws.{after}
use Rattle.cu_roads.specs.Grids.{RoadEnds, drawn_roads}

-- roads with these ends are drawn from one state on, behind those that are there, and leave the other state
pub record AddsRoads (ends : List RoadEnds) (old : List RoadArc) (before : ℕ) (new : List RoadArc) (behind : ℕ) : Type 0 where
  pub roads : new ≡ old ++ drawn_roads ends before
  pub state : behind ≡ after (length ends) before
