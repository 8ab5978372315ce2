-- What a road network is to its contracts: plain lists.
use Rattle.std.specs.Prelude.{ℕ, List, ◌<◌, ◌≤◌, length, All}
use Rattle.cu_model.specs.declared.limits.TheConstants.{MAX_ARCS, MAX_NODES, MAX_PROFILES}
use Rattle.cu_model.specs.declared.profiles.Piece.{Piece}
use Rattle.cu_model.specs.declared.roads.RoadArc.{RoadArc}
use Rattle.cu_model.specs.Profiles.{IsProfile}

-- nodes 0 to nodes - 1, the roads by number, and the day profiles by number, each its pieces
pub record NetworkValue : Type 0 where
  pub nodes : ℕ
  pub arcs : List RoadArc
  pub profiles : List (List Piece)

-- a road whose ends and profile are there
abbrev pub IsArcInRange : NetworkValue → RoadArc → Type 0
IsArcInRange g arc = (arc.tail < g.nodes) × (arc.head < g.nodes) × (arc.profile < length g.profiles)

pub record IsNetwork (g : NetworkValue) : Type 0 where
  pub few_nodes : g.nodes ≤ MAX_NODES
  pub few_arcs : length g.arcs ≤ MAX_ARCS
  pub few_profiles : length g.profiles ≤ MAX_PROFILES
  pub in_range : All (IsArcInRange g) g.arcs
  pub valid : All IsProfile g.profiles
