-- Walks, drives and least arrivals.
use Rattle.std.specs.Prelude.{ℕ, List, [], ◌∷◌, Bool, false, Option, Some, None, ◌≡◌, ◌≤◌, slice_get}
use Rattle.cu_model.specs.declared.profiles.Piece.{Piece}
use Rattle.cu_model.specs.declared.roads.RoadArc.{RoadArc}
use Rattle.cu_model.specs.Profiles.{is_closed, profile_value}
use Rattle.cu_model.specs.Networks.{NetworkValue}

-- the road with this number has these ends
abbrev pub Links : NetworkValue → ℕ → ℕ → ℕ → Type 0
Links g a u v = (arc : RoadArc) × (slice_get g.arcs a ≡ Some arc) × (arc.tail ≡ u) × (arc.head ≡ v)

abbrev pub pieces_or_none : Option (List Piece) → List Piece
pieces_or_none None = []
pieces_or_none (Some pieces) = pieces

-- the pieces of the profile with this number; none where there is no such profile
abbrev pub pieces_of : NetworkValue → ℕ → List Piece
pieces_of g profile = pieces_or_none (slice_get g.profiles profile)

-- whether a road is there and its profile is closed
abbrev pub is_closed_by : NetworkValue → Option RoadArc → Bool
is_closed_by g None = false
is_closed_by g (Some arc) = is_closed (pieces_of g arc.profile)

-- whether the road with this number has a closed profile
abbrev pub is_closed_arc : NetworkValue → ℕ → Bool
is_closed_arc g a = is_closed_by g (slice_get g.arcs a)

-- the road with this number may be driven from u to v: it has these ends, and isn't closed
abbrev pub Leads : NetworkValue → ℕ → ℕ → ℕ → Type 0
Leads g a u v = Links g a u v × (is_closed_arc g a ≡ false)

-- a walk from u to v: roads that may be driven, each from where the one before led to
abbrev pub IsWalk : NetworkValue → ℕ → List ℕ → ℕ → Type 0
IsWalk g u [] v = u ≡ v
IsWalk g u (a ∷ walk) v = (x : ℕ) × Leads g a u x × IsWalk g x walk v

-- when a profile arrives; 0 where there is no such profile
abbrev pub value_of : Option (List Piece) → ℕ → ℕ
value_of None t = 0
value_of (Some pieces) t = profile_value pieces t

-- when a road's profile arrives; 0 where there is no such road
abbrev pub value_by : NetworkValue → Option RoadArc → ℕ → ℕ
value_by g None t = 0
value_by g (Some arc) t = value_of (slice_get g.profiles arc.profile) t

-- when the road with this number arrives, leaving at an absolute second
abbrev pub arc_value : NetworkValue → ℕ → ℕ → ℕ
arc_value g a t = value_by g (slice_get g.arcs a) t

-- when a walk arrives, driven from an absolute second road by road; no road of it is closed
abbrev pub drive : NetworkValue → List ℕ → ℕ → ℕ
drive g [] t = t
drive g (a ∷ walk) t = drive g walk (arc_value g a t)

-- the earliest arrival over all walks from u to v, leaving at t
pub record IsLeastArrival (g : NetworkValue) (u v t arrival : ℕ) : Type 0 where
  pub reached : (walk : List ℕ) × IsWalk g u walk v × (drive g walk t ≡ arrival)
  pub least : (walk : List ℕ) → IsWalk g u walk v → arrival ≤ drive g walk t

abbrev pub HasNoWalk : NetworkValue → ℕ → ℕ → Type 0
HasNoWalk g u v = (walk : List ℕ) → IsWalk g u walk v → ⊥
