-- An edit more in a list of edits.
use Rattle.std.specs.Prelude.{ℕ, suc, All, get_or, slice_get, Bool, List, Option, Some, None, ◌≡◌, [], ◌∷◌, ◌++◌, ◌+◌, ◌<◌, true, length, slice_set}
use Rattle.std.specs.Borrow.{Bor}
use Rattle.std.specs.List.{Contains}
use Rattle.cu_model.specs.declared.profiles.Piece.{Piece}
use Rattle.cu_model.specs.declared.roads.Edit.{Edit}
use Rattle.cu_model.specs.declared.roads.Edit.TheVariants.{Set, Assign}
use Rattle.cu_model.specs.declared.roads.RoadArc.{RoadArc}
use Rattle.cu_model.specs.Networks.{NetworkValue}
use Rattle.cu_edits.specs.EditLists.{EditListValue}

-- the profiles that roads were assigned
abbrev pub assigned_by : List ℕ → Edit → List ℕ
assigned_by assigned (Set profile pieces) = assigned
assigned_by assigned (Assign arc profile) = slice_set assigned arc (profile + 1)

-- the edits that set profiles, once so many edits were made
abbrev pub given_by : List ℕ → Edit → ℕ → List ℕ
given_by given (Set profile pieces) made = slice_set given profile made
given_by given (Assign arc profile) made = given

-- the profiles of the first roads, and their numbers
pub record AreFirstProfiles (g : NetworkValue) (count : ℕ) (profiles arcs : List ℕ) : Type 0 where
  pub long : length profiles ≡ count
  pub as_many : length arcs ≡ count
  pub each : (i : ℕ) (road : RoadArc) → i < count → slice_get g.arcs i ≡ Some road → get_or profiles i 0 ≡ road.profile
  pub own : (i : ℕ) → i < count → get_or arcs i 0 ≡ i
  pub within : All (λ profile. profile < length g.profiles) profiles

-- each road that was assigned a profile is among these
pub record AreMoved (assigned moved : List ℕ) : Type 0 where
  pub each : (arc profile : ℕ) → slice_get assigned arc ≡ Some (suc profile) → Contains moved arc
  pub within : All (λ arc. arc < length assigned) moved

-- an edit sets these pieces, or none
abbrev pub SetsPieces : Edit → Option (Bor (List Piece)) → Type 0
SetsPieces (Set profile pieces) None = ⊥
SetsPieces (Set profile pieces) (Some given) = given.now ≡ pieces
SetsPieces (Assign arc profile) None = Unit {0}
SetsPieces (Assign arc profile) (Some given) = ⊥

-- marks, where these are set besides
abbrev pub marked_at : List Bool → List ℕ → List Bool
marked_at marks [] = marks
marked_at marks (number ∷ numbers) = marked_at (slice_set marks number true) numbers

-- an edit's numbers are below so many roads and profiles
abbrev pub IsInside : ℕ → ℕ → Edit → Type 0
IsInside arcs profiles (Set profile pieces) = profile < profiles
IsInside arcs profiles (Assign arc profile) = (arc < arcs) × (profile < profiles)

-- the list with an edit more, which changes these roads and touches these edges
abbrev pub added : EditListValue → Edit → List ℕ → List ℕ → EditListValue
added list edit arcs edges = record {
  edits = list.edits ++ edit ∷ [];
  assigned = assigned_by list.assigned edit;
  given = given_by list.given edit (length list.edits + 1);
  changed = marked_at list.changed arcs;
  touched = marked_at list.touched edges;
  roads = list.roads;
}
