-- What is kept of edits made in turn beside the edits, so that a road, a profile and an edge are looked up at once.
use Rattle.std.specs.Prelude.{ℕ, zero, suc, Bool, List, Some, ◌≡◌, ◌↔◌, IsTrue, length, slice_get}
use Rattle.std.specs.List.{Contains}
use Rattle.cu_model.specs.declared.profiles.Piece.{Piece}
use Rattle.cu_model.specs.declared.roads.Edit.{Edit}
use Rattle.cu_model.specs.declared.roads.Edit.TheVariants.{Set}
use Rattle.cu_model.specs.declared.roads.RoadArc.{RoadArc}
use Rattle.cu_model.specs.Networks.{NetworkValue}
use Rattle.cu_interval.specs.Hierarchies.{HierarchyValue}
use Rattle.cu_interval.specs.Touching.{IsChanged, NumbersTouched}
use Rattle.cu_resettled.specs.ResettlingAll.{IsChangedBySome, IsTouchedEdgeBySome, edited_all}
use Rattle.cu_edits.specs.Lists.{AreInRange, AreSound}

-- the edits; of each road 0, or one more than the profile that it was assigned; of each profile 0, or one more than the index of the edit
-- that set it; the roads that some of them changes; the edges that some of them touches; and of each profile the roads that had it before them
pub record EditListValue : Type 0 where
  pub edits : List Edit
  pub assigned : List ℕ
  pub given : List ℕ
  pub changed : List Bool
  pub touched : List Bool
  pub roads : List (List ℕ)

-- a road has the profile
abbrev pub HasProfile : NetworkValue → ℕ → ℕ → Type 0
HasProfile g profile arc = (road : RoadArc) × (slice_get g.arcs arc ≡ Some road) × (road.profile ≡ profile)

-- of each profile the roads that have it
pub record AreByProfile (g : NetworkValue) (roads : List (List ℕ)) : Type 0 where
  pub long : length roads ≡ length g.profiles
  pub each : (profile : ℕ) (arcs : List ℕ) → slice_get roads profile ≡ Some arcs → (arc : ℕ) → Contains arcs arc ↔ HasProfile g profile arc

-- a road is as before, or has this profile now
abbrev pub IsAssigned : NetworkValue → NetworkValue → ℕ → ℕ → Type 0
IsAssigned g now arc zero = slice_get now.arcs arc ≡ slice_get g.arcs arc
IsAssigned g now arc (suc profile) = (road : RoadArc) × (slice_get g.arcs arc ≡ Some road) × (slice_get now.arcs arc ≡ Some (record road { profile = profile }))

-- a profile is as before, or has the pieces of this edit now
abbrev pub IsGiven : NetworkValue → List Edit → NetworkValue → ℕ → ℕ → Type 0
IsGiven g edits now profile zero = slice_get now.profiles profile ≡ slice_get g.profiles profile
IsGiven g edits now profile (suc index) =
    (pieces : List Piece) × (slice_get edits index ≡ Some (Set profile pieces)) × (slice_get now.profiles profile ≡ Some pieces)

-- the list is of edits of this network
pub record FitsNetwork (g : NetworkValue) (list : EditListValue) : Type 0 where
  pub range : AreInRange g list.edits
  pub sets : AreSound list.edits
  pub arcs : length list.assigned ≡ length g.arcs
  pub assigns : (arc n : ℕ) → slice_get list.assigned arc ≡ Some n → IsAssigned g (edited_all g list.edits) arc n
  pub profiles : length list.given ≡ length g.profiles
  pub gives : (profile n : ℕ) → slice_get list.given profile ≡ Some n → IsGiven g list.edits (edited_all g list.edits) profile n
  pub marks : length list.changed ≡ length g.arcs
  pub changes : (arc : ℕ) (mark : Bool) → slice_get list.changed arc ≡ Some mark → IsTrue mark ↔ IsChangedBySome g list.edits arc
  pub roads : AreByProfile g list.roads

-- and of this hierarchy
pub record FitsList (h : HierarchyValue) (list : EditListValue) : Type 0 where
  pub network : FitsNetwork h.network list
  pub edges : length list.touched ≡ length h.edges
  pub touches : (edge : ℕ) (mark : Bool) → slice_get list.touched edge ≡ Some mark → IsTrue mark ↔ IsTouchedEdgeBySome h list.edits edge

-- the numbers of the roads that an edit changes
abbrev pub AreChanged : NetworkValue → Edit → List ℕ → Type 0
AreChanged g edit arcs = (arc : ℕ) → Contains arcs arc ↔ IsChanged g edit arc

-- the hierarchy with another network in the place of its own
abbrev pub over_network : HierarchyValue → NetworkValue → HierarchyValue
over_network h g = record h { network = g }

-- so many edges does an edit touch over this network
pub record CountsTouched (h : HierarchyValue) (g : NetworkValue) (edit : Edit) (count : ℕ) : Type 0 where
  pub touched : List ℕ
  pub numbers : NumbersTouched (over_network h g) edit touched
  pub counted : count ≡ length touched
