-- Edits made in turn: the edges that some of them touch, and what they leave of a hierarchy whose touched edges are resettled once.
use Rattle.std.specs.Prelude.{ℕ, List, [], ◌∷◌, Some, ◌≡◌, ◌⊎◌, ◌↔◌, length, slice_get}
use Rattle.std.specs.List.{Contains}
use Rattle.std.specs.List.Sorted.{IsStrictlyIncreasing}
use Rattle.cu_model.specs.declared.roads.Edit.{Edit}
use Rattle.cu_model.specs.Edits.{edited}
use Rattle.cu_model.specs.Networks.{NetworkValue, IsNetwork}
use Rattle.cu_model.specs.Orders.{OrderValue}
use Rattle.cu_chordal.specs.declared.graph.Ends.{Ends}
use Rattle.cu_interval.specs.declared.ways.Dir.{Dir}
use Rattle.cu_interval.specs.declared.ways.TouchedEdge.{TouchedEdge}
use Rattle.cu_interval.specs.Hierarchies.{HierarchyValue, IsHierarchy, list_of, start_of, end_of}
use Rattle.cu_interval.specs.Touching.{IsChanged, IsTouched}
use Rattle.cu_interval.specs.Replacing.{replaced}
use Rattle.cu_interval.specs.Resettling.{IsResettled, IsResettledList}

-- the network after these edits in turn
abbrev pub edited_all : NetworkValue → List Edit → NetworkValue
edited_all g [] = g
edited_all g (edit ∷ edits) = edited_all (edited g edit) edits

-- each of these edits leaves a network
abbrev pub LeaveNetworks : NetworkValue → List Edit → Type 0
LeaveNetworks g [] = Unit {0}
LeaveNetworks g (edit ∷ edits) = IsNetwork (edited g edit) × LeaveNetworks (edited g edit) edits

-- the roads that some of these edits changes, each in the network as edited by those before it
abbrev pub IsChangedBySome : NetworkValue → List Edit → ℕ → Type 0
IsChangedBySome g [] a = ⊥
IsChangedBySome g (edit ∷ edits) a = IsChanged g edit a ⊎ IsChangedBySome (edited g edit) edits a

-- the pairs of ranks x below y that some of these edits touches, each in the network as edited by those before it
abbrev pub IsTouchedBySome : NetworkValue → OrderValue → List Edit → ℕ → ℕ → Type 0
IsTouchedBySome g o [] x y = ⊥
IsTouchedBySome g o (edit ∷ edits) x y = IsTouched g o edit x y ⊎ IsTouchedBySome (edited g edit) o edits x y

-- the edge with this number is touched by some of them
abbrev pub IsTouchedEdgeBySome : HierarchyValue → List Edit → ℕ → Type 0
IsTouchedEdgeBySome h edits edge = (ends : Ends) × (slice_get h.edges edge ≡ Some ends) × IsTouchedBySome h.network h.order edits ends.low ends.high

-- the edges of a hierarchy that some of them touches by their numbers, rising
pub record NumbersTouchedBySome (h : HierarchyValue) (edits : List Edit) (touched : List ℕ) : Type 0 where
  pub rising : IsStrictlyIncreasing touched
  pub exact : (edge : ℕ) → Contains touched edge ↔ IsTouchedEdgeBySome h edits edge

-- a hierarchy resettled by edits at once: the network edited by all in turn, the lists of the edges that some of them touches resettled,
-- and all else as it was
pub record IsResettledAll (old : HierarchyValue) (edits : List Edit) (new : HierarchyValue) : Type 0 where
  pub network : new.network ≡ edited_all old.network edits
  pub order : new.order ≡ old.order
  pub edges : new.edges ≡ old.edges
  pub lists : length new.lists ≡ length old.lists
  pub kept : (edge : ℕ) (dir : Dir) → (IsTouchedEdgeBySome old edits edge → ⊥) → list_of new edge dir ≡ list_of old edge dir
  pub resettled : (edge : ℕ) (dir : Dir) (ends : Ends) → slice_get new.edges edge ≡ Some ends → IsTouchedEdgeBySome old edits edge
      → IsResettledList new (start_of ends dir) (end_of ends dir) (list_of new edge dir)

-- the hierarchy with its network edited by all of them and the lists of these edges replaced
abbrev pub hierarchy_with_all : HierarchyValue → List Edit → List TouchedEdge → HierarchyValue
hierarchy_with_all h edits touched = record h {
  network = edited_all h.network edits;
  lists = replaced h.lists touched;
}

-- a hierarchy resettled by one edit after the other, and each time a hierarchy
abbrev pub IsResettledInTurn : HierarchyValue → List Edit → HierarchyValue → Type 0
IsResettledInTurn old [] new = new ≡ old
IsResettledInTurn old (edit ∷ edits) new = (mid : HierarchyValue) × IsHierarchy mid × IsResettled old edit mid × IsResettledInTurn mid edits new
