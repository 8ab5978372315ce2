-- Resettled hierarchies: what an edit leaves of any hierarchy, built or not.
use Rattle.std.specs.Prelude.{ℕ, zero, suc, List, [], ◌∷◌, Option, Some, None, ◌≡◌, ◌≢◌, ◌<◌, ◌+◌, ◌*◌, ◌/◌, ◌%◌, ◌^◌, min, length, option_map, slice_get}
use Rattle.cu_model.specs.declared.roads.Edit.{Edit}
use Rattle.cu_model.specs.Edits.{edited}
use Rattle.cu_model.specs.Networks.{NetworkValue}
use Rattle.cu_model.specs.Days.{day}
use Rattle.cu_model.specs.Roads.{drive}
use Rattle.cu_chordal.specs.declared.graph.Ends.{Ends}
use Rattle.cu_interval.specs.declared.ways.Dir.{Dir}
use Rattle.cu_interval.specs.declared.ways.Way.{Way}
use Rattle.cu_interval.specs.declared.ways.Way.TheVariants.{Road, Via}
use Rattle.cu_interval.specs.declared.ways.Entry.{Entry}
use Rattle.cu_interval.specs.Low.{LeadsRanks}
use Rattle.cu_interval.specs.WayLists.{IsRunsOf}
use Rattle.cu_interval.specs.Hierarchies.{HierarchyValue, list_from, list_of, start_of, end_of}
use Rattle.cu_interval.specs.Touching.{IsTouchedEdge}

-- the lesser of two values where both are there, else the one that is
abbrev pub lesser_of : Option ℕ → Option ℕ → Option ℕ
lesser_of None second = second
lesser_of (Some x) None = Some x
lesser_of (Some x) (Some y) = Some (min x y)

-- the least value of the ways in a list
abbrev pub least_in : (Way → Option ℕ) → List Entry → Option ℕ
least_in value [] = None
least_in value (entry ∷ entries) = lesser_of (value entry.way) (least_in value entries)

-- a second half asked where the first arrives, up to 2^62
abbrev pub then_at : Option ℕ → (ℕ → Option ℕ) → Option ℕ
then_at None half = None
then_at (Some x) half = option_map (λ y. min y (2 ^ 62)) (half x)

-- the value of a way from u to v at t, by a value for its halves
abbrev pub value_by : NetworkValue → (ℕ → ℕ → ℕ → Option ℕ) → ℕ → ℕ → ℕ → Way → Option ℕ
value_by g half u v t (Road a) = Some (drive g (a ∷ []) t)
value_by g half u v t (Via m) = then_at (half u m t) (half m v)

-- the least value of the ways from u to v, by no more levels of middles than the fuel; it repeats by whole days
abbrev pub rebuilt_by : HierarchyValue → ℕ → ℕ → ℕ → ℕ → Option ℕ
rebuilt_by h zero u v t = None
rebuilt_by h (suc fuel) u v t = option_map (λ value. day * (t / day) + value) (least_in (value_by h.network (rebuilt_by h fuel) u v (t % day)) (list_from h u v))

-- the rebuilt value from u to v at t: each middle is below both ends, so there are no more levels than this
abbrev pub rebuilt : HierarchyValue → ℕ → ℕ → ℕ → Option ℕ
rebuilt h u v t = rebuilt_by h (suc (min u v)) u v t

-- the candidates from u to v in a hierarchy: each road that leads there, and each lower middle whose halves have a way
abbrev pub IsCandidateIn : HierarchyValue → ℕ → ℕ → Way → Type 0
IsCandidateIn h u v (Road a) = LeadsRanks h.network h.order a u v
IsCandidateIn h u v (Via m) = (m < u) × (m < v) × (list_from h u m ≢ []) × (list_from h m v ≢ [])

-- when a way from u to v arrives, by the rebuilt values of its halves
abbrev pub ArrivesIn : HierarchyValue → ℕ → ℕ → ℕ → Way → ℕ → Type 0
ArrivesIn h u v t way arrival = value_by h.network (rebuilt h) u v t way ≡ Some arrival

-- the resettled list from u to v: the maximal runs of the first candidates that arrive earliest in the hierarchy itself
abbrev pub IsResettledList : HierarchyValue → ℕ → ℕ → List Entry → Type 0
IsResettledList h u v entries = IsRunsOf (IsCandidateIn h u v) (ArrivesIn h u v) entries

-- a hierarchy resettled by an edit: the network edited, the lists of the touched edges resettled, and all else as it was
pub record IsResettled (old : HierarchyValue) (edit : Edit) (new : HierarchyValue) : Type 0 where
  pub network : new.network ≡ edited old.network edit
  pub order : new.order ≡ old.order
  pub edges : new.edges ≡ old.edges
  pub lists : length new.lists ≡ length old.lists
  pub kept : (edge : ℕ) (dir : Dir) → (IsTouchedEdge old edit edge → ⊥) → list_of new edge dir ≡ list_of old edge dir
  pub resettled : (edge : ℕ) (dir : Dir) (ends : Ends) → slice_get new.edges edge ≡ Some ends → IsTouchedEdge old edit edge
      → IsResettledList new (start_of ends dir) (end_of ends dir) (list_of new edge dir)
