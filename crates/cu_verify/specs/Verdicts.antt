-- What a comparison of a hierarchy's way lists with the built ones finds.
use Rattle.std.specs.Prelude.{ℕ, List, Option, ◌≡◌, ◌≢◌, ◌<◌, length, take}
use Rattle.cu_model.specs.Days.{day}
use Rattle.cu_interval.specs.declared.ways.Dir.{Dir}
use Rattle.cu_interval.specs.declared.ways.Entry.{Entry}
use Rattle.cu_interval.specs.declared.ways.Way.{Way}
use Rattle.cu_interval.specs.Hierarchies.{HierarchyValue, IsBuilt, list_number, list_of}
use Rattle.cu_interval.specs.WayLists.{way_at}
use Rattle.cu_verify.specs.declared.verdicts.Verdict.{Verdict}
use Rattle.cu_verify.specs.declared.verdicts.Verdict.TheVariants.{Same, Differs}

-- two lists take other ways at this second of the day, and the same at each earlier one
pub record PartAt (stored built : List Entry) (second : ℕ) : Type 0 where
  pub within : second < day
  pub apart : way_at stored second ≢ way_at built second
  pub before : (earlier : ℕ) → earlier < second → way_at stored earlier ≡ way_at built earlier

-- the list of an edge in a direction is the first, by number, in which two hierarchies with the same edges differ; it does so first at
-- this second, where the one takes the way stored and the other the way built, if it has any
pub record DifferFirst (h other : HierarchyValue) (edge : ℕ) (dir : Dir) (second : ℕ) (stored built : Option Way) : Type 0 where
  pub there : edge < length h.edges
  pub earlier : take (list_number edge dir) h.lists ≡ take (list_number edge dir) other.lists
  pub part : PartAt (list_of h edge dir) (list_of other edge dir) second
  pub stored_way : stored ≡ way_at (list_of h edge dir) second
  pub built_way : built ≡ way_at (list_of other edge dir) second

-- a hierarchy with other lists
abbrev pub with_lists : HierarchyValue → List (List Entry) → HierarchyValue
with_lists h lists = record h { lists = lists }

-- a verdict over a hierarchy is right: it is the built one; or it isn't, and this is where it first differs from the built one of its
-- network and order
abbrev pub IsVerdict : HierarchyValue → Verdict → Type 0
IsVerdict h Same = IsBuilt h
IsVerdict h (Differs edge dir second stored built) =
    (IsBuilt h → ⊥) × (lists : List (List Entry)) × IsBuilt (with_lists h lists) × DifferFirst h (with_lists h lists) edge dir second stored built
