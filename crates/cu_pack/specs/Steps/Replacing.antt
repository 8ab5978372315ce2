-- A hierarchy with a network in the place of its own, and new lists of some edges among its own.
use Rattle.std.specs.Prelude.{ℕ, List, Some, ◌≡◌, ◌≢◌, ◌<◌, All, length, map, slice_get}
use Rattle.std.specs.List.Sorted.{IsStrictlyIncreasing}
use Rattle.cu_model.specs.Networks.{NetworkValue}
use Rattle.cu_interval.specs.declared.ways.Dir.{Dir}
use Rattle.cu_interval.specs.declared.ways.Dir.TheVariants.{Up, Down}
use Rattle.cu_interval.specs.declared.ways.Entry.{Entry}
use Rattle.cu_interval.specs.declared.ways.TouchedEdge.{TouchedEdge}
use Rattle.cu_interval.specs.Hierarchies.{HierarchyValue, IsHierarchy}
use Rattle.cu_bounds.specs.KeptBounds.{bounds_of}
use Rattle.cu_pack.specs.declared.layout.Counts.{Counts}
use Rattle.cu_pack.specs.Repacking.{with_roads}
use Rattle.cu_pack.specs.Spelling.{counts_of}

-- a network and new lists leave a hierarchy: the edges rise, and are among the hierarchy's
pub record FitsLists (h : HierarchyValue) (g : NetworkValue) (lists : List TouchedEdge) : Type 0 where
  pub nodes : g.nodes ≡ h.network.nodes
  pub rising : IsStrictlyIncreasing (map (λ (touched : TouchedEdge). touched.edge) lists)
  pub edges : All (λ (touched : TouchedEdge). touched.edge < length h.edges) lists
  pub sound : IsHierarchy (with_roads h g lists)

-- and these are its counts and its least bounds then
pub record FitsFile (h : HierarchyValue) (g : NetworkValue) (lists : List TouchedEdge) (counts : Counts) (bounds : List ℕ) : Type 0 where
  pub fits : FitsLists h g lists
  pub counted : counts ≡ counts_of 2 (with_roads h g lists)
  pub bounded : bounds ≡ bounds_of (with_roads h g lists)

-- the new list of an edge in a direction
abbrev pub list_after : TouchedEdge → Dir → List Entry
list_after touched Up = touched.up
list_after touched Down = touched.down

-- this is the new list of an edge in a direction
pub record IsNewList (lists : List TouchedEdge) (edge : ℕ) (dir : Dir) (entries : List Entry) : Type 0 where
  pub place : ℕ
  pub touched : TouchedEdge
  pub there : slice_get lists place ≡ Some touched
  pub same : touched.edge ≡ edge
  pub list : entries ≡ list_after touched dir

-- an edge has no new lists
abbrev pub IsUntouched : List TouchedEdge → ℕ → Type 0
IsUntouched lists edge = (i : ℕ) (touched : TouchedEdge) → slice_get lists i ≡ Some touched → touched.edge ≢ edge
