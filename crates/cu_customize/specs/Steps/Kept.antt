-- What is built so far, and of which lists the functions are kept.
use Rattle.std.specs.Prelude.{ℕ, List, Option, Some, None, ◌≡◌, ◌≢◌, ◌≤◌, ◌<◌, ◌*◌, length, slice_get}
use Rattle.cu_model.specs.Networks.{NetworkValue}
use Rattle.cu_model.specs.Orders.{OrderValue}
use Rattle.cu_arrival.specs.declared.runs.Run.{Run}
use Rattle.cu_chordal.specs.declared.graph.Ends.{Ends}
use Rattle.cu_chordal.specs.Graphs.{first_edge_of}
use Rattle.cu_interval.specs.declared.ways.Dir.{Dir}
use Rattle.cu_interval.specs.declared.ways.Entry.{Entry}
use Rattle.cu_interval.specs.FirstWays.{IsBuiltList}
use Rattle.cu_interval.specs.Hierarchies.{end_of, list_number, start_of}
use Rattle.cu_customize.specs.Functions.{IsLowFunction}
use Rattle.cu_runs.specs.Layers.{value_kept}

-- the lists with the first numbers are the built ones, and the functions with these numbers those of the low walks
pub record IsBuiltTo (g : NetworkValue) (o : OrderValue) (edges : List Ends) (count : ℕ) (functions : List (Option (List Run))) (lists : List (List Entry)) : Type 0 where
  pub functions_long : length functions ≡ count
  pub lists_long : length lists ≡ count
  pub low : (edge : ℕ) (dir : Dir) (ends : Ends) → slice_get edges edge ≡ Some ends → list_number edge dir < count
      → IsLowFunction g o (start_of ends dir) (end_of ends dir) (value_kept (slice_get functions (list_number edge dir)))
  pub built : (edge : ℕ) (dir : Dir) (ends : Ends) (entries : List Entry) → slice_get edges edge ≡ Some ends → list_number edge dir < count
      → slice_get lists (list_number edge dir) ≡ Some entries → IsBuiltList g o (start_of ends dir) (end_of ends dir) entries

-- of all these functions those are kept whose edge's higher end is at least the lower end of the edge that is next
pub record Keeps (edges : List Ends) (edge : ℕ) (whole kept : List (Option (List Run))) : Type 0 where
  pub long : length kept ≡ length whole
  pub same : (e : ℕ) (dir : Dir) (ends next : Ends) → slice_get edges e ≡ Some ends → slice_get edges edge ≡ Some next → next.low ≤ ends.high
      → slice_get kept (list_number e dir) ≡ slice_get whole (list_number e dir)

-- the lists with the first numbers are built, and of their functions those are kept that this edge, which is next, or a later one may take a half from
abbrev pub IsBuilding : NetworkValue → OrderValue → List Ends → ℕ → ℕ → List (Option (List Run)) → List (List Entry) → Type 0
IsBuilding g o edges edge count functions lists = (whole : List (Option (List Run))) × IsBuiltTo g o edges count whole lists × Keeps edges edge whole functions

-- so it is where the edges up from this rank are next
abbrev pub IsBuildingFrom : NetworkValue → OrderValue → List Ends → ℕ → List (Option (List Run)) → List (List Entry) → Type 0
IsBuildingFrom g o edges rank functions lists = IsBuilding g o edges (first_edge_of edges rank) (2 * first_edge_of edges rank) functions lists

-- all lists are built
abbrev pub AreBuilt : NetworkValue → OrderValue → List Ends → List (List Entry) → Type 0
AreBuilt g o edges lists = (whole : List (Option (List Run))) × IsBuiltTo g o edges (2 * length edges) whole lists

-- of the edges to this rank no function is kept
abbrev pub AreDropped : List Ends → ℕ → List (Option (List Run)) → Type 0
AreDropped edges rank kept = (e : ℕ) (dir : Dir) (ends : Ends) → slice_get edges e ≡ Some ends → ends.high ≡ rank → slice_get kept (list_number e dir) ≡ Some None

-- both functions of this edge are dropped, and no others change
pub record DropsEdge (edge : ℕ) (old new : List (Option (List Run))) : Type 0 where
  pub dropped : (dir : Dir) → slice_get new (list_number edge dir) ≡ Some None
  pub same : (e : ℕ) (dir : Dir) → e ≢ edge → slice_get new (list_number e dir) ≡ slice_get old (list_number e dir)
