-- Functions of shortcuts that are rebuilt from their ways and kept.
use Rattle.std.specs.Prelude.{ℕ, List, [], Option, Some, None, ◌≡◌, ◌≢◌, slice_get}
use Rattle.cu_arrival.specs.declared.runs.Run.{Run}
use Rattle.cu_arrival.specs.Runs.{IsArrivalFunction, arrival_value}
use Rattle.cu_chordal.specs.declared.graph.Ends.{Ends}
use Rattle.cu_interval.specs.declared.shortcuts.Shortcut.{Shortcut}
use Rattle.cu_interval.specs.declared.ways.Dir.{Dir}
use Rattle.cu_interval.specs.Hierarchies.{HierarchyValue, list_number, list_of, start_of, end_of}
use Rattle.cu_interval.specs.Resettling.{rebuilt}
use Rattle.cu_interval.specs.Shortcuts.{number_of}

-- the functions that are kept, by the number of their list
pub record RebuiltValue : Type 0 where
  pub kept : List (Option (List Run))

-- the function of an edge in a direction: none where its list is empty, else an arrival function with the rebuilt values
abbrev pub IsRebuiltFunction : HierarchyValue → ℕ → Dir → Option (List Run) → Type 0
IsRebuiltFunction h edge dir None = list_of h edge dir ≡ []
IsRebuiltFunction h edge dir (Some runs) = (list_of h edge dir ≢ []) × IsArrivalFunction runs
    × ((ends : Ends) → slice_get h.edges edge ≡ Some ends → (t : ℕ) → rebuilt h (start_of ends dir) (end_of ends dir) t ≡ Some (arrival_value runs t))

-- each function that is kept is that of its list in this hierarchy
abbrev pub Keeps : HierarchyValue → RebuiltValue → Type 0
Keeps h value = (edge : ℕ) (dir : Dir) (runs : List Run) → slice_get value.kept (list_number edge dir) ≡ Some (Some runs) → IsRebuiltFunction h edge dir (Some runs)

-- the function of a shortcut is kept
abbrev pub IsKept : List (Option (List Run)) → Shortcut → Type 0
IsKept kept shortcut = (runs : List Run) × (slice_get kept (number_of shortcut) ≡ Some (Some runs))
