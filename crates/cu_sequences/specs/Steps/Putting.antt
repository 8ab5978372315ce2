-- Roads that are added to those that are kept.
use Rattle.std.specs.Prelude.{ℕ, List, [], ◌∷◌, ◌++◌, Some, ◌≡◌, ◌≢◌, length, slice_get}
use Rattle.std.specs.List.{Contains}
use Rattle.cu_chordal.specs.declared.graph.Ends.{Ends}
use Rattle.cu_interval.specs.declared.shortcuts.Shortcut.{Shortcut}
use Rattle.cu_interval.specs.declared.ways.Dir.{Dir}
use Rattle.cu_interval.specs.declared.ways.Entry.{Entry}
use Rattle.cu_interval.specs.declared.ways.Way.{Way}
use Rattle.cu_interval.specs.Hierarchies.{HierarchyValue, end_of, list_from, list_number, start_of}
use Rattle.cu_sequences.specs.declared.sequences.TheConstants.{NO_START}
use Rattle.cu_sequences.specs.Kept.{HoldsSequence, IsPlace, roads_at}

-- some numbers were added, or none
abbrev pub Grows : List ℕ → List ℕ → Type 0
Grows before now = (more : List ℕ) × (now ≡ before ++ more)

-- these roads were added behind how many they are, and stand at this place
abbrev pub PutsAt : List ℕ → List ℕ → ℕ → List ℕ → Type 0
PutsAt before now start roads = (start ≡ length before) × (now ≡ before ++ (length roads ∷ roads))

-- they were, or the place is none
abbrev pub Puts : List ℕ → List ℕ → ℕ → List ℕ → Type 0
Puts before now start roads = start ≢ NO_START → PutsAt before now start roads

-- the roads at both places were, one behind the other
abbrev pub PutsBoth : List ℕ → List ℕ → ℕ → (first second : ℕ) → Type 0
PutsBoth before now start first second =
    start ≢ NO_START → (first ≢ NO_START) × (second ≢ NO_START) × (IsPlace before first → IsPlace before second
    → PutsAt before now start (roads_at before first ++ roads_at before second))

-- what stands at a place is the sequence of the list between these ends, if this way is that of its only entry
abbrev pub PutsWay : HierarchyValue → Shortcut → Way → List ℕ → ℕ → Type 0
PutsWay h shortcut way roads start = (ends : Ends) (entry : Entry) → slice_get h.edges shortcut.edge ≡ Some ends
    → list_from h (start_of ends shortcut.dir) (end_of ends shortcut.dir) ≡ entry ∷ [] → entry.way ≡ way
    → HoldsSequence h (start_of ends shortcut.dir) (end_of ends shortcut.dir) roads start

-- nothing stands for the lists of these edges, and each other list's roads stand where they stood, or nothing stands for it
abbrev pub Forgets : List ℕ → List ℕ → List ℕ → Type 0
Forgets before now edges = (edge : ℕ) (dir : Dir) (start : ℕ) → slice_get now (list_number edge dir) ≡ Some start → start ≢ NO_START
    → (slice_get before (list_number edge dir) ≡ Some start) × (Contains edges edge → ⊥)
