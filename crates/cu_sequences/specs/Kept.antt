-- Sequences that are kept, by the number of their list: where the roads of each stand among all that are kept, behind how many they are.
use Rattle.std.specs.Prelude.{ℕ, List, Some, ◌≡◌, ◌≢◌, ◌≤◌, ◌+◌, length, slice_get, slice_index}
use Rattle.std.specs.List.{Contains, slice_range}
use Rattle.cu_chordal.specs.declared.graph.Ends.{Ends}
use Rattle.cu_interval.specs.declared.ways.Dir.{Dir}
use Rattle.cu_interval.specs.Hierarchies.{HierarchyValue, end_of, list_number, start_of}
use Rattle.cu_sequences.specs.declared.sequences.TheConstants.{NO_START}
use Rattle.cu_sequences.specs.Sequences.{IsSequence}

-- where each list's roads stand, and what stands there
pub record SequencesValue : Type 0 where
  pub starts : List ℕ
  pub roads : List ℕ

-- the place is there, and so are as many numbers behind it as it says
abbrev pub IsPlace : List ℕ → ℕ → Type 0
IsPlace roads start = start + 1 + slice_index roads start ≤ length roads

-- the roads that stand at a place
abbrev pub roads_at : List ℕ → ℕ → List ℕ
roads_at roads start = slice_range roads (start + 1) (start + 1 + slice_index roads start)

-- the roads of the list with this number are kept
abbrev pub HasSequence : SequencesValue → ℕ → Type 0
HasSequence kept list = (start : ℕ) × (slice_get kept.starts list ≡ Some start) × (start ≢ NO_START)

-- no roads are kept of the list from u to v, or they stand at this place and are its walk at every second
abbrev pub HoldsSequence : HierarchyValue → ℕ → ℕ → List ℕ → ℕ → Type 0
HoldsSequence h u v roads start = start ≢ NO_START → IsPlace roads start × IsSequence h u v (roads_at roads start)

-- this is so of each list
abbrev pub AreSequences : HierarchyValue → SequencesValue → Type 0
AreSequences h kept = (edge : ℕ) (dir : Dir) (ends : Ends) (start : ℕ) → slice_get h.edges edge ≡ Some ends
    → slice_get kept.starts (list_number edge dir) ≡ Some start → HoldsSequence h (start_of ends dir) (end_of ends dir) kept.roads start

-- it is so of each list of an edge that isn't among these
abbrev pub AreSequencesBut : HierarchyValue → SequencesValue → List ℕ → Type 0
AreSequencesBut h kept edges = (edge : ℕ) (dir : Dir) (ends : Ends) (start : ℕ) → slice_get h.edges edge ≡ Some ends → (Contains edges edge → ⊥)
    → slice_get kept.starts (list_number edge dir) ≡ Some start → HoldsSequence h (start_of ends dir) (end_of ends dir) kept.roads start
