-- Looking a list up.
use Rattle.std.specs.Prelude.{ℕ, [], Some, ◌≡◌, ◌≢◌, ◌≤◌, ◌<◌, ◌%◌, slice_get}
use Rattle.cu_model.specs.Days.{day}
use Rattle.cu_chordal.specs.declared.graph.Ends.{Ends}
use Rattle.cu_interval.specs.declared.ways.Dir.{Dir}
use Rattle.cu_interval.specs.declared.ways.Way.TheVariants.{Via}
use Rattle.cu_interval.specs.Hierarchies.{HierarchyValue, start_of, end_of, list_from, list_number, way_from}
use Rattle.cu_recall.specs.declared.pending.Asked.{Asked}
use Rattle.cu_recall.specs.declared.pending.Found.{Found}
use Rattle.cu_recall.specs.declared.pending.Found.TheVariants as found
use Rattle.cu_recall.specs.declared.pending.Parted.{Parted}
use Rattle.cu_recall.specs.declared.pending.Seen.{Seen}
use Rattle.cu_recall.specs.declared.spans.Met.{Met}
use Rattle.cu_recall.specs.declared.spans.Parts.{Parts}
use Rattle.cu_recall.specs.declared.spans.Parts.TheVariants as part
use Rattle.cu_recall.specs.Spans.{AreHalvesAt, HoldsMet, HoldsSpan, IsListFrom, met_of}
use Rattle.cu_recall.specs.Windows.{HoldsDriven, IsNear, IsWindow}

-- what was read of a list is so
abbrev pub HoldsSeen : HierarchyValue → ℕ → Seen → Type 0
HoldsSeen h list seen = HoldsSpan h list seen.widest × HoldsMet h list (met_of seen.met)

-- a list that is there and isn't empty, asked at a second of the day
abbrev pub IsAsked : HierarchyValue → Asked → Type 0
IsAsked h asked = (u v : ℕ) × IsListFrom h asked.list u v × (list_from h u v ≢ []) × (asked.second < day)

-- the list of an edge in a direction, asked at the second of the day of an absolute second
abbrev pub edge_asked : ℕ → Dir → ℕ → Asked
edge_asked edge dir t = record { list = list_number edge dir; second = t % day }

-- an entry of the list, in force at the second
abbrev pub IsMetAt : HierarchyValue → Asked → Met → Type 0
IsMetAt h asked met = HoldsMet h asked.list met × (met.from ≤ asked.second) × (asked.second < met.until)

-- near the second the way in force has these halves
abbrev pub HoldsParted : HierarchyValue → Asked → Parted → Type 0
HoldsParted h asked parted =
    IsWindow asked.second parted.back parted.ahead
    × ((u v : ℕ) → IsListFrom h asked.list u v
    → (middle : ℕ) × AreHalvesAt h u v parted.first parted.rest middle × ((t : ℕ) → IsNear asked.second parted.back parted.ahead t → way_from h u v t ≡ Some (Via middle)))

abbrev pub Finds : HierarchyValue → Asked → Found → Type 0
Finds h asked (found.Driven driven) = HoldsDriven h asked.list asked.second driven
Finds h asked (found.Parted parted) = HoldsParted h asked parted

-- the halves of an edge in a direction at a middle
abbrev pub HoldsPartsOf : HierarchyValue → ℕ → Dir → ℕ → Parts → Type 0
HoldsPartsOf h edge dir middle (part.Road road) = ⊥
HoldsPartsOf h edge dir middle (part.Halves first second) = (ends : Ends) → slice_get h.edges edge ≡ Some ends → AreHalvesAt h (start_of ends dir) (end_of ends dir) first second middle
