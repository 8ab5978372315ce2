-- Road sequences: lists whose walk has the same roads at every second.
use Rattle.std.specs.Prelude.{ℕ, zero, suc, List, [], ◌∷◌, ◌++◌, Option, Some, None, ◌≡◌, ◌≢◌, min}
use Rattle.cu_interval.specs.declared.ways.Way.{Way}
use Rattle.cu_interval.specs.declared.ways.Way.TheVariants.{Road, Via}
use Rattle.cu_interval.specs.declared.ways.Entry.{Entry}
use Rattle.cu_interval.specs.Hierarchies.{HierarchyValue, list_from}
use Rattle.cu_interval.specs.Unpacking.{unpacked_walk}

-- some way leads from u to v, and at every second its walk is these roads
abbrev pub IsSequence : HierarchyValue → ℕ → ℕ → List ℕ → Type 0
IsSequence h u v roads = (list_from h u v ≢ []) × ((t : ℕ) → unpacked_walk h u v t ≡ roads)

-- both sequences behind one another, where there are both
abbrev pub joined : Option (List ℕ) → Option (List ℕ) → Option (List ℕ)
joined None second = None
joined (Some first) None = None
joined (Some first) (Some second) = Some (first ++ second)

-- the roads of a way from u to v, by a sequence for its halves
abbrev pub way_sequence : (ℕ → ℕ → Option (List ℕ)) → ℕ → ℕ → Way → Option (List ℕ)
way_sequence half u v (Road a) = Some (a ∷ [])
way_sequence half u v (Via m) = joined (half u m) (half m v)

-- those of a list: of its only entry
abbrev pub list_sequence : (ℕ → ℕ → Option (List ℕ)) → ℕ → ℕ → List Entry → Option (List ℕ)
list_sequence half u v [] = None
list_sequence half u v (entry ∷ []) = way_sequence half u v entry.way
list_sequence half u v (entry ∷ next ∷ entries) = None

-- by no more levels of middles than the fuel
abbrev pub sequence_by : HierarchyValue → ℕ → ℕ → ℕ → Option (List ℕ)
sequence_by h zero u v = None
sequence_by h (suc fuel) u v = list_sequence (sequence_by h fuel) u v (list_from h u v)

-- the sequence from u to v, where the only entries tell it: each middle is below both ends, so there are no more levels than this
abbrev pub sequence_from : HierarchyValue → ℕ → ℕ → Option (List ℕ)
sequence_from h u v = sequence_by h (suc (min u v)) u v
