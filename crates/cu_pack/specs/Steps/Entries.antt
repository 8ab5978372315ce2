-- One entry of a way list after the other.
use Rattle.std.specs.Prelude.{ℕ, List, [], ◌≡◌, ◌≢◌, ◌≤◌, ◌<◌, ◌-◌, ◌⊎◌}
use Rattle.cu_model.specs.Days.{day}
use Rattle.cu_chordal.specs.declared.graph.Ends.{Ends}
use Rattle.cu_chordal.specs.Graphs.{HasEdge}
use Rattle.cu_interval.specs.declared.ways.Dir.{Dir}
use Rattle.cu_interval.specs.declared.ways.Entry.{Entry}
use Rattle.cu_interval.specs.Hierarchies.{IsWellFormed, end_of, list_from, start_of}
use Rattle.cu_interval.specs.WayLists.{Turns}
use Rattle.cu_pack.specs.Reading.{decoded, entry_from, entry_kind, entry_place}

-- an entry, counted over all lists
abbrev pub entry_at : List ℕ → ℕ → Entry
entry_at bytes entry = entry_from bytes (entry_place bytes entry)

-- an entry of a list that starts with this one: it is past the day, first but not from second 0, or no turn from the one before
abbrev pub IsOutOfTurn : List ℕ → ℕ → ℕ → Type 0
IsOutOfTurn bytes start entry =
    (day ≤ (entry_at bytes entry).from) ⊎ ((entry ≡ start) × ((entry_at bytes entry).from ≢ 0))
    ⊎ ((start < entry) × (Turns (entry_at bytes (entry - 1)) (entry_at bytes entry) → ⊥))

-- an entry of a list from rank u to rank v is of no kind, out of turn, or its way isn't well formed
abbrev pub IsWrongEntry : List ℕ → ℕ → ℕ → ℕ → ℕ → Type 0
IsWrongEntry bytes start u v entry =
    (1 < entry_kind bytes entry) ⊎ IsOutOfTurn bytes start entry
    ⊎ (IsWellFormed (decoded bytes) u v (entry_at bytes entry).way → ⊥)

-- one of these entries is wrong
abbrev pub HasWrongEntry : List ℕ → ℕ → ℕ → ℕ → ℕ → Type 0
HasWrongEntry bytes start end u v = (entry : ℕ) × (start ≤ entry) × (entry < end) × IsWrongEntry bytes start u v entry

-- an edge joins the ends, and its list in this direction has entries
abbrev pub HasWay : List ℕ → Ends → Dir → Type 0
HasWay bytes ends dir = HasEdge (decoded bytes).edges ends.low ends.high × (list_from (decoded bytes) (start_of ends dir) (end_of ends dir) ≢ [])
