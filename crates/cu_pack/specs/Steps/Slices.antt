-- Entries that stand one behind the other.
use Rattle.std.specs.Prelude.{ℕ, List, ◌≤◌, ◌<◌, ◌+◌, ◌-◌, ◌*◌, ◌^◌, length, map}
use Rattle.std.specs.List.{range_with_len}
use Rattle.cu_interval.specs.declared.ways.Entry.{Entry}
use Rattle.cu_interval.specs.WayLists.{IsWayList}
use Rattle.cu_pack.specs.Reading.{entry_from}

-- so many entries from a place on
abbrev pub entries_from : List ℕ → (at count : ℕ) → List Entry
entries_from bytes at count = map (λ index. entry_from bytes (at + 12 * index)) (range_with_len 0 count)

-- they are all there before the digest, at places that fit into 64 bits, and a way list
pub record IsWaySlice (bytes : List ℕ) (at count : ℕ) : Type 0 where
  pub room : at + 12 * count ≤ length bytes - 32
  pub fits : at + 12 * count < 2 ^ 64
  pub spelled : IsWayList (entries_from bytes at count)
