-- Starts of lists that stand behind others.
use Rattle.std.specs.Prelude.{ℕ, List, ◌+◌, ◌-◌, map, slice_range}
use Rattle.std.specs.List.{range_with_len}
use Rattle.cu_pack.specs.Spelling.{total}

-- how many there are before each list from one on up to another, where so many are before the first
abbrev pub starts_between : {T : Type 0} → List (List T) → (first end start : ℕ) → List ℕ
starts_between lists first end start = map (λ list. start + total (slice_range lists first list)) (range_with_len first (end - first))
