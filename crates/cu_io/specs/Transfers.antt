-- Bytes that move out of a source and into a sink, where these tell their bytes.
use Rattle.std.specs.Prelude.{◌≡◌, ℕ, ◌≤◌, ◌↔◌, List, [], ◌++◌, length, take, Option, None, Some}

-- the first n bytes left stand at the front of the buffer and are left no more; n is 0 exactly where none was left
abbrev pub Moves : Option (List ℕ) → Option (List ℕ) → List ℕ → ℕ → Type 0
Moves None now buffer n = Unit {0}
Moves (Some bytes) now buffer n =
    (rest : List ℕ) × (now ≡ Some rest) × (bytes ≡ take n buffer ++ rest) × ((n ≡ 0) ↔ (bytes ≡ []))

-- the bytes written grew by these
abbrev pub Appends : Option (List ℕ) → Option (List ℕ) → List ℕ → Type 0
Appends None now bytes = Unit {0}
Appends (Some before) now bytes = now ≡ Some (before ++ bytes)

-- the bytes written grew by some first bytes of these
abbrev pub AppendsSome : Option (List ℕ) → Option (List ℕ) → List ℕ → Type 0
AppendsSome before now bytes = (n : ℕ) × (n ≤ length bytes) × Appends before now (take n bytes)

-- these bytes were the first of those left, and are left no more
abbrev pub Takes : Option (List ℕ) → Option (List ℕ) → List ℕ → Type 0
Takes None now taken = Unit {0}
Takes (Some before) now taken = (rest : List ℕ) × (now ≡ Some rest) × (before ≡ taken ++ rest)
