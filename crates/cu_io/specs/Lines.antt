-- The lines of a text.
use Rattle.std.specs.Prelude.{ℕ, List, [], ◌∷◌, ◌++◌, ◌-◌, ◌<◌, ◌≡◌, ◌⊎◌, ◌==◌, Bool, true, false, All, length, take, slice_index, count_by, if◌then◌else◌}
use Rattle.std.specs.List.{onto_first}

-- the lines of a text, each without its line feed: what follows the last one is a line only where it isn't empty
abbrev pub lines_of : List ℕ → List (List ℕ)
lines_of [] = []
lines_of (byte ∷ bytes) = if byte == 10 then [] ∷ lines_of bytes else onto_first byte (lines_of bytes)

-- how many line feeds there are
abbrev pub feeds : List ℕ → ℕ
feeds bytes = count_by (λ byte. byte == 10) bytes

-- those of its lines that end with a line feed
abbrev pub ended_lines_of : List ℕ → List (List ℕ)
ended_lines_of bytes = take (feeds bytes) (lines_of bytes)

-- a line without one carriage return at its end
abbrev pub without_return : List ℕ → List ℕ
without_return line = if slice_index line (length line - 1) == 13 then take (length line - 1) line else line

-- no byte is a line feed
abbrev pub HasNoFeed : List ℕ → Type 0
HasNoFeed bytes = All (λ byte. (byte == 10) ≡ false) bytes

-- the first line of the bytes, which a line feed ends, or the end of input where this is known to stand behind them; and what stands
-- behind the line
abbrev pub IsFirstLine : List ℕ → Bool → List ℕ → List ℕ → Type 0
IsFirstLine bytes ended line behind = HasNoFeed line ×
    ((bytes ≡ line ++ 10 ∷ behind) ⊎ ((ended ≡ true) × (0 < length line) × (bytes ≡ line) × (behind ≡ [])))
