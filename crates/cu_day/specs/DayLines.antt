-- The checks of a day line, in their order: `line`, `node`.
use Rattle.std.specs.Prelude.{ℕ, List, [], ◌∷◌, Result, Ok, Err, ◌&&◌, nat_lt, if◌then◌else◌, codes, bytes_eq}
use Rattle.cu_model.specs.Numbers.{is_number_word, number_value}
use Rattle.cu_model.specs.Queries.{fields_of_line}
use Rattle.cu_day.specs.declared.lines.DayAsked.{DayAsked}
use Rattle.cu_day.specs.declared.lines.DayRefusal.{DayRefusal}
use Rattle.cu_day.specs.declared.lines.DayRefusal.TheVariants.{Line, Node}

abbrev pub checked_day : ℕ → ℕ → ℕ → Result DayAsked DayRefusal
checked_day nodes from to = if nat_lt from nodes && nat_lt to nodes then Ok (record { from = from; to = to }) else Err Node

abbrev pub day_of_fields : ℕ → List (List ℕ) → Result DayAsked DayRefusal
day_of_fields nodes (word ∷ from ∷ to ∷ []) =
    if bytes_eq word (codes "d") && is_number_word from && is_number_word to then checked_day nodes (number_value from)
    (number_value to) else Err Line
day_of_fields nodes _ = Err Line

-- the day that a line asks of a network with so many nodes, or the first check that fails
abbrev pub day_of : ℕ → List ℕ → Result DayAsked DayRefusal
day_of nodes line = day_of_fields nodes (fields_of_line line)
