-- The checks of a line that asks for the drive of a query, in their order: those of a query's line.
use Rattle.std.specs.Prelude.{ℕ, List, [], ◌∷◌, Result, Err, ◌&&◌, if◌then◌else◌, codes, bytes_eq}
use Rattle.cu_model.specs.declared.queries.Query.{Query}
use Rattle.cu_model.specs.declared.queries.QueryRefusal.{QueryRefusal}
use Rattle.cu_model.specs.declared.queries.QueryRefusal.TheVariants.{Line}
use Rattle.cu_model.specs.Numbers.{is_number_word, number_value}
use Rattle.cu_model.specs.Queries.{checked_query, fields_of_line}

abbrev pub drive_of_fields : ℕ → List (List ℕ) → Result Query QueryRefusal
drive_of_fields nodes (word ∷ from ∷ to ∷ second ∷ []) =
    if bytes_eq word (codes "v") && is_number_word from && is_number_word to && is_number_word second
    then checked_query nodes (number_value from) (number_value to) (number_value second)
    else Err Line
drive_of_fields nodes _ = Err Line

-- the query whose drive a line asks for, of a network with so many nodes, or the first check that fails
abbrev pub drive_of : ℕ → List ℕ → Result Query QueryRefusal
drive_of nodes line = drive_of_fields nodes (fields_of_line line)
