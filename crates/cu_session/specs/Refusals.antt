-- The words of a check that a line, or the pieces of a profile, fail.
use Rattle.std.specs.Prelude.{ℕ, List, ◌++◌, codes, decimal}
use Rattle.cu_model.specs.declared.profiles.PieceFault.{PieceFault}
use Rattle.cu_model.specs.declared.profiles.PieceFault.TheVariants.{Limit, Start, Rising, Closed, Early, Fifo}
use Rattle.cu_model.specs.declared.profiles.PieceRefusal.{PieceRefusal}
use Rattle.cu_model.specs.declared.profiles.PieceRefusal.TheVariants as piece
use Rattle.cu_model.specs.declared.queries.QueryRefusal.{QueryRefusal}
use Rattle.cu_model.specs.declared.queries.QueryRefusal.TheVariants as query
use Rattle.cu_day.specs.declared.lines.DayRefusal.{DayRefusal}
use Rattle.cu_day.specs.declared.lines.DayRefusal.TheVariants as day
use Rattle.cu_reach.specs.declared.lines.ManyRefusal.{ManyRefusal}
use Rattle.cu_reach.specs.declared.lines.ManyRefusal.TheVariants as many
use Rattle.cu_script.specs.declared.lines.EditRefusal.{EditRefusal}
use Rattle.cu_script.specs.declared.lines.EditRefusal.TheVariants as edit

abbrev pub piece_fault_words : PieceFault → List ℕ
piece_fault_words (Limit piece) = codes "limit"
piece_fault_words Start = codes "start"
piece_fault_words (Rising piece) = codes "rising"
piece_fault_words (Closed piece) = codes "closed"
piece_fault_words (Early second) = codes "early " ++ decimal second
piece_fault_words (Fifo second) = codes "fifo " ++ decimal second

abbrev pub piece_refusal_words : PieceRefusal → List ℕ
piece_refusal_words piece.Kind = codes "kind"
piece_refusal_words (piece.Fault fault) = piece_fault_words fault

-- the word of a check that a query line fails
abbrev pub check_word : QueryRefusal → List ℕ
check_word query.Line = codes "line"
check_word query.Node = codes "node"
check_word query.Second = codes "second"

-- the word of a check that a line which asks for a day fails
abbrev pub day_check_word : DayRefusal → List ℕ
day_check_word day.Line = codes "line"
day_check_word day.Node = codes "node"

-- the word of a check that a line which asks for a reach, a table or a latest departure fails
abbrev pub many_check_word : ManyRefusal → List ℕ
many_check_word many.Line = codes "line"
many_check_word many.Node = codes "node"
many_check_word many.Second = codes "second"
many_check_word many.Limit = codes "limit"

-- the words of a check that an edit line fails
abbrev pub edit_check_words : EditRefusal → List ℕ
edit_check_words edit.Line = codes "line"
edit_check_words edit.Arc = codes "arc"
edit_check_words edit.Profile = codes "profile"
edit_check_words (edit.Piece refusal) = piece_refusal_words refusal
