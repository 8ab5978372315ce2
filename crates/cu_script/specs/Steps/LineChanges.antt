-- What an edit line changes, before the checks of its numbers and pieces and behind them.
use Rattle.std.specs.Prelude.{ℕ, List, Option, Some, None, Result, Ok, Err, ◌≡◌, ◌<◌, ◌^◌, nat_lt, length, if◌then◌else◌}
use Rattle.cu_model.specs.declared.profiles.Piece.{Piece}
use Rattle.cu_model.specs.declared.roads.Edit.{Edit}
use Rattle.cu_model.specs.declared.roads.Edit.TheVariants as edit
use Rattle.cu_model.specs.Faults.{piece_fault}
use Rattle.cu_model.specs.Queries.{fields_of_line}
use Rattle.cu_script.specs.EditLines.{assign_checked, set_named}
use Rattle.cu_script.specs.declared.lines.EditRefusal.{EditRefusal}
use Rattle.cu_script.specs.declared.lines.EditRefusal.TheVariants.{Line, Profile}
use Rattle.cu_script.specs.declared.lines.Change.{Change}
use Rattle.cu_script.specs.declared.lines.Change.TheVariants.{Set, Assign}
use Rattle.cu_script.specs.Steps.LinePieces.{all_named, pieces_begun}

-- the edit that gives a profile the pieces of these fields, or the first check that fails
abbrev pub set_answer : ℕ → ℕ → List (List ℕ) → Result Edit EditRefusal
set_answer profiles profile fields = if nat_lt profile profiles then set_named profile (all_named (pieces_begun fields)) else Err Profile

-- a change's edit in a network with so many roads and profiles, or the first check that fails
abbrev pub change_checked : ℕ → ℕ → Change → Result Edit EditRefusal
change_checked arcs profiles (Set profile pieces) = set_answer profiles profile (fields_of_line pieces.now)
change_checked arcs profiles (Assign arc profile) = assign_checked arcs profiles arc profile

-- the change stands for a line of this answer, whatever the numbers of roads and profiles; without one the line is refused
abbrev pub Reads : (ℕ → ℕ → Result Edit EditRefusal) → Option Change → Type 0
Reads answer None = (arcs profiles : ℕ) → answer arcs profiles ≡ Err Line
Reads answer (Some change) = (arcs profiles : ℕ) → arcs < 2 ^ 32 → profiles < 2 ^ 32 → answer arcs profiles ≡ change_checked arcs profiles change

-- how many fields the pieces of a change take
abbrev pub piece_fields : Change → ℕ
piece_fields (Set profile pieces) = length (fields_of_line pieces.now)
piece_fields (Assign arc profile) = 0

-- this answer gives a profile the pieces of these fields, and they have no fault
pub record SetsPieces (profiles : ℕ) (answer : Result Edit EditRefusal) (profile : ℕ) (fields : List (List ℕ)) : Type 0 where
  pub pieces : List Piece
  pub made : answer ≡ Ok (edit.Set profile pieces)
  pub named : all_named (pieces_begun fields) ≡ Some pieces
  pub sound : piece_fault pieces ≡ None
  pub below : profile < profiles

-- this answer is the edit of a change that has passed its checks
abbrev pub Makes : ℕ → ℕ → Result Edit EditRefusal → Change → Type 0
Makes arcs profiles answer (Set profile pieces) = SetsPieces profiles answer profile (fields_of_line pieces.now)
Makes arcs profiles answer (Assign arc profile) = (answer ≡ Ok (edit.Assign arc profile)) × (arc < arcs) × (profile < profiles)
