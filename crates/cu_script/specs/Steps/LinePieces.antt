-- The pieces of an edit line as they are read: three fields after three.
use Rattle.std.specs.Prelude.{ℕ, List, [], ◌∷◌, Bool, true, false, Option, Some, None, ◌≡◌, ◌<◌, ◌&&◌, length, if◌then◌else◌}
use Rattle.std.specs.Borrow.{Bor}
use Rattle.std.specs.List.{filter_map}
use Rattle.std.specs.Option.{option_map}
use Rattle.cu_model.specs.declared.profiles.Piece.{Piece}
use Rattle.cu_model.specs.declared.profiles.PieceRefusal.{PieceRefusal}
use Rattle.cu_model.specs.declared.profiles.PieceRefusal.TheVariants.{Kind, Fault}
use Rattle.cu_model.specs.Faults.{piece_fault}
use Rattle.cu_model.specs.Numbers.{is_number_word}
use Rattle.cu_model.specs.Queries.{fields_of_line}
use Rattle.cu_tables.specs.Tables.{kept_number}
use Rattle.cu_profile.specs.ProfileTexts.{piece_of_fields}
use Rattle.cu_script.specs.EditLines.{onto_named}
use Rattle.cu_script.specs.declared.lines.pieces.CutPiece.{CutPiece}
use Rattle.cu_script.specs.declared.lines.pieces.Pieces.{Pieces}

-- the fields of the rest of a line; none where nothing is left
abbrev pub fields_left : Option (Bor (List ℕ)) → List (List ℕ)
fields_left None = []
fields_left (Some rest) = fields_of_line rest.now

-- whether fields stand by threes, whose seconds and numbers are number words
abbrev pub stand_by_threes : List (List ℕ) → Bool
stand_by_threes [] = true
stand_by_threes (from ∷ kind ∷ value ∷ fields) = is_number_word from && is_number_word value && stand_by_threes fields
stand_by_threes _ = false

-- the pieces of the threes that fields begin with, none in the place of one whose kind is no word of a kind
abbrev pub pieces_begun : List (List ℕ) → List (Option Piece)
pieces_begun [] = []
pieces_begun (from ∷ kind ∷ value ∷ fields) =
    if is_number_word from && is_number_word value
    then piece_of_fields kind (kept_number from) (kept_number value) ∷ pieces_begun fields
    else []
pieces_begun _ = []

-- the pieces that an iterator still has
abbrev pub pieces_left : Pieces → List (Option Piece)
pieces_left pieces = pieces_begun (fields_left pieces.rest)

-- a line's first piece, none where its kind is no word of a kind, and what stands behind it; nothing where it has no first three
abbrev pub CutsPiece : List ℕ → Option CutPiece → Type 0
CutsPiece line None = (stand_by_threes (fields_of_line line) ≡ false) × (pieces_begun (fields_of_line line) ≡ [])
CutsPiece line (Some cut) =
    (stand_by_threes (fields_of_line line) ≡ stand_by_threes (fields_left cut.rest))
    × (pieces_begun (fields_of_line line) ≡ cut.piece ∷ pieces_begun (fields_left cut.rest))
    × (length (fields_left cut.rest) < length (fields_of_line line))

-- these pieces, where none is missing
abbrev pub all_named : List (Option Piece) → Option (List Piece)
all_named [] = Some []
all_named (piece ∷ pieces) = onto_named piece (all_named pieces)

-- these pieces but for those that are missing
abbrev pub those_named : List (Option Piece) → List Piece
those_named pieces = filter_map (λ piece. piece) pieces

-- why pieces are no profile, none where they are one; one that is missing goes before their faults
abbrev pub pieces_refusal : Option (List Piece) → Option PieceRefusal
pieces_refusal None = Some Kind
pieces_refusal (Some pieces) = option_map Fault (piece_fault pieces)
