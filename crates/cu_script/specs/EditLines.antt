-- The checks of an edit line, in their order: `line`, `arc`, `profile`, `kind`, then those of its pieces. Each is made over the whole line
-- before the next.
use Rattle.std.specs.Prelude.{ℕ, List, [], ◌∷◌, Option, Some, None, Result, Ok, Err, ◌&&◌, nat_lt, if◌then◌else◌, codes, bytes_eq}
use Rattle.std.specs.Option.{option_map}
use Rattle.cu_model.specs.declared.profiles.Piece.{Piece}
use Rattle.cu_model.specs.declared.profiles.PieceFault.{PieceFault}
use Rattle.cu_model.specs.declared.profiles.PieceRefusal.TheVariants as piece
use Rattle.cu_model.specs.declared.roads.Edit.{Edit}
use Rattle.cu_model.specs.declared.roads.Edit.TheVariants.{Set, Assign}
use Rattle.cu_model.specs.Faults.{piece_fault}
use Rattle.cu_model.specs.Numbers.{is_number_word, number_value}
use Rattle.cu_model.specs.Profiles.{IsProfile}
use Rattle.cu_model.specs.Queries.{fields_of_line}
use Rattle.cu_tables.specs.Tables.{kept_number}
use Rattle.cu_profile.specs.ProfileTexts.{piece_of_fields}
use Rattle.cu_script.specs.declared.lines.EditRefusal.{EditRefusal}
use Rattle.cu_script.specs.declared.lines.EditRefusal.TheVariants.{Line, Arc, Profile, Piece as BadPiece}

-- a line that was checked, and the numbers of roads and profiles that it was checked against
pub record CheckedLine : Type 0 where
  pub line : List ℕ
  pub arcs : ℕ
  pub profiles : ℕ

-- the words of a piece: from which second on, the kind, and its number
pub record PieceWords : Type 0 where
  pub from : List ℕ
  pub kind : List ℕ
  pub value : List ℕ

-- the words of each piece, where fields stand by threes and their seconds and numbers are number words
abbrev pub words_of_pieces : List (List ℕ) → Option (List PieceWords)
words_of_pieces [] = Some []
words_of_pieces (from ∷ kind ∷ value ∷ fields) =
    if is_number_word from && is_number_word value
    then option_map (λ words. record { from = from; kind = kind; value = value } ∷ words) (words_of_pieces fields)
    else None
words_of_pieces _ = None

abbrev pub piece_of_words : PieceWords → Option Piece
piece_of_words words = piece_of_fields words.kind (kept_number words.from) (kept_number words.value)

abbrev pub onto_named : Option Piece → Option (List Piece) → Option (List Piece)
onto_named None pieces = None
onto_named (Some piece) pieces = option_map (λ more. piece ∷ more) pieces

-- the pieces of these words, where each kind is a word of a kind
abbrev pub pieces_named : List PieceWords → Option (List Piece)
pieces_named [] = Some []
pieces_named (words ∷ more) = onto_named (piece_of_words words) (pieces_named more)

-- a profile with this number is given these pieces, or their fault
abbrev pub set_faulted : ℕ → List Piece → Option PieceFault → Result Edit EditRefusal
set_faulted profile pieces None = Ok (Set profile pieces)
set_faulted profile pieces (Some fault) = Err (BadPiece (piece.Fault fault))

abbrev pub set_named : ℕ → Option (List Piece) → Result Edit EditRefusal
set_named profile None = Err (BadPiece piece.Kind)
set_named profile (Some pieces) = set_faulted profile pieces (piece_fault pieces)

abbrev pub set_checked : ℕ → ℕ → Option (List PieceWords) → Result Edit EditRefusal
set_checked profiles profile None = Err Line
set_checked profiles profile (Some words) = if nat_lt profile profiles then set_named profile (pieces_named words) else Err Profile

-- a road with this number is given another profile
abbrev pub assign_checked : ℕ → ℕ → ℕ → ℕ → Result Edit EditRefusal
assign_checked arcs profiles arc profile =
    if nat_lt arc arcs then (if nat_lt profile profiles then Ok (Assign arc profile) else Err Profile) else Err Arc

-- the fields behind `s`: a profile's number, then at least one piece
abbrev pub set_of_fields : ℕ → List (List ℕ) → Result Edit EditRefusal
set_of_fields profiles (profile ∷ field ∷ fields) =
    if is_number_word profile then set_checked profiles (number_value profile) (words_of_pieces (field ∷ fields)) else Err Line
set_of_fields profiles _ = Err Line

-- the fields behind `a`: a road's number and a profile's
abbrev pub assign_of_fields : ℕ → ℕ → List (List ℕ) → Result Edit EditRefusal
assign_of_fields arcs profiles (arc ∷ profile ∷ []) =
    if is_number_word arc && is_number_word profile then assign_checked arcs profiles (number_value arc) (number_value profile) else Err Line
assign_of_fields arcs profiles _ = Err Line

abbrev pub edit_of_fields : ℕ → ℕ → List (List ℕ) → Result Edit EditRefusal
edit_of_fields arcs profiles [] = Err Line
edit_of_fields arcs profiles (word ∷ fields) =
    if bytes_eq word (codes "s") then set_of_fields profiles fields
    else if bytes_eq word (codes "a") then assign_of_fields arcs profiles fields
    else Err Line

-- the edit that a line makes in a network with so many roads and profiles, or the first check that fails
abbrev pub edit_of : ℕ → ℕ → List ℕ → Result Edit EditRefusal
edit_of arcs profiles line = edit_of_fields arcs profiles (fields_of_line line)

-- the pieces that an edit gives a profile are one
abbrev pub SetsProfile : Edit → Type 0
SetsProfile (Set profile pieces) = IsProfile pieces
SetsProfile (Assign arc profile) = Unit {0}
