-- The table of profiles: a header, then one row for each piece, `profile,from,kind,value`, the pieces of a profile in rows next to each other.
use Rattle.std.specs.Prelude.{ℕ, List, [], ◌∷◌, Bool, false, not, Option, Some, None, Result, Ok, Err, ◌+◌, ◌&&◌, ◌||◌, ◌==◌, length, bytes_eq, codes, if◌then◌else◌}
use Rattle.std.specs.List.{filter_map}
use Rattle.std.specs.Option.{option_or}
use Rattle.cu_model.specs.declared.limits.TheConstants.{MAX_PROFILES}
use Rattle.cu_model.specs.declared.profiles.Piece.{Piece}
use Rattle.cu_model.specs.declared.profiles.Rule.TheVariants as rule
use Rattle.cu_model.specs.declared.profiles.PieceFault.{PieceFault}
use Rattle.cu_model.specs.declared.profiles.PieceFault.TheVariants.{Limit, Start, Rising, Closed, Early, Fifo}
use Rattle.cu_model.specs.declared.profiles.PieceRefusal.TheVariants as piece
use Rattle.cu_model.specs.Faults.{piece_fault}
use Rattle.cu_model.specs.Numbers.{is_number_word, number_value}
use Rattle.cu_tables.specs.Checks.{below, unless}
use Rattle.cu_tables.specs.Tables.{field_of, kept_number, rows_below, table}
use Rattle.cu_profile.specs.declared.refusals.ProfileRefusal.{ProfileRefusal}
use Rattle.cu_profile.specs.declared.rows.RowNumbers.{RowNumbers}
use Rattle.cu_profile.specs.declared.rows.TheConstants.{MAX_ROWS}
use Rattle.cu_profile.specs.declared.refusals.ProfileRefusal.TheVariants.{Header, Fields, Number, Sequence, TooMany, Row}

abbrev pub header : List (List ℕ)
header = codes "profile" ∷ codes "from" ∷ codes "kind" ∷ codes "value" ∷ []

-- whether the profile, from and value fields of a row are number words
abbrev pub has_numbers : List (List ℕ) → Bool
has_numbers row = is_number_word (field_of row 0) && is_number_word (field_of row 1) && is_number_word (field_of row 3)

-- the numbers of a row, where its number fields are number words
abbrev pub numbers_of : List (List ℕ) → Option RowNumbers
numbers_of row =
    if has_numbers row
    then Some (record { profile = kept_number (field_of row 0); from = kept_number (field_of row 1); value = kept_number (field_of row 3) })
    else None

-- the number of the profile that a row belongs to
abbrev pub profile_number : List (List ℕ) → ℕ
profile_number row = number_value (field_of row 0)

-- whether a profile may stand in the row after one of the last profile: 0 comes first, then the same or the next one
abbrev pub may_follow : Option ℕ → ℕ → Bool
may_follow None profile = profile == 0
may_follow (Some last) profile = (profile == last) || (profile == last + 1)

-- the first check that a row fails by itself, where it has this number and the row before it is of the last profile
abbrev pub piece_row_fault : ℕ → Option ℕ → List (List ℕ) → Option ProfileRefusal
piece_row_fault number last row =
    if number == MAX_ROWS then Some (TooMany number)
    else if not (length row == 4) then Some (Fields number)
    else if not (has_numbers row) then Some (Number number)
    else if not (may_follow last (profile_number row)) then Some (Sequence number)
    else if profile_number row == MAX_PROFILES then Some (TooMany number)
    else None

-- the first fault of rows, each of which may have one by itself, from the row with this number on
abbrev pub first_fault : {R : Type 0} → (ℕ → Option ℕ → List (List ℕ) → Option R) → ℕ → Option ℕ → List (List (List ℕ)) → Option R
first_fault row_fault number last [] = None
first_fault row_fault number last (row ∷ rows) = option_or (row_fault number last row) (first_fault row_fault (number + 1) (Some (profile_number row)) rows)

-- the first row that fails such a check, from the row with this number on
abbrev pub rows_fault : ℕ → Option ℕ → List (List (List ℕ)) → Option ProfileRefusal
rows_fault number last rows = first_fault piece_row_fault number last rows

-- the piece of these fields, none where the kind is none of the three words
abbrev pub piece_of_fields : List ℕ → ℕ → ℕ → Option Piece
piece_of_fields kind from value =
    if bytes_eq kind (codes "travel") then Some (record { from = from; rule = rule.Travel value })
    else if bytes_eq kind (codes "until") then Some (record { from = from; rule = rule.Until value })
    else if bytes_eq kind (codes "closed") then Some (record { from = from; rule = rule.Closed value })
    else None

abbrev pub piece_of_row : List (List ℕ) → Option Piece
piece_of_row row = piece_of_fields (field_of row 2) (kept_number (field_of row 1)) (kept_number (field_of row 3))

-- this number, where there is no piece
abbrev pub missing : ℕ → Option Piece → Option ℕ
missing number None = Some number
missing number (Some piece) = None

-- the first row whose kind is no word of a kind, from the row with this number on
abbrev pub wrong_kind : ℕ → List (List (List ℕ)) → Option ℕ
wrong_kind number [] = None
wrong_kind number (row ∷ rows) = option_or (missing number (piece_of_row row)) (wrong_kind (number + 1) rows)

-- the row that a fault of pieces names, where they stand in the rows from `first` on: that of the piece, or the first
abbrev pub fault_row : ℕ → PieceFault → ℕ
fault_row first (Limit piece) = first + piece
fault_row first Start = first
fault_row first (Rising piece) = first + piece
fault_row first (Closed piece) = first + piece
fault_row first (Early second) = first
fault_row first (Fifo second) = first

-- these pieces, or their fault
abbrev pub faulted : ℕ → List Piece → Option PieceFault → Result (List Piece) ProfileRefusal
faulted first pieces None = Ok pieces
faulted first pieces (Some fault) = Err (Row (fault_row first fault) (piece.Fault fault))

-- the profile of these pieces, where they stand in the rows from `first` on; a wrong kind goes before their faults
abbrev pub profile_checked : ℕ → Option ℕ → List Piece → Result (List Piece) ProfileRefusal
profile_checked first (Some row) pieces = Err (Row row piece.Kind)
profile_checked first None pieces = faulted first pieces (piece_fault pieces)

-- the profile of the rows that are its own, the first of which has this number
abbrev pub profile_of_rows : ℕ → List (List (List ℕ)) → Result (List Piece) ProfileRefusal
profile_of_rows first rows = profile_checked first (wrong_kind first rows) (filter_map piece_of_row rows)

-- whether rows begin with one of the profile with this number
abbrev pub begin_with : ℕ → List (List (List ℕ)) → Bool
begin_with profile [] = false
begin_with profile (row ∷ rows) = profile_number row == profile

-- a row before groups of rows: in the first of them, where that is of the same profile
abbrev pub onto : List (List ℕ) → List (List (List (List ℕ))) → List (List (List (List ℕ)))
onto row [] = (row ∷ []) ∷ []
onto row (rows ∷ groups) = if begin_with (profile_number row) rows then (row ∷ rows) ∷ groups else (row ∷ []) ∷ rows ∷ groups

-- rows in groups, those of one profile in each
abbrev pub by_profile : List (List (List ℕ)) → List (List (List (List ℕ)))
by_profile [] = []
by_profile (row ∷ rows) = onto row (by_profile rows)

-- a profile and then more; the first refusal stands
abbrev pub then_more : {P R : Type 0} → Result P R → Result (List P) R → Result (List P) R
then_more (Err refusal) more = Err refusal
then_more (Ok profile) (Err refusal) = Err refusal
then_more (Ok profile) (Ok profiles) = Ok (profile ∷ profiles)

-- what each group of rows gives, the first row of which has this number, and the first refusal of one
abbrev pub of_groups : {P R : Type 0} → (ℕ → List (List (List ℕ)) → Result P R) → ℕ → List (List (List (List ℕ))) → Result (List P) R
of_groups of_rows first [] = Ok []
of_groups of_rows first (rows ∷ groups) = then_more (of_rows first rows) (of_groups of_rows (first + length rows) groups)

-- the profile of each group of rows
abbrev pub profiles_of_groups : ℕ → List (List (List (List ℕ))) → Result (List (List Piece)) ProfileRefusal
profiles_of_groups first groups = of_groups profile_of_rows first groups

-- the profiles of the rows below the header: first each row is checked by itself, and then profile by profile
abbrev pub profiles_of_rows : List (List (List ℕ)) → Result (List (List Piece)) ProfileRefusal
profiles_of_rows rows = unless (rows_fault 0 None rows) (profiles_of_groups 0 (by_profile rows))

-- the profiles that a text names, or why it is refused
abbrev pub profiles_of_text : List ℕ → Result (List (List Piece)) ProfileRefusal
profiles_of_text text = below Header profiles_of_rows (rows_below header (table text))
