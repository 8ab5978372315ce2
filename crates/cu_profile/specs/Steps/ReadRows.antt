-- How a reader of profiles goes from row to row.
use Rattle.std.specs.Prelude.{ℕ, List, [], ◌∷◌, ◌++◌, Option, Some, None, Result, Ok, Err, ◌≡◌, ◌+◌, ◌<◌, ◌≤◌, IfSome, true, length, option_to_list, if◌then◌else◌}
use Rattle.std.specs.List.{filter_map}
use Rattle.std.specs.Option.{option_or}
use Rattle.cu_model.specs.declared.limits.TheConstants.{MAX_PROFILES}
use Rattle.cu_model.specs.declared.profiles.Piece.{Piece}
use Rattle.cu_tables.specs.Checks.{unless}
use Rattle.cu_profile.specs.declared.refusals.ProfileRefusal.{ProfileRefusal}
use Rattle.cu_profile.specs.declared.rows.PieceRow.{PieceRow}
use Rattle.cu_profile.specs.declared.progress.ProfileRows.{ProfileRows}
use Rattle.cu_profile.specs.ProfileTexts.{begin_with, by_profile, may_follow, missing, onto, piece_of_row, piece_row_fault, profile_checked, profile_number}
use Rattle.cu_profile.specs.ProfileTexts.{profiles_of_groups, rows_fault, then_more, wrong_kind}

-- a row that passes its checks, or the check that it fails
abbrev pub RowChecked : ℕ → Option ℕ → List (List ℕ) → Result PieceRow ProfileRefusal → Type 0
RowChecked number last row (Err refusal) = piece_row_fault number last row ≡ Some refusal
RowChecked number last row (Ok line) = (piece_row_fault number last row ≡ None) × (line.profile ≡ profile_number row) × (line.piece ≡ piece_of_row row)

-- profiles, and then more; a refusal among the first stands
abbrev pub joined : Option ProfileRefusal → List (List Piece) → Result (List (List Piece)) ProfileRefusal → Result (List (List Piece)) ProfileRefusal
joined (Some refusal) profiles more = Err refusal
joined None profiles (Err refusal) = Err refusal
joined None profiles (Ok more) = Ok (profiles ++ more)

-- how many profiles came before the last one
abbrev pub before : Option ℕ → ℕ
before None = 0
before (Some last) = last

-- the last profile, whose rows so far are all of its rows
abbrev pub last_profile : ProfileRows → Result (List Piece) ProfileRefusal
last_profile s = profile_checked s.first s.wrong_kind s.pieces.items

-- the last profile, with these further rows
abbrev pub last_profile_with : ProfileRows → List (List (List ℕ)) → Result (List Piece) ProfileRefusal
last_profile_with s rows = profile_checked s.first (option_or s.wrong_kind (wrong_kind s.row rows)) (s.pieces.items ++ filter_map piece_of_row rows)

-- the last profile, if any, and those of the groups behind the rows so far, the first of which may be its own
abbrev pub groups_behind : ProfileRows → Option ℕ → List (List (List (List ℕ))) → Result (List (List Piece)) ProfileRefusal
groups_behind s None groups = profiles_of_groups s.row groups
groups_behind s (Some last) [] = then_more (last_profile s) (Ok [])
groups_behind s (Some last) (rows ∷ groups) =
    if begin_with last rows then then_more (last_profile_with s rows) (profiles_of_groups (s.row + length rows) groups)
    else then_more (last_profile s) (profiles_of_groups s.row (rows ∷ groups))

-- what the rows taken so far and these behind them give
abbrev pub rows_behind : ProfileRows → List (List (List ℕ)) → Result (List (List Piece)) ProfileRefusal
rows_behind s rows = unless (rows_fault s.row s.last rows) (joined s.fault s.profiles.items (groups_behind s s.last (by_profile rows)))

-- a new reader: no row was taken
pub record IsNew (s : ProfileRows) : Type 0 where
  pub row : s.row ≡ 0
  pub last : s.last ≡ None
  pub first : s.first ≡ 0
  pub wrong_kind : s.wrong_kind ≡ None
  pub pieces : s.pieces.items ≡ []
  pub profiles : s.profiles.items ≡ []
  pub fault : s.fault ≡ None

-- what holds of a reader between rows
pub record IsBetweenRows (s : ProfileRows) : Type 0 where
  pub small : IfSome s.last (λ last. last < MAX_PROFILES)
  pub few : length s.profiles.items ≤ before s.last
  pub fresh : s.last ≡ None → (s.first ≡ s.row) × ((s.wrong_kind ≡ None) × (s.pieces.items ≡ []))

-- a profile after those before it, or the first refusal of one
abbrev pub KeepsProfile : Result (List Piece) ProfileRefusal → List (List Piece) → Option ProfileRefusal → List (List Piece) → Option ProfileRefusal → Type 0
KeepsProfile (Ok profile) profiles fault profiles' fault' = (profiles' ≡ profiles ++ (profile ∷ [])) × (fault' ≡ fault)
KeepsProfile (Err refusal) profiles fault profiles' fault' = (profiles' ≡ profiles) × (fault' ≡ option_or fault (Some refusal))

-- the last profile ended
pub record EndsProfile (s t : ProfileRows) : Type 0 where
  pub row : t.row ≡ s.row
  pub first : t.first ≡ s.row
  pub wrong_kind : t.wrong_kind ≡ None
  pub pieces : t.pieces.items ≡ []
  pub kept : KeepsProfile (last_profile s) s.profiles.items s.fault t.profiles.items t.fault

-- once the rows end, so does the last profile
pub record EndsRows (s t : ProfileRows) : Type 0 where
  pub given : joined s.fault s.profiles.items (groups_behind s s.last []) ≡ joined t.fault t.profiles.items (Ok [])
  pub few : IsBetweenRows s → length t.profiles.items ≤ MAX_PROFILES

-- the next row, of this profile, is of the last one or begins one
pub record BeginsRow (s t : ProfileRows) (profile : ℕ) : Type 0 where
  pub row : t.row ≡ s.row
  pub few : IsBetweenRows s → may_follow s.last profile ≡ true → length t.profiles.items ≤ profile
  pub given : IsBetweenRows s → (row : List (List ℕ)) → profile ≡ profile_number row → (groups : List (List (List (List ℕ))))
      → joined s.fault s.profiles.items (groups_behind s s.last (onto row groups)) ≡ joined t.fault t.profiles.items (groups_behind t (Some profile) (onto row groups))

-- one more row of the last profile
pub record AddsRow (s t : ProfileRows) (line : PieceRow) : Type 0 where
  pub row : t.row ≡ s.row + 1
  pub last : t.last ≡ Some line.profile
  pub first : t.first ≡ s.first
  pub wrong_kind : t.wrong_kind ≡ option_or s.wrong_kind (missing s.row line.piece)
  pub pieces : t.pieces.items ≡ s.pieces.items ++ option_to_list line.piece
  pub profiles : t.profiles.items ≡ s.profiles.items
  pub fault : t.fault ≡ s.fault

-- a row that is taken leaves what is given to the rows behind it
abbrev pub TakesRow : ProfileRows → List (List ℕ) → ProfileRows → Type 0
TakesRow s row t = IsBetweenRows s → IsBetweenRows t × ((rest : List (List (List ℕ))) → rows_behind s (row ∷ rest) ≡ rows_behind t rest)

-- a row that is refused is the first that fails a check of its own, and changes nothing
abbrev pub RefusesRow : ProfileRows → List (List ℕ) → ProfileRefusal → ProfileRows → Type 0
RefusesRow s row why t = (IsBetweenRows s → piece_row_fault s.row s.last row ≡ Some why) × (t ≡ s)
