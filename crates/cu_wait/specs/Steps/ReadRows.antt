-- How a reader of measured profiles goes from row to row.
use Rattle.std.specs.Prelude.{ℕ, List, [], ◌∷◌, ◌++◌, Bool, true, not, Option, Some, None, Result, Ok, Err}
use Rattle.std.specs.Prelude.{◌≡◌, ◌≢◌, ◌+◌, ◌<◌, ◌≤◌, ◌&&◌, All, IfErr, IfOk, IfSome, nat_le, nat_lt, length, option_to_list, if◌then◌else◌}
use Rattle.std.specs.List.{filter_map}
use Rattle.std.specs.Option.{option_map, option_or}
use Rattle.cu_model.specs.declared.limits.TheConstants.{MAX_TRAVEL}
use Rattle.cu_model.specs.declared.profiles.Piece.{Piece}
use Rattle.cu_model.specs.Days.{day}
use Rattle.cu_profile.specs.ProfileTexts.{by_profile, profile_number}
use Rattle.cu_tables.specs.Checks.{IsRefused}
use Rattle.cu_wait.specs.declared.points.Point.{Point}
use Rattle.cu_wait.specs.declared.progress.MeasuredRows.{MeasuredRows}
use Rattle.cu_wait.specs.declared.refusals.MeasuredRefusal.{MeasuredRefusal}
use Rattle.cu_wait.specs.declared.refusals.MeasuredRefusal.TheVariants as refusal
use Rattle.cu_wait.specs.declared.rows.PointRow.{PointRow}
use Rattle.cu_wait.specs.declared.rows.TheConstants.{MAX_MEASURED}
use Rattle.cu_wait.specs.Converted.{AreConverted, StandFor}
use Rattle.cu_wait.specs.Networks.{Measured}
use Rattle.cu_wait.specs.MeasuredTexts.{fallen_from, first_that, is_none, measured_of_groups, measured_of_rows, point_of_row, point_row_fault, rows_fault, started_late}

-- a row that passes its checks, or the check that it fails
abbrev pub RowChecked : ℕ → Option ℕ → List (List ℕ) → Result PointRow MeasuredRefusal → Type 0
RowChecked number last row (Err why) = point_row_fault number last row ≡ Some why
RowChecked number last row (Ok line) = (point_row_fault number last row ≡ None) × (line.profile ≡ profile_number row) × (line.point ≡ point_of_row row)

abbrev pub second_of : Point → ℕ
second_of point = point.second

abbrev pub is_point_past_limit : Point → Bool
is_point_past_limit point = not (nat_lt point.second day && nat_le point.travel MAX_TRAVEL)

-- whether a point is at a later second than the one before
abbrev pub is_later : Option Point → Point → Bool
is_later None point = true
is_later (Some before) point = nat_lt before.second point.second

-- the first check that points fail, which stand in the rows from `first` on; a wrong mode goes before them
abbrev pub points_refusal : ℕ → Option ℕ → List Point → Option MeasuredRefusal
points_refusal first (Some row) points = Some (refusal.Mode row)
points_refusal first None points =
    option_or (option_map refusal.Limit (first_that is_point_past_limit first points))
    (option_or (option_map refusal.Start (started_late second_of first points)) (option_map refusal.Rising (fallen_from second_of first points)))

-- a new reader: no row was taken
pub record IsNew (s : MeasuredRows) : Type 0 where
  pub row : s.row ≡ 0
  pub last : s.last ≡ None
  pub first : s.first ≡ 0
  pub wrong_mode : s.wrong_mode ≡ None
  pub points : s.points.items ≡ []
  pub profiles : s.profiles.items ≡ []
  pub measured : s.measured.items ≡ []
  pub fault : s.fault ≡ None

-- the profile of points after those before it, and the points; or the first refusal of one
abbrev pub KeepsProfile : Option MeasuredRefusal → List Point → List (List Piece) → List (List Point) → Option MeasuredRefusal → List (List Piece) → List (List Point) → Option MeasuredRefusal → Type 0
KeepsProfile None points profiles measured fault profiles' measured' fault' =
    (pieces : List Piece) × StandFor (Measured points) pieces × (profiles' ≡ profiles ++ (pieces ∷ [])) × (fault' ≡ fault) × (measured' ≡ measured ++ (points ∷ []))
KeepsProfile (Some why) points profiles measured fault profiles' measured' fault' = (profiles' ≡ profiles) × (fault' ≡ option_or fault (Some why)) × (measured' ≡ measured)

-- the last profile ended
pub record EndsProfile (s t : MeasuredRows) : Type 0 where
  pub row : t.row ≡ s.row
  pub first : t.first ≡ s.row
  pub wrong_mode : t.wrong_mode ≡ None
  pub points : t.points.items ≡ []
  pub kept : KeepsProfile (points_refusal s.first s.wrong_mode s.points.items) s.points.items s.profiles.items s.measured.items s.fault t.profiles.items t.measured.items t.fault

-- once the rows end, so does the last profile, where there is one
pub record EndsRows (s t : MeasuredRows) : Type 0 where
  pub none : s.last ≡ None → t ≡ s
  pub some : (last : ℕ) → s.last ≡ Some last → EndsProfile s t

-- the next row, of this profile, is of the last one or begins one
pub record BeginsRow (s t : MeasuredRows) (profile : ℕ) : Type 0 where
  pub none : s.last ≡ None → t ≡ s
  pub same : s.last ≡ Some profile → t ≡ s
  pub other : (last : ℕ) → s.last ≡ Some last → last ≢ profile → EndsProfile s t

-- one more row of the last profile
pub record AddsRow (s t : MeasuredRows) (line : PointRow) : Type 0 where
  pub row : t.row ≡ s.row + 1
  pub last : t.last ≡ Some line.profile
  pub first : t.first ≡ s.first
  pub wrong_mode : t.wrong_mode ≡ option_or s.wrong_mode (if is_none line.point then Some s.row else None)
  pub points : t.points.items ≡ s.points.items ++ option_to_list line.point
  pub profiles : t.profiles.items ≡ s.profiles.items
  pub measured : t.measured.items ≡ s.measured.items
  pub fault : t.fault ≡ s.fault

-- the profile of the last of some rows, behind a row of this one
abbrev pub last_profile : Option ℕ → List (List (List ℕ)) → Option ℕ
last_profile last [] = last
last_profile last (row ∷ rows) = last_profile (Some (profile_number row)) rows

-- how many profiles came before the last one
abbrev pub before : Option ℕ → ℕ
before None = 0
before (Some last) = last

abbrev pub IsOf : ℕ → List (List ℕ) → Type 0
IsOf profile row = profile_number row ≡ profile

-- these rows are those of the last profile, behind those of the ones before it
abbrev pub AreOwn : Option ℕ → List (List (List ℕ)) → List (List (List ℕ)) → Type 0
AreOwn None front own = (front ≡ []) × (own ≡ [])
AreOwn (Some last) front own = (0 < length own) × All (IsOf last) own × (last_profile None front ≢ Some last)

-- what is kept of the profiles that ended, where this is what their rows give
abbrev pub Kept : Result (List (List Point)) MeasuredRefusal → Option MeasuredRefusal → List (List Piece) → List (List Point) → Type 0
Kept given (Some why) profiles measured = given ≡ Err why
Kept given None profiles measured = (given ≡ Ok measured) × AreConverted measured profiles

-- these rows were taken, and passed their own checks: those of the profiles that ended, and those of the last one
pub record IsReading (s : MeasuredRows) (front own : List (List (List ℕ))) : Type 0 where
  pub row : s.row ≡ length front + length own
  pub first : s.first ≡ length front
  pub last : s.last ≡ last_profile None (front ++ own)
  pub are_own : AreOwn s.last front own
  pub passed : rows_fault 0 None (front ++ own) ≡ None
  pub wrong_mode : s.wrong_mode ≡ first_that (λ row. is_none (point_of_row row)) s.first own
  pub points : s.points.items ≡ filter_map point_of_row own
  pub kept : Kept (measured_of_groups 0 (by_profile front)) s.fault s.profiles.items s.measured.items
  pub small : IfSome s.last (λ last. last < MAX_MEASURED)
  pub few : length s.profiles.items ≤ before s.last

-- these rows were taken, and passed their own checks
abbrev pub HasTaken : MeasuredRows → List (List (List ℕ)) → Type 0
HasTaken s rows = (front : List (List (List ℕ))) × (own : List (List (List ℕ))) × (rows ≡ front ++ own) × IsReading s front own

-- a row that is taken is one more
abbrev pub TakesRow : MeasuredRows → List (List ℕ) → MeasuredRows → Type 0
TakesRow s row t = (rows : List (List (List ℕ))) → HasTaken s rows → HasTaken t (rows ++ (row ∷ []))

-- a row that is refused is the first that fails a check of its own
abbrev pub RefusesRow : MeasuredRows → List (List ℕ) → MeasuredRefusal → MeasuredRows → Type 0
RefusesRow s row why t = (rows : List (List (List ℕ))) → HasTaken s rows → point_row_fault s.row s.last row ≡ Some why

-- what is answered of the rows that were taken, once there are no more
pub record GivesRead {P : Type 0} (items : P → List (List Piece)) (points : P → List (List Point)) (s : MeasuredRows) (answer : Result P MeasuredRefusal) : Type 0 where
  pub ok : (rows : List (List (List ℕ))) → HasTaken s rows
      → IfOk answer (λ read. (measured_of_rows rows ≡ Ok (points read)) × AreConverted (points read) (items read))
  pub refused : (rows : List (List (List ℕ))) → HasTaken s rows → IfErr answer (IsRefused refusal.NoMemory (measured_of_rows rows))
  pub few : (rows : List (List (List ℕ))) → HasTaken s rows → IfOk answer (λ read. length (items read) ≤ MAX_MEASURED)
