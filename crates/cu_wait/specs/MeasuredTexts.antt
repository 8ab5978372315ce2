-- The table of measured profiles: a header, then one row for each point, `profile,second,mode,travel`, the points of a profile in rows next to each other.
use Rattle.std.specs.Prelude.{ℕ, List, [], ◌∷◌, Bool, true, false, not, Option, Some, None, Result, Ok, ◌+◌, ◌&&◌, ◌==◌, nat_le, nat_lt, length, bytes_eq, codes, if◌then◌else◌}
use Rattle.std.specs.List.{filter_map}
use Rattle.std.specs.Option.{option_map, option_or}
use Rattle.cu_model.specs.declared.limits.TheConstants.{MAX_TRAVEL}
use Rattle.cu_model.specs.Days.{day}
use Rattle.cu_tables.specs.Checks.{below, unless}
use Rattle.cu_tables.specs.Tables.{field_of, kept_number, rows_below, table}
use Rattle.cu_profile.specs.declared.rows.TheConstants.{MAX_ROWS}
use Rattle.cu_profile.specs.ProfileTexts.{by_profile, first_fault, has_numbers, may_follow, of_groups, profile_number}
use Rattle.cu_wait.specs.declared.points.Mode.{Mode}
use Rattle.cu_wait.specs.declared.points.Mode.TheVariants.{Line, Step}
use Rattle.cu_wait.specs.declared.points.Point.{Point}
use Rattle.cu_wait.specs.declared.refusals.MeasuredRefusal.{MeasuredRefusal}
use Rattle.cu_wait.specs.declared.refusals.MeasuredRefusal.TheVariants as refusal
use Rattle.cu_wait.specs.declared.rows.TheConstants.{MAX_MEASURED}

abbrev pub header : List (List ℕ)
header = codes "profile" ∷ codes "second" ∷ codes "mode" ∷ codes "travel" ∷ []

-- the first check that a row fails by itself, where it has this number and the row before it is of the last profile
abbrev pub point_row_fault : ℕ → Option ℕ → List (List ℕ) → Option MeasuredRefusal
point_row_fault number last row =
    if number == MAX_ROWS then Some (refusal.TooMany number)
    else if not (length row == 4) then Some (refusal.Fields number)
    else if not (has_numbers row) then Some (refusal.Number number)
    else if not (may_follow last (profile_number row)) then Some (refusal.Sequence number)
    else if profile_number row == MAX_MEASURED then Some (refusal.TooMany number)
    else None

-- the first row that fails such a check, from the row with this number on
abbrev pub rows_fault : ℕ → Option ℕ → List (List (List ℕ)) → Option MeasuredRefusal
rows_fault number last rows = first_fault point_row_fault number last rows

abbrev pub mode_of : List ℕ → Option Mode
mode_of word = if bytes_eq word (codes "line") then Some Line else if bytes_eq word (codes "step") then Some Step else None

abbrev pub row_second : List (List ℕ) → ℕ
row_second row = kept_number (field_of row 1)

abbrev pub row_travel : List (List ℕ) → ℕ
row_travel row = kept_number (field_of row 3)

abbrev pub point_by : Option Mode → (second travel : ℕ) → Option Point
point_by None second travel = None
point_by (Some mode) second travel = Some (record { second = second; mode = mode; travel = travel })

-- the point of a row; none where its mode is neither word
abbrev pub point_of_row : List (List ℕ) → Option Point
point_of_row row = point_by (mode_of (field_of row 2)) (row_second row) (row_travel row)

abbrev pub is_none : {X : Type 0} → Option X → Bool
is_none None = true
is_none (Some x) = false

abbrev pub is_past_limit : List (List ℕ) → Bool
is_past_limit row = not (nat_lt (row_second row) day && nat_le (row_travel row) MAX_TRAVEL)

-- the number of the first that passes a test, where they are numbered from this one on
abbrev pub first_that : {X : Type 0} → (X → Bool) → ℕ → List X → Option ℕ
first_that test number [] = None
first_that test number (x ∷ xs) = if test x then Some number else first_that test (number + 1) xs

-- this number, where there is none, or the first of them isn't at second 0
abbrev pub started_late : {X : Type 0} → (X → ℕ) → ℕ → List X → Option ℕ
started_late second number [] = Some number
started_late second number (x ∷ xs) = if second x == 0 then None else Some number

-- the number of the first that isn't at a later second than the one before
abbrev pub fallen_from : {X : Type 0} → (X → ℕ) → ℕ → List X → Option ℕ
fallen_from second number [] = None
fallen_from second number (x ∷ []) = None
fallen_from second number (x ∷ next ∷ xs) = if nat_lt (second x) (second next) then fallen_from second (number + 1) (next ∷ xs) else Some (number + 1)

-- the first check that the rows of a profile fail, the first of which has this number
abbrev pub points_fault : ℕ → List (List (List ℕ)) → Option MeasuredRefusal
points_fault first rows =
    option_or (option_map refusal.Mode (first_that (λ row. is_none (point_of_row row)) first rows))
    (option_or (option_map refusal.Limit (first_that is_past_limit first rows))
    (option_or (option_map refusal.Start (started_late row_second first rows)) (option_map refusal.Rising (fallen_from row_second first rows))))

abbrev pub points_of_rows : ℕ → List (List (List ℕ)) → Result (List Point) MeasuredRefusal
points_of_rows first rows = unless (points_fault first rows) (Ok (filter_map point_of_row rows))

-- the measured profile of each group of rows, the first row of which has this number
abbrev pub measured_of_groups : ℕ → List (List (List (List ℕ))) → Result (List (List Point)) MeasuredRefusal
measured_of_groups first groups = of_groups points_of_rows first groups

-- the measured profiles of the rows below the header: first each row is checked by itself, and then profile by profile
abbrev pub measured_of_rows : List (List (List ℕ)) → Result (List (List Point)) MeasuredRefusal
measured_of_rows rows = unless (rows_fault 0 None rows) (measured_of_groups 0 (by_profile rows))

-- the measured profiles that a text names, or why it is refused
abbrev pub measured_of_text : List ℕ → Result (List (List Point)) MeasuredRefusal
measured_of_text text = below refusal.Header measured_of_rows (rows_below header (table text))
