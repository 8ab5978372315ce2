-- The checks of points: those of the rows that they stand in, and what passes them is a measured profile.
use Rattle.std.proofs.Common.{◌≡◌, ◌∙◌, ◌<◌, ◌+◌, ℕ, zero, suc, List, [], ◌∷◌, ◌++◌, Bool, true, false, Option, Some, None, All, length, get_or, refl, subst, ap, arith, inl, inr, cond, not, ltb}
use Rattle.std.specs.Prelude.{◌&&◌, ◌==◌, nat_le, nat_lt, if◌then◌else◌, slice_get}
use Rattle.std.specs.List.{filter_map}
use Rattle.std.specs.Option.{option_map, option_or}
use Rattle.std.proofs.lemmas.Bool.{and_parts, cases_Bool, eqb-true, leb-true, ltb-true, not-false}
use Rattle.std.proofs.lemmas.List.Elements.{All-cons, All-nil}
use Rattle.cu_model.specs.declared.limits.TheConstants.{MAX_TRAVEL}
use Rattle.cu_model.specs.Begun.{Rises}
use Rattle.cu_model.specs.Days.{day}
use Rattle.cu_model.proofs.FaultLaws.{cond-some}
use Rattle.cu_model.proofs.OptionLaws.{map-none}
use Rattle.cu_tables.specs.Tables.{field_of}
use Rattle.cu_wait.specs.declared.points.Mode.{Mode}
use Rattle.cu_wait.specs.declared.points.Point.{Point}
use Rattle.cu_wait.specs.declared.refusals.MeasuredRefusal.TheVariants as refusal
use Rattle.cu_wait.specs.Measured.{IsMeasured, IsPoint}
use Rattle.cu_wait.specs.MeasuredTexts.{fallen_from, first_that, is_none, is_past_limit, mode_of, point_by, point_of_row, points_fault, row_second, row_travel, started_late}
use Rattle.cu_wait.specs.Steps.ReadRows.{is_point_past_limit, points_refusal, second_of}

none_or : {A : Type 0} (a b : Option A) → option_or a b ≡ None → (a ≡ None) × (b ≡ None)
none_or None b e = (refl, e)
none_or (Some x) b e = absurd (cc e)

cond_none : {A : Type 0} (b : Bool) (x : A) (o : Option A) → cond b (Some x) o ≡ None → (b ≡ false) × (o ≡ None)
cond_none true x o e = absurd (cc e)
cond_none false x o e = (refl, e)

-- where none passes a test each fails it

none_pass : {X : Type 0} (test : X → Bool) (number : ℕ) (xs : List X) → first_that test number xs ≡ None → All (λ (x : X). test x ≡ false) xs
none_pass {X} test number [] e = All-nil (λ (x : X). test x ≡ false)
none_pass {X} test number (x ∷ xs) e =
    let parts = cond_none (test x) number (first_that test (number + 1) xs) e in
    All-cons (λ (x : X). test x ≡ false) x xs parts.0 (none_pass test (number + 1) xs parts.1)

rises_more : {X : Type 0} (from : X → ℕ) (x next : X) (xs : List X) → from x < from next → Rises from (next ∷ xs) → Rises from (x ∷ next ∷ xs)
rises_more from x next xs lt rises zero d h = lt
rises_more from x next xs lt rises (suc k) d h =
    let same : suc (k + 1) ≡ suc k + 1 = omega arith in
    subst (λ (j : ℕ). from (get_or (next ∷ xs) k d) < from (get_or (x ∷ next ∷ xs) j d)) same (rises k d (omega (arith, h)))

none_fallen : {X : Type 0} (second : X → ℕ) (number : ℕ) (xs : List X) → fallen_from second number xs ≡ None → Rises second xs
none_fallen second number [] e = λ k d h. absurd (omega (arith, h))
none_fallen second number (x ∷ []) e = λ k d h. absurd (omega (arith, h))
none_fallen second number (x ∷ next ∷ xs) e =
    let parts = cond-some (ltb (second x) (second next)) (fallen_from second (number + 1) (next ∷ xs)) (number + 1) e in
    rises_more second x next xs (ltb-true (second x) (second next) parts.0) (none_fallen second (number + 1) (next ∷ xs) parts.1)

starts : (first : ℕ) (points : List Point) → started_late second_of first points ≡ None → option_map second_of (slice_get points 0) ≡ Some 0
starts first [] e = absurd (cc e)
starts first (point ∷ points) e = ap Some (eqb-true point.second 0 (cond-late (point.second == 0) e)) where
  cond-late : (b : Bool) → cond b None (Some first) ≡ None → b ≡ true
  cond-late true e = refl
  cond-late false e = absurd (cc e)

within : (point : Point) → is_point_past_limit point ≡ false → IsPoint point
within point e =
    let parts = and_parts (nat_lt point.second day) (nat_le point.travel MAX_TRAVEL) (not-false _ e) in
    (ltb-true point.second day parts.0, leb-true point.travel MAX_TRAVEL parts.1)

-- points without a fault are a measured profile
pub measured_points : (first : ℕ) (wrong_mode : Option ℕ) (points : List Point) → points_refusal first wrong_mode points ≡ None → IsMeasured points
measured_points first (Some row) points e = absurd (cc e)
measured_points first None points e =
    let limit = none_or (option_map refusal.Limit (first_that is_point_past_limit first points)) _ e in
    let rest = none_or (option_map refusal.Start (started_late second_of first points)) _ limit.1 in
    let all = none_pass is_point_past_limit first points (map-none refusal.Limit _ limit.0) in
    record {
      limits = λ k d h. within (get_or points k d) (all k d h);
      starts = starts first points (map-none refusal.Start _ rest.0);
      rises = none_fallen second_of first points (map-none refusal.Rising _ rest.1);
    }

-- where each row has a point, the checks of the rows are those of the points

module _ {X Y : Type 0} (f : X → Option Y) where
  each_some : (number : ℕ) (x : X) (xs : List X) → first_that (λ (x : X). is_none (f x)) number (x ∷ xs) ≡ None
      → ((y : Y) × (f x ≡ Some y)) × (first_that (λ (x : X). is_none (f x)) (number + 1) xs ≡ None)
  each_some number x xs e = by_cases (f x) refl (cond_none (is_none (f x)) number _ e) where
    by_cases : (o : Option Y) → f x ≡ o → (is_none (f x) ≡ false) × (first_that (λ (x : X). is_none (f x)) (number + 1) xs ≡ None)
        → ((y : Y) × (f x ≡ Some y)) × (first_that (λ (x : X). is_none (f x)) (number + 1) xs ≡ None)
    by_cases None is parts = let some = parts.0 in absurd (let none : is_none (f x) ≡ true = rw is refl in cc (some, none))
    by_cases (Some y) is parts = ((y, is), parts.1)

  same_first : (test : X → Bool) (other : Y → Bool) → ((x : X) (y : Y) → f x ≡ Some y → test x ≡ other y) → (number : ℕ) (xs : List X)
      → first_that (λ (x : X). is_none (f x)) number xs ≡ None → first_that test number xs ≡ first_that other number (filter_map f xs)
  same_first test other same number [] e = refl
  same_first test other same number (x ∷ xs) e =
      let ((y, is), rest) = each_some number x xs e in
      let more = same_first test other same (number + 1) xs rest in
      rw (is, same x y is, more) refl

  module _ (second : X → ℕ) (own : Y → ℕ) (same : (x : X) (y : Y) → f x ≡ Some y → second x ≡ own y) where
    same_start : (number : ℕ) (xs : List X) → first_that (λ (x : X). is_none (f x)) number xs ≡ None
        → started_late second number xs ≡ started_late own number (filter_map f xs)
    same_start number [] e = refl
    same_start number (x ∷ xs) e =
        let ((y, is), rest) = each_some number x xs e in
        rw (is, same x y is) refl

    same_fallen : (number : ℕ) (xs : List X) → first_that (λ (x : X). is_none (f x)) number xs ≡ None
        → fallen_from second number xs ≡ fallen_from own number (filter_map f xs)
    same_fallen number [] e = refl
    same_fallen number (x ∷ []) e = let ((y, is), rest) = each_some number x [] e in rw is refl
    same_fallen number (x ∷ next ∷ xs) e =
        let ((y, is), rest) = each_some number x (next ∷ xs) e in
        let ((z, there), behind) = each_some (number + 1) next xs rest in
        let tail : filter_map f (next ∷ xs) ≡ z ∷ filter_map f xs = rw there refl in
        let more : fallen_from second (number + 1) (next ∷ xs) ≡ fallen_from own (number + 1) (z ∷ filter_map f xs) = same_fallen (number + 1) (next ∷ xs) rest ∙ ap
        (fallen_from own (number + 1)) tail in
        rw (is, there, same x y is, same next z there, more) refl

point_parts : (mode : Option Mode) (second travel : ℕ) (point : Point) → point_by mode second travel ≡ Some point → (second ≡ point.second) × (travel ≡ point.travel)
point_parts None second travel point e = absurd (cc e)
point_parts (Some mode) second travel point e = let same : record { second = second; mode = mode; travel = travel } ≡ point = cc e in (ap second_of same, ap (λ (p : Point). p.travel) same)

same_second : (row : List (List ℕ)) (point : Point) → point_of_row row ≡ Some point → row_second row ≡ second_of point
same_second row point is = (point_parts (mode_of (field_of row 2)) (row_second row) (row_travel row) point is).0

same_limit : (row : List (List ℕ)) (point : Point) → point_of_row row ≡ Some point → is_past_limit row ≡ is_point_past_limit point
same_limit row point is =
    let parts = point_parts (mode_of (field_of row 2)) (row_second row) (row_travel row) point is in
    ap (λ (s : ℕ). not (nat_lt s day && nat_le (row_travel row) MAX_TRAVEL)) parts.0 ∙ ap (λ (t : ℕ). not (nat_lt point.second day && nat_le t MAX_TRAVEL)) parts.1

-- the rows of a profile are refused for what is wrong of their modes and points
pub same_refusal : (first : ℕ) (rows : List (List (List ℕ)))
    → points_fault first rows ≡ points_refusal first (first_that (λ row. is_none (point_of_row row)) first rows) (filter_map point_of_row rows)
same_refusal first rows = by_mode (first_that (λ row. is_none (point_of_row row)) first rows) refl where
  by_mode : (wrong : Option ℕ) → first_that (λ row. is_none (point_of_row row)) first rows ≡ wrong → points_fault first rows ≡ points_refusal first wrong (filter_map point_of_row rows)
  by_mode (Some row) e = rw e refl
  by_mode None e =
      let limit = same_first point_of_row is_past_limit is_point_past_limit same_limit first rows e in
      let start = same_start point_of_row row_second second_of same_second first rows e in
      let rising = same_fallen point_of_row row_second second_of same_second first rows e in
      rw (e, limit, start, rising) refl

-- one more row

pub first_behind : {X : Type 0} (test : X → Bool) (number : ℕ) (xs : List X) (x : X)
    → first_that test number (xs ++ (x ∷ [])) ≡ option_or (first_that test number xs) (if test x then Some (number + length xs) else None)
first_behind test number [] x = let same : number ≡ number + 0 = omega arith in ap (λ (n : ℕ). if test x then Some n else None) same
first_behind test number (y ∷ xs) x =
    let same : (number + 1) + length xs ≡ number + length (y ∷ xs) = omega arith in
    let rest = first_behind test (number + 1) xs x ∙ ap (λ (n : ℕ). option_or (first_that test (number + 1) xs) (if test x then Some n else None)) same in
    elim (cases_Bool (test y)) [
      | inl yes' ↦ rw yes' refl
      | inr no' ↦ rw no' rest
    ]
