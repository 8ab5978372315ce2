-- What a reader of measured profiles has taken, row by row, and what it answers of it.
use Rattle.std.proofs.Common.{◌≡◌, ◌≢◌, ◌∙◌, ◌<◌, ◌≤◌, ◌+◌, ℕ, List, [], ◌∷◌, ◌++◌, true, Option, Some}
use Rattle.std.proofs.Common.{None, Result, Ok, Err, All, length, refl, sym, subst, ap, arith, inl, inr, append_assoc, length-append}
use Rattle.std.specs.Prelude.{◌==◌, IfSome, if◌then◌else◌, option_to_list}
use Rattle.std.specs.List.{cons_option, filter_map}
use Rattle.std.specs.Option.{option_or}
use Rattle.std.proofs.lemmas.Bool.{cases_order, eqb-false}
use Rattle.std.proofs.lemmas.List.{append-nil}
use Rattle.std.proofs.lemmas.List.Elements.{All-append, All-cons, All-nil, filter_map-append}
use Rattle.cu_model.specs.declared.profiles.Piece.{Piece}
use Rattle.cu_model.proofs.OptionLaws.{some_cases}
use Rattle.cu_profile.specs.ProfileTexts.{by_profile, has_numbers, may_follow, of_groups, profile_number}
use Rattle.cu_profile.specs.declared.rows.TheConstants.{MAX_ROWS}
use Rattle.cu_profile.proofs.RowFacts.{next_profile, passes, small_next}
use Rattle.cu_tables.specs.Checks.{below, unless}
use Rattle.cu_tables.specs.Tables.{rows_below, table}
use Rattle.cu_tables.specs.Taking.{EndsBelow, TakesAll}
use Rattle.cu_wait.specs.declared.points.Point.{Point}
use Rattle.cu_wait.specs.declared.progress.MeasuredRows.{MeasuredRows}
use Rattle.cu_wait.specs.declared.refusals.MeasuredRefusal.{MeasuredRefusal}
use Rattle.cu_wait.specs.declared.refusals.MeasuredRefusal.TheVariants as refusal
use Rattle.cu_wait.specs.declared.rows.PointRow.{PointRow}
use Rattle.cu_wait.specs.declared.rows.TheConstants.{MAX_MEASURED}
use Rattle.cu_wait.specs.Converted.{AreConverted}
use Rattle.cu_wait.specs.MeasuredTexts.{first_that, header, is_none, measured_of_groups, measured_of_rows, measured_of_text, point_of_row, point_row_fault, points_of_rows, rows_fault}
use Rattle.cu_wait.specs.Steps.ReadRows.{AddsRow, AreOwn, BeginsRow, EndsProfile, EndsRows, GivesRead, HasTaken, IsNew}
use Rattle.cu_wait.specs.Steps.ReadRows.{IsOf, IsReading, Kept, KeepsProfile, RefusesRow, TakesRow, before, last_profile, points_refusal}
use Rattle.cu_wait.proofs.CheckLaws.{first_behind, same_refusal}
use Rattle.cu_wait.proofs.ConvertedLaws.{converted_more}
use Rattle.cu_wait.proofs.GroupLaws.{as_many, fault_behind, groups_last, last_behind, last_group, rows_in, then_last}

abbrev Rows : Type 0
Rows = List (List (List ℕ))

-- a new reader has taken no rows
pub new_taken : (s : MeasuredRows) → IsNew s → HasTaken s []
new_taken s n = (
  [],
  [],
  refl,
  record {
    row = n.row;
    first = n.first;
    last = n.last;
    are_own = rw n.last (refl, refl);
    passed = refl;
    wrong_mode = n.wrong_mode;
    points = n.points;
    kept = rw (n.fault, n.profiles, n.measured) (refl, tt);
    small = rw n.last tt;
    few = rw n.profiles (omega arith);
  },
)

-- the last profile ends

kept_more : (given : Result (List (List Point)) MeasuredRefusal) (why : Option MeasuredRefusal) (points : List Point) (ps qs : List (List Piece)) (ms ns : List (List Point)) (f g : Option MeasuredRefusal)
    → Kept given f ps ms → KeepsProfile why points ps ms f qs ns g → Kept (then_last given (unless why (Ok points))) g qs ns
kept_more given (Some y) points ps qs ms ns (Some x) g k h = rw (h.1, k) refl
kept_more given None points ps qs ms ns (Some x) g k (pieces, one, more, same, next) = rw (same, k) refl
kept_more given (Some y) points ps qs ms ns None g (is, all) h = rw (h.1, is) refl
kept_more given None points ps qs ms ns None g (is, all) (pieces, one, more, same, next) =
    rw (same, is, next) (refl, subst (AreConverted (ms ++ (points ∷ []))) (sym more) (converted_more ms ps points pieces all one))

kept_few : (why : Option MeasuredRefusal) (points : List Point) (ps qs : List (List Piece)) (ms ns : List (List Point)) (f g : Option MeasuredRefusal) → KeepsProfile why points ps ms f qs ns g
    → length qs ≤ length ps + 1
kept_few (Some y) points ps qs ms ns f g h = let e = ap length h.0 in omega (arith, e)
kept_few None points ps qs ms ns f g (pieces, one, more, same, next) = let e = ap length more in let k = length-append ps (pieces ∷ []) in omega (arith, e, k)

-- what the rows of the last profile give
own_given : (s : MeasuredRows) (front own : Rows) → IsReading s front own
    → points_of_rows (length front) own ≡ unless (points_refusal s.first s.wrong_mode s.points.items) (Ok s.points.items)
own_given s front own r =
    let same = same_refusal (length front) own in
    let mode : first_that (λ row. is_none (point_of_row row)) (length front) own ≡ s.wrong_mode = ap (λ (n : ℕ). first_that (λ row. is_none (point_of_row row)) n own) (sym r.first)
    ∙ sym r.wrong_mode in
    rw (same, mode, sym r.points, sym r.first) refl

pub profile_ended : (s m : MeasuredRows) (front own : Rows) (last : ℕ) → IsReading s front own → s.last ≡ Some last → EndsProfile s m
    → Kept (measured_of_groups 0 (by_profile (front ++ own))) m.fault m.profiles.items m.measured.items × (length m.profiles.items ≤ last + 1)
profile_ended s m front own last r e x =
    let (some, all, other) : AreOwn (Some last) front own = subst (λ (l : Option ℕ). AreOwn l front own) e r.are_own in
    let many = as_many front in
    let number : 0 + rows_in (by_profile front) ≡ length front = omega (arith, many) in
    let groups : measured_of_groups 0 (by_profile (front ++ own)) ≡ then_last (measured_of_groups 0 (by_profile front))
    (unless (points_refusal s.first s.wrong_mode s.points.items) (Ok s.points.items)) =
    ap (of_groups points_of_rows 0) (last_group last front own some all other) ∙ groups_last points_of_rows 0 (by_profile front) own
    ∙ ap (λ (n : ℕ). then_last (measured_of_groups 0 (by_profile front)) (points_of_rows n own)) number
    ∙ ap (then_last (measured_of_groups 0 (by_profile front))) (own_given s front own r) in
    let few = subst (λ (l : Option ℕ). length s.profiles.items ≤ before l) e r.few in
    let more = kept_few (points_refusal s.first s.wrong_mode s.points.items) s.points.items s.profiles.items m.profiles.items s.measured.items m.measured.items s.fault m.fault x.kept in (
      subst (λ (given : Result (List (List Point)) MeasuredRefusal). Kept given m.fault m.profiles.items m.measured.items) (sym groups)
          (kept_more (measured_of_groups 0 (by_profile front)) (points_refusal s.first s.wrong_mode s.points.items) s.points.items s.profiles.items m.profiles.items s.measured.items m.measured.items s.fault m.fault r.kept x.kept),
      omega (arith, few, more),
    )

-- a row that passes its checks

row_passes : (number : ℕ) (last : Option ℕ) (row : List (List ℕ)) → point_row_fault number last row ≡ None → (may_follow last (profile_number row) ≡ true) × (profile_number row ≢ MAX_MEASURED)
row_passes number last row e =
    let k = passes (number == MAX_ROWS) (length row == 4) (has_numbers row) (may_follow last (profile_number row)) (profile_number row == MAX_MEASURED) _ _ _ _ _ e in
    (k.0, eqb-false (profile_number row) MAX_MEASURED k.1)

-- a reader at a row of this profile, of which these rows were taken
record IsBegun (m : MeasuredRows) (front own : Rows) (profile : ℕ) : Type 0 where
  row : m.row ≡ length front + length own
  first : m.first ≡ length front
  all_own : All (IsOf profile) own
  other : last_profile None front ≢ Some profile
  passed : rows_fault 0 None (front ++ own) ≡ None
  wrong_mode : m.wrong_mode ≡ first_that (λ row. is_none (point_of_row row)) m.first own
  points : m.points.items ≡ filter_map point_of_row own
  kept : Kept (measured_of_groups 0 (by_profile front)) m.fault m.profiles.items m.measured.items
  few : length m.profiles.items ≤ profile

one_listed : {X : Type 0} (o : Option X) → cons_option o [] ≡ option_to_list o
one_listed None = refl
one_listed (Some x) = refl

none_or_none : {X : Type 0} (a b : Option X) → a ≡ None → b ≡ None → option_or a b ≡ None
none_or_none a b e f = rw (e, f) refl

row_added : (m t : MeasuredRows) (row : List (List ℕ)) (line : PointRow) (front own : Rows) → IsBegun m front own (profile_number row) → AddsRow m t line
    → point_row_fault m.row (last_profile None (front ++ own)) row ≡ None → line.profile ≡ profile_number row → line.point ≡ point_of_row row → profile_number row < MAX_MEASURED
    → IsReading t front (own ++ (row ∷ []))
row_added m t row line front own b a passed profile point small =
    let one = length-append own (row ∷ []) in
    let all = append_assoc front own (row ∷ []) in
    let last : t.last ≡ Some (profile_number row) = a.last ∙ ap Some profile in
    let more = a.row in
    let at = b.row in
    let whole = length-append front own in
    let number : 0 + length (front ++ own) ≡ m.row = omega (arith, whole, at) in
    let there : first_that (λ row. is_none (point_of_row row)) m.first (own ++ (row ∷ [])) ≡ option_or m.wrong_mode (if is_none line.point then Some m.row else None) =
    first_behind (λ row. is_none (point_of_row row)) m.first own row
    ∙ ap (λ (o : Option ℕ). option_or o (if is_none (point_of_row row) then Some (m.first + length own) else None)) (sym b.wrong_mode)
    ∙ ap (λ (n : ℕ). option_or m.wrong_mode (if is_none (point_of_row row) then Some n else None)) (ap (λ (n : ℕ). n + length own) b.first ∙ sym b.row)
    ∙ ap (λ (p : Option Point). option_or m.wrong_mode (if is_none p then Some m.row else None)) (sym point) in
    record {
      row = omega (arith, one, more, at);
      first = a.first ∙ b.first;
      last = last ∙ sym (ap (last_profile None) (sym all) ∙ last_behind None (front ++ own) (row ∷ []));
      are_own = rw last (
        omega (arith, one),
        All-append (IsOf (profile_number row)) own (row ∷ []) b.all_own
            (All-cons (IsOf (profile_number row)) row [] refl (All-nil (IsOf (profile_number row)))),
        b.other,
      );
      passed = ap (rows_fault 0 None) (sym all) ∙ fault_behind point_row_fault 0 None (front ++ own) (row ∷ [])
          ∙ none_or_none _ _ b.passed (none_or_none _ None (ap (λ (n : ℕ). point_row_fault n (last_profile None (front ++ own)) row) number ∙ passed) refl);
      wrong_mode = a.wrong_mode ∙ sym there ∙ ap (λ (n : ℕ). first_that (λ row. is_none (point_of_row row)) n (own ++ (row ∷ []))) (sym a.first);
      points = a.points ∙ ap (λ (ps : List Point). ps ++ option_to_list line.point) b.points ∙ ap (λ (p : Option Point). filter_map point_of_row own ++ option_to_list p) point
          ∙ ap (λ (ps : List Point). filter_map point_of_row own ++ ps) (sym (one_listed (point_of_row row))) ∙ sym (filter_map-append point_of_row own (row ∷ []));
      kept = rw (a.fault, a.profiles, a.measured) b.kept;
      small = rw last small;
      few = rw (last, a.profiles) b.few;
    }

-- the last profile goes on
begun_same : (s : MeasuredRows) (front own : Rows) (profile : ℕ) → IsReading s front own → s.last ≡ Some profile → IsBegun s front own profile
begun_same s front own profile r e =
    let (some, all, other) : AreOwn (Some profile) front own = subst (λ (l : Option ℕ). AreOwn l front own) e r.are_own in
    record {
      row = r.row;
      first = r.first;
      all_own = all;
      other = other;
      passed = r.passed;
      wrong_mode = r.wrong_mode;
      points = r.points;
      kept = r.kept;
      few = subst (λ (l : Option ℕ). length s.profiles.items ≤ before l) e r.few;
    }

-- the first one begins
begun_none : (s : MeasuredRows) (front own : Rows) (profile : ℕ) → IsReading s front own → s.last ≡ None → IsBegun s front own profile
begun_none s front own profile r e =
    let (no_front, no_own) : AreOwn None front own = subst (λ (l : Option ℕ). AreOwn l front own) e r.are_own in
    let few = subst (λ (l : Option ℕ). length s.profiles.items ≤ before l) e r.few in
    record {
      row = r.row;
      first = r.first;
      all_own = rw no_own (All-nil (IsOf profile));
      other = λ k. absurd (cc (ap (last_profile None) no_front, k));
      passed = r.passed;
      wrong_mode = r.wrong_mode;
      points = r.points;
      kept = r.kept;
      few = omega (arith, few);
    }

-- another one begins
begun_other : (s m : MeasuredRows) (front own : Rows) (last profile : ℕ) → IsReading s front own → s.last ≡ Some last → last ≢ profile → profile ≡ last + 1 → EndsProfile s m
    → IsBegun m (front ++ own) [] profile
begun_other s m front own last profile r e other next x =
    let (kept, few) = profile_ended s m front own last r e x in
    let whole = length-append front own in
    let row = x.row in
    let first = x.first in
    let at = r.row in
    record {
      row = omega (arith, whole, row, at);
      first = omega (arith, whole, first, at);
      all_own = All-nil (IsOf profile);
      other = λ k. other (let same : Some last ≡ Some profile = sym e ∙ r.last ∙ k in cc same);
      passed = ap (rows_fault 0 None) (append-nil (front ++ own)) ∙ r.passed;
      wrong_mode = x.wrong_mode;
      points = x.points;
      kept = kept;
      few = omega (arith, few, next);
    }

-- the row is of a profile that the reader was at
goes_on : (s m t : MeasuredRows) (row : List (List ℕ)) (line : PointRow) (rows front own : Rows) → rows ≡ front ++ own → IsBegun s front own (profile_number row) → m ≡ s → AddsRow m t line
    → point_row_fault s.row (last_profile None (front ++ own)) row ≡ None → line.profile ≡ profile_number row → line.point ≡ point_of_row row → profile_number row < MAX_MEASURED
    → HasTaken t (rows ++ (row ∷ []))
goes_on s m t row line rows front own is begun same a fault profile point small =
    let here = subst (λ (x : MeasuredRows). IsBegun x front own (profile_number row)) (sym same) begun in
    let passed = subst (λ (x : MeasuredRows). point_row_fault x.row (last_profile None (front ++ own)) row ≡ None) (sym same) fault in
    (front, own ++ (row ∷ []), ap (λ (rs : Rows). rs ++ (row ∷ [])) is ∙ append_assoc front own (row ∷ []), row_added m t row line front own here a passed profile point small)

pub takes_row : (s m t : MeasuredRows) (row : List (List ℕ)) (line : PointRow) → (IfSome s.last (λ last. last < MAX_MEASURED)
    → (point_row_fault s.row s.last row ≡ None) × (line.profile ≡ profile_number row) × (line.point ≡ point_of_row row)) → BeginsRow s m line.profile → AddsRow m t line → TakesRow s row t
takes_row s m t row line checked b a rows (front, own, is, r) =
    let (passed, profile, point) = checked r.small in
    let (follows, not_most) = row_passes s.row s.last row passed in
    let small = small_next MAX_MEASURED s.last (profile_number row) (omega arith) r.small follows not_most in
    let here : point_row_fault s.row (last_profile None (front ++ own)) row ≡ None = subst (λ (l : Option ℕ). point_row_fault s.row l row ≡ None) r.last passed in
    elim (some_cases s.last) [
      | inl none ↦ goes_on s m t row line rows front own is (begun_none s front own (profile_number row) r none) (b.none none) a here profile point small
      | inr (last, e) ↦ elim (cases_order last (profile_number row)) [
        | inl same ↦
            let now : s.last ≡ Some (profile_number row) = e ∙ ap Some same in
            goes_on s m t row line rows front own is (begun_same s front own (profile_number row) r now) (b.same (now ∙ ap Some (sym profile))) a here profile point small
        | inr order ↦
            let other : last ≢ profile_number row = λ k. elim order [
              | inl less ↦ omega (arith, less, k)
              | inr more ↦ omega (arith, more, k)
            ] in
            let ended = b.other last e (λ k. other (k ∙ profile)) in
            let next = next_profile last (profile_number row) (subst (λ (l : Option ℕ). may_follow l (profile_number row) ≡ true) e follows) other in
            let begun = begun_other s m front own last (profile_number row) r e other next ended in
            let fault : point_row_fault m.row (last_profile None ((front ++ own) ++ [])) row ≡ None =
            ap (λ (rs : Rows). point_row_fault m.row (last_profile None rs) row) (append-nil (front ++ own)) ∙ ap
            (λ (n : ℕ). point_row_fault n (last_profile None (front ++ own)) row) ended.row ∙ here in
            (front ++ own, row ∷ [], ap (λ (rs : Rows). rs ++ (row ∷ [])) is, row_added m t row line (front ++ own) [] begun a fault profile point small)
      ]
    ]

-- all rows were taken, and the last profile ended

pub all_ended : (s t : MeasuredRows) (rows : Rows) → HasTaken s rows → EndsRows s t
    → Kept (measured_of_rows rows) t.fault t.profiles.items t.measured.items × (length t.profiles.items ≤ MAX_MEASURED)
all_ended s t rows (front, own, is, r) ends =
    let passed : rows_fault 0 None rows ≡ None = ap (rows_fault 0 None) is ∙ r.passed in
    let given : measured_of_rows rows ≡ measured_of_groups 0 (by_profile (front ++ own)) = rw passed (ap (λ (rs : Rows). measured_of_groups 0 (by_profile rs)) is) in
    elim (some_cases s.last) [
      | inl none ↦
          let (no_front, no_own) : AreOwn None front own = subst (λ (l : Option ℕ). AreOwn l front own) none r.are_own in
          let few = subst (λ (l : Option ℕ). length s.profiles.items ≤ before l) none r.few in
          let same = ends.none none in
          let front_only : measured_of_groups 0 (by_profile (front ++ own)) ≡ measured_of_groups 0 (by_profile front) =
          ap (λ (rs : Rows). measured_of_groups 0 (by_profile (front ++ rs))) no_own ∙ ap (λ (rs : Rows). measured_of_groups 0 (by_profile rs)) (append-nil front) in
          subst (λ (x : MeasuredRows). Kept (measured_of_rows rows) x.fault x.profiles.items x.measured.items × (length x.profiles.items ≤ MAX_MEASURED)) (sym same) (
            subst (λ (g : Result (List (List Point)) MeasuredRefusal). Kept g s.fault s.profiles.items s.measured.items) (sym (given ∙ front_only)) r.kept,
            omega (arith, few),
          )
      | inr (last, e) ↦
          let (kept, few) = profile_ended s t front own last r e (ends.some last e) in
          let small = subst (λ (l : Option ℕ). IfSome l (λ last. last < MAX_MEASURED)) e r.small in
          (subst (λ (g : Result (List (List Point)) MeasuredRefusal). Kept g t.fault t.profiles.items t.measured.items) (sym given) kept, omega (arith, few, small))
    ]

pub gives_ok : {P : Type 0} (items : P → List (List Piece)) (points : P → List (List Point)) (s t : MeasuredRows) (read : P) → items read ≡ t.profiles.items → points read ≡ t.measured.items → EndsRows s t
    → t.fault ≡ None → GivesRead items points s (Ok read)
gives_ok items points s t read same all ends none = record {
  ok = λ rows h.
      let k = subst (λ (f : Option MeasuredRefusal). Kept (measured_of_rows rows) f t.profiles.items t.measured.items) none (all_ended s t rows h ends).0 in
      rw (same, all) k;
  refused = λ rows h. tt;
  few = λ rows h. subst (λ (ps : List (List Piece)). length ps ≤ MAX_MEASURED) (sym same) (all_ended s t rows h ends).1;
}

pub gives_err : {P : Type 0} (items : P → List (List Piece)) (points : P → List (List Point)) (s t : MeasuredRows) (why : MeasuredRefusal) → EndsRows s t → t.fault ≡ Some why
    → GivesRead items points s (Err why)
gives_err items points s t why ends some = record {
  ok = λ rows h. tt;
  refused = λ rows h n. subst (λ (f : Option MeasuredRefusal). Kept (measured_of_rows rows) f t.profiles.items t.measured.items) some (all_ended s t rows h ends).0;
  few = λ rows h. tt;
}

-- the rows of a text, taken one after the other

all_taken : (s t : MeasuredRows) (done rows : Rows) → HasTaken s done → TakesAll TakesRow s rows t → HasTaken t (done ++ rows)
all_taken s t done [] h same = subst (λ (rs : Rows). HasTaken t rs) (sym (append-nil done)) (subst (λ (x : MeasuredRows). HasTaken x done) (sym same) h)
all_taken s t done (row ∷ rows) h (m, takes, rest) =
    subst (HasTaken t) (append_assoc done (row ∷ []) rows) (all_taken m t (done ++ (row ∷ [])) rows (takes done h) rest)

-- what a text gives, once its rows were gone through
abbrev pub Reads : {U : Type 0} → List ℕ → MeasuredRows → Result U MeasuredRefusal → Type 0
Reads text t (Ok done) = (rows : Rows) × HasTaken t rows × (measured_of_text text ≡ measured_of_rows rows)
Reads text t (Err why) = measured_of_text text ≡ Err why

refused_given : (s m : MeasuredRows) (front rest : Rows) (row : List (List ℕ)) (why : MeasuredRefusal) → HasTaken m front → point_row_fault m.row m.last row ≡ Some why
    → measured_of_rows (front ++ (row ∷ rest)) ≡ Err why
refused_given s m front rest row why (ended, own, is, r) fault =
    let passed : rows_fault 0 None front ≡ None = ap (rows_fault 0 None) is ∙ r.passed in
    let whole = length-append ended own in
    let same = ap length is in
    let at = r.row in
    let number : 0 + length front ≡ m.row = omega (arith, whole, same, at) in
    let last : last_profile None front ≡ m.last = ap (last_profile None) is ∙ sym r.last in
    let all = fault_behind point_row_fault 0 None front (row ∷ rest) in
    let there : rows_fault 0 None (front ++ (row ∷ rest)) ≡ Some why = rw (all, passed, number, last, fault) refl in
    rw there refl

pub text_read : {U : Type 0} (names : List (List ℕ)) (text : List ℕ) (s t : MeasuredRows) (answer : Result U MeasuredRefusal) → names ≡ header → IsNew s
    → EndsBelow TakesRow RefusesRow refusal.Header s (rows_below names (table text)) t answer → Reads text t answer
text_read {U} names text s t answer same n h = below_read (rows_below header (table text)) refl (rw same at h) where
  below_read : (o : Option Rows) → rows_below header (table text) ≡ o → EndsBelow TakesRow RefusesRow refusal.Header s o t answer → Reads text t answer
  below_read None e k = subst (Reads text t) (sym k.0) (ap (below refusal.Header measured_of_rows) e)
  below_read (Some rows) e k = rows_read answer k where
    given : measured_of_text text ≡ measured_of_rows rows
    given = ap (below refusal.Header measured_of_rows) e

    rows_read : (answer : Result U MeasuredRefusal) → EndsBelow TakesRow RefusesRow refusal.Header s (Some rows) t answer → Reads text t answer
    rows_read (Ok done) k = (rows, all_taken s t [] rows (new_taken s n) k, given)
    rows_read (Err why) (front, row, rest, m, is, taken, refused) =
        let there = all_taken s m [] front (new_taken s n) taken in
        given ∙ ap measured_of_rows is ∙ refused_given s m front rest row why there (refused front there)
