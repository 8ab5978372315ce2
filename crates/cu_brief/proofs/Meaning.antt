-- What a brief run can say, and that brief runs which mean the runs of a function mean the function.
use Rattle.std.proofs.Common.{◌≡◌, ◌<◌, ◌+◌, ◌-◌, ◌/◌, ◌%◌, ◌^◌, ◌++◌, ◌∙◌, ℕ, zero, suc, List, [], ◌∷◌, Option, Some, refl, sym, ap, subst, arith, leb, false, length, map, get_or, take}
use Rattle.std.specs.Prelude.{slice_get}
use Rattle.std.specs.Option.{option_map}
use Rattle.std.proofs.lemmas.List.{get_or-take, get_or-map, length-map, length-take-le, take_all, take_more}
use Rattle.std.proofs.lemmas.Option.{slice_get-get_or}
use Rattle.cu_model.specs.Begun.{Rises, last_begun}
use Rattle.cu_model.specs.Days.{day}
use Rattle.cu_model.proofs.Begun.{gt_test}
use Rattle.cu_arrival.specs.declared.runs.Run.{Run}
use Rattle.cu_arrival.specs.declared.runs.RunRule.TheVariants.{Shift}
use Rattle.cu_arrival.specs.Runs.{arrival_value, rule_number, run_at, run_value}
use Rattle.cu_arrival.proofs.Mapped.{Rises-unmap, starts-map}
use Rattle.cu_arrival.proofs.RunLaws.{value_in_day}
use Rattle.cu_runs.specs.PackedRuns.{IsDayList}
use Rattle.cu_runs.proofs.DayLists.{from_in_day, last_from, next_from, two_packed}
use Rattle.cu_brief.specs.BriefRuns.{HasNoBrief, MeanPacked, brief_from, brief_rule, run_of_brief, runs_of}
use Rattle.cu_brief.specs.Steps.{IsAbove, counted_from}

above_by : (kind from base more : ℕ) → rule_number (brief_rule kind from (base + more)) ≡ (counted_from (brief_rule kind from (base + more)) from + base) + more
above_by zero from base more = omega arith
above_by (suc kind) from base more = omega arith

-- a brief run takes by its last bits longer than the base
pub says_above : (base bits : ℕ) → IsAbove base (run_of_brief base bits) (bits % 2 ^ 14)
says_above base bits = (omega arith, above_by (bits / 2 ^ 14 % 2) (bits / 2 ^ 15) base (bits % 2 ^ 14))

-- so one that takes too long, or less than the base, has no brief run
pub no_brief : (base : ℕ) (run : Run) → ((more : ℕ) → IsAbove base run more → ⊥) → HasNoBrief base run
no_brief base run none bits e = none (bits % 2 ^ 14) (subst (λ (r : Run). IsAbove base r (bits % 2 ^ 14)) e (says_above base bits))

-- an item that hasn't begun, at the end of a list, changes nothing
pub last_not : {A : Type 0} (from : A → ℕ) (xs : List A) (e : A) (s : ℕ) → s < from e → last_begun from (xs ++ e ∷ []) s ≡ last_begun from xs s
last_not from [] e s late = let no : leb (from e) s ≡ false = gt_test (from e) s late in rw no refl
last_not from (x ∷ xs) e s late = rw (last_not from xs e s late) refl

module _ (packed : List Run) (is : IsDayList packed) where
  all_but_last : (d : Run) → packed ≡ take (length packed - 1) packed ++ get_or packed (length packed - 1) d ∷ []
  all_but_last d =
      let two = two_packed packed is in
      let all : length packed - 1 + 1 ≡ length packed = omega (arith, two) in
      sym (take_all (length packed - 1 + 1) packed (omega (arith, all))) ∙ take_more packed (length packed - 1) d (omega (arith, two))

  -- the end of a function is no run of it
  pub end_says_nothing : (t : ℕ) → t < day → arrival_value (take (length packed - 1) packed) t ≡ arrival_value packed t
  end_says_nothing t early =
      let d : Run = record { from = 0; rule = Shift 0 } in
      let runs = take (length packed - 1) packed in
      let end = get_or packed (length packed - 1) d in
      let last = (last_from packed is d).1 in
      let same : run_at packed t ≡ run_at runs t =
      ap (λ (xs : List Run). run_at xs t) (all_but_last d) ∙ last_not (λ (r : Run). r.from) runs end t (omega (arith, last, early)) in
      value_in_day runs t early ∙ ap (λ (o : Option Run). run_value o 0 t) (sym same) ∙ sym (value_in_day packed t early)

  runs_length : length (take (length packed - 1) packed) ≡ length packed - 1
  runs_length = length-take-le (length packed - 1) packed (omega arith)

  runs_read : (k : ℕ) (d : Run) → k + 1 < length packed → get_or (take (length packed - 1) packed) k d ≡ get_or packed k d
  runs_read k d lt = get_or-take (length packed - 1) packed k d (omega (arith, lt))

  runs_rise : Rises (λ (r : Run). r.from) (take (length packed - 1) packed)
  runs_rise k d h =
      let long = runs_length in
      let here = ap (λ (r : Run). r.from) (runs_read k d (omega (arith, h, long))) in
      let next = ap (λ (r : Run). r.from) (runs_read (k + 1) d (omega (arith, h, long))) in
      let step = is.rises k d (omega (arith, h, long)) in
      omega (arith, here, next, step)

  runs_start : option_map (λ (r : Run). r.from) (slice_get (take (length packed - 1) packed) 0) ≡ Some 0
  runs_start =
      let d : Run = record { from = 0; rule = Shift 0 } in
      let two = two_packed packed is in
      let long = runs_length in
      let there = slice_get-get_or (take (length packed - 1) packed) 0 d (omega (arith, two, long)) in
      let same = runs_read 0 d (omega (arith, two)) in
      let first = slice_get-get_or packed 0 d (omega (arith, two)) in
      ap (option_map (λ (r : Run). r.from)) (there ∙ ap Some same ∙ sym first) ∙ is.starts

  -- brief runs that mean the runs of a function mean the function
  pub mean_packed : (base : ℕ) (brief : List ℕ) → runs_of base brief ≡ take (length packed - 1) packed → MeanPacked base packed brief
  mean_packed base brief same =
      let f = run_of_brief base in
      let long = runs_length in
      let size = length-map brief f in
      let both = ap length same in
      record {
        day = record {
          starts = sym (starts-map f (λ (r : Run). r.from) brief) ∙ ap (λ (rs : List Run). option_map (λ (r : Run). r.from) (slice_get rs 0)) same ∙ runs_start;
          rises = Rises-unmap f (λ (r : Run). r.from) brief (subst (λ (rs : List Run). Rises (λ (r : Run). r.from) rs) (sym same) runs_rise);
          limits = λ k d h.
              let inside : k + 1 < length packed = omega (arith, h, size, both, long) in
              let at : get_or (map f brief) k (f d) ≡ f (get_or brief k d) = get_or-map f brief k d (f d) h in
              let read : get_or (map f brief) k (f d) ≡ get_or packed k (f d) = ap (λ (rs : List Run). get_or rs k (f d)) same ∙ runs_read k (f d) inside in
              let from : brief_from (get_or brief k d) ≡ (get_or packed k (f d)).from = ap (λ (r : Run). r.from) (sym at ∙ read) in
              let step = next_from packed is k (f d) inside in
              let until = from_in_day packed is (k + 1) (f d) inside in
              omega (arith, from, step, until);
        };
        runs = same;
        value = λ t early. ap (λ (rs : List Run). arrival_value rs t) same ∙ end_says_nothing t early;
      }

-- a run before the end begins before the day's end
pub before_end : (packed : List Run) → IsDayList packed → (i : ℕ) (run : Run) → i < length packed - 1 → run ≡ get_or packed i run → run.from < day
before_end packed is i run lt same =
    let step = next_from packed is i run (omega (arith, lt)) in
    let until = from_in_day packed is (i + 1) run (omega (arith, lt)) in
    let from = ap (λ (r : Run). r.from) same in
    omega (arith, step, until, from)
