-- Stretches of functions put behind one another, and order from run to run.
use Rattle.std.proofs.Common.{◌≡◌, ◌≤◌, ◌<◌, ◌+◌, ◌-◌, ◌*◌, ◌∙◌, ℕ, List, Bool, if◌then◌else◌, refl, sym, ap, subst, arith, inl, inr, length, get_or, max, min}
use Rattle.std.proofs.lemmas.Bool.{cases_lt}
use Rattle.cu_model.specs.Days.{day, KeepsOrder}
use Rattle.cu_model.specs.Growing.{IsPushed}
use Rattle.cu_model.proofs.Growing.{grown_push}
use Rattle.cu_arrival.specs.declared.runs.Run.{Run}
use Rattle.cu_arrival.specs.declared.runs.RunRule.{RunRule}
use Rattle.cu_arrival.specs.declared.runs.RunRule.TheVariants.{Shift, Fixed}
use Rattle.cu_arrival.specs.Runs.{arrival_value, arrives, rule_number}
use Rattle.cu_runs.specs.PackedRuns.{IsDayList, is_fixed}
use Rattle.cu_runs.proofs.DayLists.{repeats}
use Rattle.cu_runs.proofs.TravelLaws.{begin_end, begin_next, begin_start, begin_value}
use Rattle.cu_runs.proofs.TravelLaws.{begin_of}
use Rattle.cu_filling.specs.Filling.{SaysUpTo}

-- how far it is said when this run is next
abbrev pub reach : List Run → ℕ → ℕ → ℕ → ℕ
reach linked from until index = min until (max from (begin_of linked index))

module _ (linked : List Run) (is : IsDayList linked) (from until : ℕ) (some : from < until) (in_day : until ≤ day) (f : ℕ → ℕ)
    (agrees : (t : ℕ) → from ≤ t → t < until → arrival_value linked t ≡ f t) where
  pub reach_start : reach linked from until 0 ≡ from
  reach_start = let start = begin_start linked is in omega (arith, start, some)

  pub reach_end : (index : ℕ) → index + 1 ≡ length linked → reach linked from until index ≡ until
  reach_end index last = let end = begin_end linked is index last in omega (arith, end, some, in_day)

  -- a run that is in the stretch
  pub reach_more : (old new : List Run) (index start end : ℕ) (read run : Run) → index + 1 < length linked → read ≡ get_or linked index read
      → start ≡ max (begin_of linked index) from → end ≡ min (begin_of linked (index + 1)) until → start < end → run.from ≡ start → run.rule ≡ read.rule → IsPushed (λ (r : Run). r.rule) old run new
      → SaysUpTo f old (reach linked from until index) → SaysUpTo f new (reach linked from until (index + 1))
  reach_more old new index start end read run inside same is_start is_end order at rule pushed says =
      let next = begin_next linked is index inside in
      let here : reach linked from until index ≡ start = omega (arith, is_start, is_end, order) in
      let there : end ≡ reach linked from until (index + 1) = omega (arith, is_start, is_end, order, next.0) in
      subst (λ (n : ℕ). SaysUpTo f new n) there
      (grown_push (λ (r : Run). r.from) (λ (r : Run). r.rule) (λ (rule : RunRule) (s : ℕ). arrives rule s ≡ f s) old new run start end
      (subst (λ (n : ℕ). SaysUpTo f old n) here says) pushed at order
      (λ s late early. ap (λ (r : RunRule). arrives r s) rule
      ∙ sym (begin_value linked is index s read inside same (omega (arith, is_start, late)) (omega (arith, is_end, early)))
      ∙ agrees s (omega (arith, is_start, late)) (omega (arith, is_end, early))))

  -- one that isn't
  pub reach_same : (old : List Run) (index start end : ℕ) → index + 1 < length linked → start ≡ max (begin_of linked index) from → end ≡ min (begin_of linked (index + 1)) until → end ≤ start
      → SaysUpTo f old (reach linked from until index) → SaysUpTo f old (reach linked from until (index + 1))
  reach_same old index start end inside is_start is_end order says =
      let next = begin_next linked is index inside in
      let same : reach linked from until index ≡ reach linked from until (index + 1) = omega (arith, is_start, is_end, order, next.0, some) in
      subst (λ (n : ℕ). SaysUpTo f old n) same says

-- what a rule arrives at second 0 is its number
pub first_number : (r : RunRule) → arrives r 0 ≡ rule_number r
first_number (Shift d) = omega arith
first_number (Fixed c) = refl

-- a rule that is made of the kind and the number of another
pub same_rule : (r : RunRule) (fixed : Bool) (number : ℕ) → fixed ≡ is_fixed r → number ≡ rule_number r → (if fixed then Fixed number else Shift number) ≡ r
same_rule (Shift d) fixed number is same = ap (λ (b : Bool). if b then Fixed number else Shift number) is ∙ ap Shift same
same_rule (Fixed c) fixed number is same = ap (λ (b : Bool). if b then Fixed number else Shift number) is ∙ ap Fixed same

rule_rises : (r : RunRule) (s : ℕ) → arrives r s ≤ arrives r (s + 1)
rule_rises (Shift d) s = omega arith
rule_rises (Fixed c) s = omega arith

module _ (packed : List Run) (is : IsDayList packed) where
  -- at the end of the day comes the first second of the next
  midnight : arrival_value packed day ≡ day + arrival_value packed 0
  midnight =
      let e : 1 * day + 0 ≡ day = omega arith in
      let over = subst (λ (t : ℕ). arrival_value packed t ≡ 1 * day + arrival_value packed 0) e (repeats packed is 1 0 (omega arith)) in
      omega (arith, over)

  -- order in the run, and at its end
  pub order_more : (index last following : ℕ) (read next : Run) → index + 1 < length packed → read ≡ get_or packed index read
      → last ≡ arrives read.rule (begin_of packed (index + 1) - 1) → following ≡ arrival_value packed (begin_of packed (index + 1)) → last ≤ following
      → ((s : ℕ) → s < begin_of packed index → arrival_value packed s ≤ arrival_value packed (s + 1))
      → (s : ℕ) → s < begin_of packed (index + 1) → arrival_value packed s ≤ arrival_value packed (s + 1)
  order_more index last following read next inside same is_last is_following order before s early =
      elim (cases_lt s (begin_of packed index)) [
        | inl lt ↦ before s lt
        | inr ge ↦
            let here = begin_value packed is index s read inside same ge early in
            elim (cases_lt (s + 1) (begin_of packed (index + 1))) [
              | inl more ↦
                  let there = begin_value packed is index (s + 1) read inside same (omega (arith, ge)) more in
                  let rises = rule_rises read.rule s in
                  omega (arith, here, there, rises)
              | inr end ↦
                  let at : begin_of packed (index + 1) ≡ s + 1 = omega (arith, end, early) in
                  let before_end : begin_of packed (index + 1) - 1 ≡ s = omega (arith, at) in
                  let a = ap (arrives read.rule) before_end in
                  let b = ap (arrival_value packed) at in
                  omega (arith, here, is_last, is_following, order, a, b)
            ]
      ]

  -- the value at the next run's first second
  pub following_day : (index first end : ℕ) → begin_of packed (index + 1) ≡ end → end ≡ day → first ≡ arrival_value packed 0 → day + first ≡ arrival_value packed (begin_of packed (index + 1))
  following_day index first end at is_day is_first =
      let m = midnight in
      let a = ap (arrival_value packed) (at ∙ is_day) in
      omega (arith, m, a, is_first)

  pub following_run : (index end : ℕ) (next : Run) → index + 1 < length packed → next ≡ get_or packed (index + 1) next → begin_of packed (index + 1) ≡ end → (end ≡ day → ⊥)
      → arrives next.rule end ≡ arrival_value packed (begin_of packed (index + 1))
  following_run index end next inside same at not_day =
      let order = begin_next packed is index inside in
      let more : index + 1 + 1 < length packed = elim (cases_lt (index + 1 + 1) (length packed)) [
        | inl lt ↦ lt
        | inr ge ↦ let last = begin_end packed is (index + 1) (omega (arith, ge, inside)) in absurd (not_day (omega (arith, last, at)))
      ] in
      let after = begin_next packed is (index + 1) more in
      let value = begin_value packed is (index + 1) end next more same (omega (arith, at)) (omega (arith, at, after.0)) in
      sym value ∙ ap (arrival_value packed) (sym at)

  pub first_value : (first : ℕ) (read : Run) → read ≡ get_or packed 0 read → 1 < length packed → first ≡ arrives read.rule 0 → first ≡ arrival_value packed 0
  first_value first read same two e =
      let start = begin_start packed is in
      let next = begin_next packed is 0 two in
      e ∙ sym (begin_value packed is 0 0 read two same (omega (arith, start)) (omega (arith, start, next.0)))

  pub order_all : (index : ℕ) → index + 1 ≡ length packed → ((s : ℕ) → s < begin_of packed index → arrival_value packed s ≤ arrival_value packed (s + 1)) → KeepsOrder (arrival_value packed)
  order_all index last order s early = let end = begin_end packed is index last in order s (omega (arith, end, early))

  -- where the last second of a run arrives later than the next one's first, order is broken
  pub order_broken : (index last following : ℕ) (read : Run) → index + 1 < length packed → read ≡ get_or packed index read
      → last ≡ arrives read.rule (begin_of packed (index + 1) - 1) → following ≡ arrival_value packed (begin_of packed (index + 1)) → following < last
      → KeepsOrder (arrival_value packed) → ⊥
  order_broken index last following read inside same is_last is_following late order =
      let next = begin_next packed is index inside in
      let s = begin_of packed (index + 1) - 1 in
      let here = begin_value packed is index s read inside same (omega (arith, next.0)) (omega (arith, next.0)) in
      let step = order s (omega (arith, next.0, next.1)) in
      let place : s + 1 ≡ begin_of packed (index + 1) = omega (arith, next.0) in
      let after = ap (arrival_value packed) place in
      omega (arith, here, step, after, is_last, is_following, late)
