-- The least and the greatest travel time of a function, run by run.
use Rattle.std.proofs.Common.{◌≡◌, ◌≤◌, ◌<◌, ◌+◌, ◌-◌, ◌^◌, ◌∙◌, ℕ, List, Some, sym, ap, subst, arith, inl, inr, length, get_or, min, max}
use Rattle.std.proofs.lemmas.Bool.{cases_lt}
use Rattle.cu_model.specs.Days.{day, IsOnward}
use Rattle.cu_model.proofs.DayLaws.{day_parts}
use Rattle.cu_arrival.specs.declared.runs.Run.{Run}
use Rattle.cu_arrival.specs.declared.runs.RunRule.{RunRule}
use Rattle.cu_arrival.specs.declared.runs.RunRule.TheVariants.{Shift, Fixed}
use Rattle.cu_arrival.specs.Runs.{arrival_value, arrives}
use Rattle.cu_runs.specs.Travels.{TakeLonger, Takes, TakesAtLeast, TakesAtMost}
use Rattle.cu_runs.specs.PackedRuns.{IsDayList, IsPackedFunction, end_run}
use Rattle.cu_runs.proofs.DayLists.{repeats, next_from, from_in_day, starts_from, two_packed, has_next, value_in_force}
use Rattle.cu_runs.proofs.LinkLaws.{get_or-same}

-- the second from which the run of an index holds
abbrev pub begin_of : List Run → ℕ → ℕ
begin_of packed i = (get_or packed i end_run).from

-- a travel time that is met at some second of the day, and is the least, or the greatest, of all before a second
pub record IsLeastBefore (f : ℕ → ℕ) (least t : ℕ) : Type 0 where
  pub below : (s : ℕ) → s < t → s + least ≤ f s
  pub taken : (s : ℕ) × (s < day) × (f s ≡ s + least)

pub record IsMostBefore (f : ℕ → ℕ) (most t : ℕ) : Type 0 where
  pub above : (s : ℕ) → s < t → f s ≤ s + most
  pub taken : (s : ℕ) × (s < day) × (f s ≡ s + most)

pub travel_least : (r : RunRule) (t last : ℕ) → t ≤ last → last ≤ arrives r last → t + (arrives r last - last) ≤ arrives r t
travel_least (Shift d) t last h o = omega (arith, h)
travel_least (Fixed c) t last h o = omega (arith, h, o)

travel_most : (r : RunRule) (from t : ℕ) → from ≤ t → from ≤ arrives r from → arrives r t ≤ t + (arrives r from - from)
travel_most (Shift d) from t h o = omega (arith, h)
travel_most (Fixed c) from t h o = omega (arith, h, o)

module _ (packed : List Run) (is : IsDayList packed) where
  pub begin_start : begin_of packed 0 ≡ 0
  begin_start = starts_from packed is end_run

  pub begin_end : (i : ℕ) → i + 1 ≡ length packed → begin_of packed i ≡ day
  begin_end i e =
      let inside : i < length packed = omega (arith, e) in
      let until = from_in_day packed is i end_run inside in
      elim (cases_lt (begin_of packed i) day) [
        | inl lt ↦ let more = has_next packed is i end_run inside lt in absurd (omega (arith, more, e))
        | inr ge ↦ omega (arith, until, ge)
      ]

  -- the run of an index, where another follows it
  pub begin_next : (i : ℕ) → i + 1 < length packed → (begin_of packed i < begin_of packed (i + 1)) × (begin_of packed (i + 1) ≤ day)
  begin_next i inside = (next_from packed is i end_run inside, from_in_day packed is (i + 1) end_run inside)

  pub begin_read : (i : ℕ) (read : Run) → i < length packed → read ≡ get_or packed i read → begin_of packed i ≡ read.from
  begin_read i read inside same = ap (λ (r : Run). r.from) (get_or-same packed i end_run read inside ∙ sym same)

  pub begin_value : (i s : ℕ) (read : Run) → i + 1 < length packed → read ≡ get_or packed i read → begin_of packed i ≤ s → s < begin_of packed (i + 1) → arrival_value packed s ≡ arrives read.rule s
  begin_value i s read inside same late early =
      value_in_force packed is i s end_run inside late early ∙ ap (λ (r : Run). arrives r.rule s) (get_or-same packed i end_run read (omega (arith, inside)) ∙ sym same)

module _ (packed : List Run) (is : IsDayList packed) (onward : IsOnward (arrival_value packed)) where
  -- the travel time of second 0
  first_taken : (read : Run) → read ≡ get_or packed 0 read → (s : ℕ) × (s < day) × (arrival_value packed s ≡ s + arrives read.rule 0)
  first_taken read same =
      let two = two_packed packed is in
      let start = begin_start packed is in
      let order = begin_next packed is 0 two in
      let value = begin_value packed is 0 0 read two same (omega (arith, start)) (omega (arith, order.0)) in
      (0, omega arith, omega (arith, value))

  pub least_first : (read : Run) → read ≡ get_or packed 0 read → IsLeastBefore (arrival_value packed) (arrives read.rule 0) (begin_of packed 0)
  least_first read same = let start = begin_start packed is in record { below = λ s h. absurd (omega (arith, h, start)); taken = first_taken read same }

  pub most_first : (read : Run) → read ≡ get_or packed 0 read → IsMostBefore (arrival_value packed) (arrives read.rule 0) (begin_of packed 0)
  most_first read same = let start = begin_start packed is in record { above = λ s h. absurd (omega (arith, h, start)); taken = first_taken read same }

  -- no arrival of a run is before its departure
  pub run_onward : (i s : ℕ) (read : Run) → i + 1 < length packed → read ≡ get_or packed i read → begin_of packed i ≤ s → s < begin_of packed (i + 1) → s ≤ arrives read.rule s
  run_onward i s read inside same late early =
      let value = begin_value packed is i s read inside same late early in
      let end = (begin_next packed is i inside).1 in
      let after = onward s (omega (arith, early, end)) in
      omega (arith, value, after)

  -- with the run of an index, whose least travel time is that of its last second
  pub least_more : (i least : ℕ) (read next : Run) → i + 1 < length packed → read ≡ get_or packed i read → next ≡ get_or packed (i + 1) next
      → IsLeastBefore (arrival_value packed) least (begin_of packed i)
      → IsLeastBefore (arrival_value packed) (min least (arrives read.rule (next.from - 1) - (next.from - 1))) (begin_of packed (i + 1))
  least_more i least read next inside same is_next before =
      let last = next.from - 1 in
      let until = begin_read packed is (i + 1) next inside is_next in
      let order = begin_next packed is i inside in
      let value = begin_value packed is i last read inside same (omega (arith, until, order.0)) (omega (arith, until, order.0)) in
      let after = run_onward i last read inside same (omega (arith, until, order.0)) (omega (arith, until, order.0)) in
      let (t, in_day, met) = before.taken in
      record {
        below = λ s h. elim (cases_lt s (begin_of packed i)) [
          | inl lt ↦ let old = before.below s lt in omega (arith, old)
          | inr ge ↦
              let here = begin_value packed is i s read inside same ge h in
              let least_here = travel_least read.rule s last (omega (arith, until, h)) after in
              omega (arith, here, least_here)
        ];
        taken = elim (cases_lt least (arrives read.rule last - last)) [
          | inl lt ↦ (t, in_day, omega (arith, met, lt))
          | inr ge ↦ (last, omega (arith, until, order.0, order.1), omega (arith, value, after, ge))
        ];
      }

  -- with the run of an index, whose greatest travel time is that of its first second
  pub most_more : (i most : ℕ) (read : Run) → i + 1 < length packed → read ≡ get_or packed i read → IsMostBefore (arrival_value packed) most (begin_of packed i)
      → IsMostBefore (arrival_value packed) (max most (arrives read.rule read.from - read.from)) (begin_of packed (i + 1))
  most_more i most read inside same before =
      let begins = begin_read packed is i read (omega (arith, inside)) same in
      let order = begin_next packed is i inside in
      let value = begin_value packed is i read.from read inside same (omega (arith, begins)) (omega (arith, begins, order.0)) in
      let after = run_onward i read.from read inside same (omega (arith, begins)) (omega (arith, begins, order.0)) in
      let (t, in_day, met) = before.taken in
      record {
        above = λ s h. elim (cases_lt s (begin_of packed i)) [
          | inl lt ↦ let old = before.above s lt in omega (arith, old)
          | inr ge ↦
              let here = begin_value packed is i s read inside same ge h in
              let most_here = travel_most read.rule read.from s (omega (arith, begins, ge)) after in
              omega (arith, here, most_here)
        ];
        taken = elim (cases_lt (arrives read.rule read.from - read.from) most) [
          | inl lt ↦ (t, in_day, omega (arith, met, lt))
          | inr ge ↦ (read.from, omega (arith, begins, order.0, order.1), omega (arith, value, after, ge))
        ];
      }

-- a function that takes no less, or no more, over the day takes no less, or no more, at every second
pub least_always : (packed : List Run) (least : ℕ) → IsPackedFunction packed → TakesAtLeast packed least → (t : ℕ) → t + least ≤ arrival_value packed t
least_always packed least f takes t =
    let (k, s, lt, e) = day_parts t in
    let here = takes s lt in
    let later = repeats packed f.over_day k s lt in
    subst (λ (x : ℕ). x + least ≤ arrival_value packed x) (sym e) (omega (arith, here, later))

pub most_always : (packed : List Run) (most : ℕ) → IsPackedFunction packed → TakesAtMost packed most → (t : ℕ) → arrival_value packed t ≤ t + most
most_always packed most f takes t =
    let (k, s, lt, e) = day_parts t in
    let here = takes s lt in
    let later = repeats packed f.over_day k s lt in
    subst (λ (x : ℕ). arrival_value packed x ≤ x + most) (sym e) (omega (arith, here, later))

-- two functions that take longer together than this, by the sum of what each takes at some second
pub take_longer : (first second : List Run) (one two sum most : ℕ) → Takes first one → Takes second two → sum ≡ min (one + two) (2 ^ 64 - 1) → most < sum
    → TakeLonger most (Some (arrival_value first)) (Some (arrival_value second))
take_longer first second one two sum most (t, lt, takes) (s, less, more) is_sum above = (t, s, lt, less, omega (arith, takes, more, is_sum, above))
