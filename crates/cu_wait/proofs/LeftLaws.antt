-- When one leaves who waits as little as serves: there is exactly one such second, and it is less than a day later.
use Rattle.std.proofs.Common.{◌≡◌, ◌≤◌, ◌<◌, ◌+◌, ◌-◌, ◌*◌, ◌/◌, ◌%◌, ℕ, zero, suc, refl, subst, arith, inl, inr}
use Rattle.std.proofs.lemmas.Nat.{div-add-mod', mod_below}
use Rattle.std.specs.Prelude.{nat_le, if◌then◌else◌}
use Rattle.std.proofs.lemmas.Bool.{cases_lt, le-leb, lt-leb}
use Rattle.cu_model.specs.Days.{day, RepeatsDaily}
use Rattle.cu_model.proofs.DayLaws.{many_days}
use Rattle.cu_wait.specs.declared.left.Best.{Best}
use Rattle.cu_wait.specs.LeftSeconds.{IsLeft, first_least, left_at}
use Rattle.cu_wait.specs.Steps.LeftLegs.{IsBestUntil}

-- no two such seconds
pub left_one : (f : ℕ → ℕ) (second left other : ℕ) → IsLeft f second left → IsLeft f second other → other ≡ left
left_one f second left other a b =
    let low = a.first other b.later b.least in
    let high = b.first left a.later a.least in
    omega (arith, low, high)

-- what keeps order from a second on is least there
pub left_at_once : (f : ℕ → ℕ) (second : ℕ) → ((s : ℕ) → second ≤ s → f second ≤ f s) → IsLeft f second second
left_at_once f second order = record {
  later = omega arith;
  least = record { reached = (second, omega arith, refl); least = order };
  first = λ s le least. le;
}

-- the first of so many seconds at which the value is least
pub record IsFirstLeast (f : ℕ → ℕ) (second more found : ℕ) : Type 0 where
  pub later : second ≤ found
  pub within : found ≤ second + more
  pub least : (s : ℕ) → second ≤ s → s ≤ second + more → f found ≤ f s
  pub first : (s : ℕ) → second ≤ s → s < found → f found < f s

-- of a second and the first least behind it
least_joined : (f : ℕ → ℕ) (second more least : ℕ) → IsFirstLeast f (second + 1) more least
    → IsFirstLeast f second (suc more) (if nat_le (f second) (f least) then second else least)
least_joined f second more least is =
    let later = is.later in
    let within = is.within in
    elim (cases_lt (f least) (f second)) [
      | inl less ↦
          let b = lt-leb (f second) (f least) less in
          rw b (record {
            later = omega (arith, later);
            within = omega (arith, within);
            least = λ s le lt. elim (cases_lt second s) [
              | inl past ↦ is.least s (omega (arith, past)) (omega (arith, lt))
              | inr here ↦ let e : second ≡ s = omega (arith, le, here) in subst (λ (x : ℕ). f least ≤ f x) e (omega (arith, less))
            ];
            first = λ s le lt. elim (cases_lt second s) [
              | inl past ↦ is.first s (omega (arith, past)) lt
              | inr here ↦ let e : second ≡ s = omega (arith, le, here) in subst (λ (x : ℕ). f least < f x) e less
            ];
          })
      | inr more_ ↦
          let b = le-leb (f second) (f least) more_ in
          rw b (record {
            later = omega arith;
            within = omega arith;
            least = λ s le lt. elim (cases_lt second s) [
              | inl past ↦ let low = is.least s (omega (arith, past)) (omega (arith, lt)) in omega (arith, low, more_)
              | inr here ↦ let e : second ≡ s = omega (arith, le, here) in subst (λ (x : ℕ). f second ≤ f x) e (omega arith)
            ];
            first = λ s le lt. absurd (omega (arith, le, lt));
          })
    ]

pub first_least_is : (f : ℕ → ℕ) (second more : ℕ) → IsFirstLeast f second more (first_least f second more)
unfolding first_least
first_least_is f second zero = record {
  later = omega arith;
  within = omega arith;
  least = λ s le lt. let e : second ≡ s = omega (arith, le, lt) in subst (λ (x : ℕ). f second ≤ f x) e (omega arith);
  first = λ s le lt. absurd (omega (arith, le, lt));
}
first_least_is f second (suc more) = least_joined f second more (first_least f (second + 1) more) (first_least_is f (second + 1) more)

module _ (f : ℕ → ℕ) (repeats : RepeatsDaily f) where
  -- one leaves less than a day later: who leaves a day earlier arrives a day earlier
  pub left_soon : (second left : ℕ) → IsLeft f second left → left < second + day
  left_soon second left is =
      elim (cases_lt left (second + day)) [
        | inl soon ↦ soon
        | inr far ↦
            let e : 1 * day + (left - day) ≡ left = omega (arith, far) in
            let same = subst (λ (x : ℕ). f x ≡ 1 * day + f (left - day)) e (many_days f repeats 1 (left - day)) in
            let low = is.least.least (left - day) (omega (arith, far)) in
            absurd (omega (arith, same, low))
      ]

  -- some days later everything is so many days later
  pub left_later : (days second left : ℕ) → IsLeft f second left → IsLeft f (days * day + second) (days * day + left)
  left_later days second left is =
      let at = many_days f repeats days left in
      record {
        later = (let l = is.later in omega (arith, l));
        least = record {
          reached = (days * day + left, (let l = is.later in omega (arith, l)), refl);
          least = λ s le.
              let low = is.least.least (s - days * day) (omega (arith, le)) in
              let there = back days s (omega (arith, le)) in
              omega (arith, at, low, there);
        };
        first = λ s le least.
            let there = back days s (omega (arith, le)) in
            let first = is.first (s - days * day) (omega (arith, le)) (record {
              reached = (s - days * day, omega (arith, le), refl);
              least = λ t from.
                  let low = least.least (days * day + t) (omega (arith, from)) in
                  let other = many_days f repeats days t in
                  omega (arith, low, other, there);
            }) in
            omega (arith, first, le);
      }
    where
      back : (days s : ℕ) → days * day ≤ s → f s ≡ days * day + f (s - days * day)
      back days s le =
          let e : days * day + (s - days * day) ≡ s = omega (arith, le) in
          subst (λ (x : ℕ). f x ≡ days * day + f (s - days * day)) e (many_days f repeats days (s - days * day))

  -- what is best within a day from a second on is so for ever: whoever leaves later could leave some days earlier, and arrive as many earlier
  pub left_of_day : (second left : ℕ) → second ≤ left → ((s : ℕ) → second ≤ s → s < second + day → f left ≤ f s) → ((s : ℕ) → second ≤ s → s < left → f left < f s)
      → IsLeft f second left
  left_of_day second left later least first = record {
    later = later;
    least = record {
      reached = (left, later, refl);
      least = λ s le.
          let k = (s - second) / day in
          let r = (s - second) % day in
          let below = mod_below (s - second) day (omega arith) in
          let parts = div-add-mod' (s - second) day in
          let e : k * day + (second + r) ≡ s = omega (arith, parts, le) in
          let there = subst (λ (x : ℕ). f x ≡ k * day + f (second + r)) e (many_days f repeats k (second + r)) in
          let low = least (second + r) (omega arith) (omega (arith, below)) in
          omega (arith, there, low);
    };
    first = λ s le lowest. elim (cases_lt s left) [
      | inl early ↦ let late = first s le early in let low = lowest.least left later in absurd (omega (arith, late, low))
      | inr fine ↦ fine
    ];
  }

  -- so is what is best within two days from a second of the first
  pub left_of_days : (start : ℕ) (best : Best) → start < day → IsBestUntil f start (2 * day) best → IsLeft f start best.second
  left_of_days start best in_day is =
      let at = is.arrival in
      left_of_day start best.second is.later
      (λ s le lt. let low = is.least s le (omega (arith, in_day, lt)) in omega (arith, low, at))
      (λ s le lt. let late = is.first s le lt in omega (arith, late, at))

  -- and the second that is defined
  pub left_is_at : (second : ℕ) → IsLeft f second (left_at f second)
  left_is_at second =
      let is = first_least_is f second 86399 in
      let within = is.within in
      left_of_day second (left_at f second) is.later (λ s le lt. is.least s le (omega (arith, lt))) is.first
