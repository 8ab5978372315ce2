-- The search of a latest departure, step by step.
use Rattle.std.proofs.Common.{◌≡◌, ◌≤◌, ◌<◌, ◌+◌, ◌-◌, ◌^◌, ◌∙◌, ℕ, zero, suc, refl, sym, ap, arith}
use Rattle.std.proofs.lemmas.Bool.{le-leb, le-ltb, lt-leb, lt-ltb}
use Rattle.cu_interval.specs.declared.ways.Dir.{Dir}
use Rattle.cu_interval.specs.Hierarchies.{HierarchyValue}
use Rattle.cu_sweep.specs.declared.finding.Found.{Found}
use Rattle.cu_sweep.specs.declared.finding.Found.TheVariants.{Arrive, NoWalk, Long}
use Rattle.cu_sweep.specs.Sweeps.{found}
use Rattle.cu_reach.specs.declared.departures.Departure.{Departure}
use Rattle.cu_reach.specs.declared.departures.Departure.TheVariants as departure
use Rattle.cu_model.specs.Days.{day}
use Rattle.cu_reach.specs.Departures.{by_answer, departure_of, next_second, searched}
use Rattle.cu_reach.specs.Steps.Searching.{IsLate}

-- an answer that is in time, or late
pub answer_in_time : (by arrival : ℕ) (in_time : ℕ → Departure) (late none : Departure) → arrival ≤ by → by_answer by (Arrive arrival) in_time late none ≡ in_time arrival
answer_in_time by arrival in_time late none le = rw (le-leb arrival by le) refl

pub answer_late : (by arrival : ℕ) (in_time : ℕ → Departure) (late none : Departure) → by < arrival → by_answer by (Arrive arrival) in_time late none ≡ late
answer_late by arrival in_time late none lt = rw (lt-leb arrival by lt) refl

module _ (h : HierarchyValue) (from to by : ℕ) where
  -- no second lies between
  pub searched_done : (left early arrival late : ℕ) → late ≤ early + 1 → searched h from to by left early arrival late ≡ departure.Depart early arrival
  unfolding searched
  searched_done zero early arrival late le = refl
  searched_done (suc left) early arrival late le = rw (le-ltb (early + 1) late le) refl

  -- some second lies between, and is asked next
  searched_on : (left early arrival late second : ℕ) → early + 1 < late → second ≡ next_second early (by - arrival) late (2 ^ left)
      → searched h from to by (suc left) early arrival late
      ≡ by_answer by (found h from to second) (λ next. searched h from to by left second next late) (searched h from to by left early arrival second) (searched h from to by left early arrival second)
  unfolding searched
  searched_on left early arrival late second lt is = rw (lt-ltb (early + 1) late lt, is) refl

  pub searched_next : (left early arrival late second : ℕ) → 0 < left → early + 2 ≤ late → second ≡ next_second early (by - arrival) late (2 ^ (left - 1))
      → searched h from to by left early arrival late
      ≡ by_answer by (found h from to second) (λ next. searched h from to by (left - 1) second next late) (searched h from to by (left - 1) early arrival second)
      (searched h from to by (left - 1) early arrival second)
  searched_next zero early arrival late second some lt is = absurd (omega (arith, some))
  searched_next (suc left) early arrival late second some lt is =
      let one : suc left - 1 ≡ left = omega arith in
      rw one (searched_on left early arrival late second (omega (arith, lt)) (rw one at is))

  -- the answer at that second, of a hierarchy that stayed as it was
  module _ (left early arrival late second : ℕ) (some : 0 < left) (lt : early + 2 ≤ late) (is : second ≡ next_second early (by - arrival) late (2 ^ (left - 1)))
      (held : HierarchyValue) (same : held ≡ h) where
    on : (answer : Found) → answer ≡ found held from to second
        → searched h from to by left early arrival late
        ≡ by_answer by answer (λ next. searched h from to by (left - 1) second next late) (searched h from to by (left - 1) early arrival second)
        (searched h from to by (left - 1) early arrival second)
    on answer found_so = rw (found_so, same) (searched_next left early arrival late second some lt is)

    pub searched_long : (edge : ℕ) (dir : Dir) (at : ℕ) (answer : Found) → answer ≡ found held from to second → answer ≡ Long edge dir at
        → searched h from to by left early arrival late ≡ departure.Long edge dir at
    searched_long edge dir at answer found_so long = rw long at (on answer found_so)

    pub searched_early : (next : ℕ) (answer : Found) → answer ≡ found held from to second → answer ≡ Arrive next → next ≤ by
        → searched h from to by left early arrival late ≡ searched h from to by (left - 1) second next late
    searched_early next answer found_so arrives le =
        let late_one = searched h from to by (left - 1) early arrival second in
        rw arrives at (on answer found_so) ∙ answer_in_time by next (λ other. searched h from to by (left - 1) second other late) late_one late_one le

    pub searched_late : (answer : Found) → answer ≡ found held from to second → IsLate by answer
        → searched h from to by left early arrival late ≡ searched h from to by (left - 1) early arrival second
    searched_late (Arrive next) found_so late_so =
        let late_one = searched h from to by (left - 1) early arrival second in
        on (Arrive next) found_so ∙ answer_late by next (λ other. searched h from to by (left - 1) second other late) late_one late_one late_so
    searched_late NoWalk found_so late_so = on NoWalk found_so
    searched_late (Long edge dir at) found_so late_so = absurd late_so

  -- the answer at second 0, of a hierarchy that stayed as it was
  module _ (answer : Found) (is : answer ≡ found h from to 0) where
    by_first : departure_of h from to by ≡ by_answer by answer (λ arrival. searched h from to by 18 0 arrival day) departure.TooLate departure.NoWalk
    by_first = ap (λ (one : Found). by_answer by one (λ arrival. searched h from to by 18 0 arrival day) departure.TooLate departure.NoWalk) (sym is)

    pub no_departure : answer ≡ NoWalk → departure.NoWalk ≡ departure_of h from to by
    no_departure none = sym (rw none at by_first)

    pub long_departure : (edge : ℕ) (dir : Dir) (at : ℕ) → answer ≡ Long edge dir at → departure.Long edge dir at ≡ departure_of h from to by
    long_departure edge dir at long = sym (rw long at by_first)

    pub late_departure : (arrival : ℕ) → answer ≡ Arrive arrival → by < arrival → departure.TooLate ≡ departure_of h from to by
    late_departure arrival arrives lt =
        sym (rw arrives at by_first ∙ answer_late by arrival (λ other. searched h from to by 18 0 other day) departure.TooLate departure.NoWalk lt)

    pub some_departure : (held : HierarchyValue) (arrival : ℕ) (result : Departure) → held ≡ h → answer ≡ Arrive arrival → arrival ≤ by
        → result ≡ searched held from to by 18 0 arrival day → result ≡ departure_of h from to by
    some_departure held arrival result same arrives le found_so =
        (rw same at found_so) ∙ sym (rw arrives at by_first ∙ answer_in_time by arrival (λ other. searched h from to by 18 0 other day) departure.TooLate departure.NoWalk le)
