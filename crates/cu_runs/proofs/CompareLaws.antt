-- Comparing a candidate with the old list, stretch by stretch.
use Rattle.std.proofs.Common.{◌≡◌, ◌≢◌, ◌≤◌, ◌<◌, ◌+◌, ◌∙◌, ℕ, List, [], Some, refl, sym, ap, subst, arith, inl, inr, false, length, get_or, min}
use Rattle.std.specs.Prelude.{slice_get, nat_lt, if◌then◌else◌}
use Rattle.std.proofs.lemmas.Bool.{cases_lt}
use Rattle.std.proofs.lemmas.Option.{get_or_from_slice_get, slice_get_within}
use Rattle.cu_model.specs.Days.{day}
use Rattle.cu_arrival.specs.declared.runs.Run.{Run}
use Rattle.cu_arrival.specs.declared.runs.RunRule.{RunRule}
use Rattle.cu_arrival.specs.declared.runs.RunRule.TheVariants.{Fixed, Shift}
use Rattle.cu_arrival.specs.Runs.{arrival_value, arrives, rule_number}
use Rattle.cu_model.proofs.Tiling.{IsTiled, tiled_none}
use Rattle.cu_runs.specs.declared.merging.Least.{Least}
use Rattle.cu_runs.specs.declared.merging.Next.{Next}
use Rattle.cu_runs.specs.PackedRuns.{IsDayList, is_fixed}
use Rattle.cu_runs.specs.Least.{Held, held_at, held_from, least_arrival, least_way, tie_with}
use Rattle.cu_runs.specs.Steps.Merging.{least_held, next_held, IsHeld, IsNext, IsMerging, Merges, SaysMerged}
use Rattle.cu_runs.specs.Steps.Bounded.{IsAt}
use Rattle.cu_runs.proofs.DayLists.{from_in_day, value_in_force}
use Rattle.cu_runs.proofs.MergeLaws.{old_at, way_beside, read_there}
use Rattle.cu_runs.proofs.CopyLaws.{next_later, next_there}

module _ (packed : List Run) (is : IsDayList packed) where
  -- before the end of the day another run follows
  pub at_next : (i t : ℕ) → IsAt packed i t → t < day → (next : Run) × (slice_get packed (i + 1) ≡ Some next) × (t < next.from) × (next.from ≤ day) × (i + 1 < length packed)
  at_next i t at before =
      let (run, there, from) = at.begun in
      let (next, after) = next_there packed i run is there (omega (arith, from, before)) in
      let inside = slice_get_within packed (i + 1) next after in
      let last = from_in_day packed is (i + 1) run inside in
      let same = ap (λ (r : Run). r.from) (get_or_from_slice_get packed (i + 1) next run after) in
      (next, after, at.lasts next after, omega (arith, last, same), inside)

  -- at the end of a stretch the run that holds is the next one, or still the same
  pub at_stepped : (i t end new : ℕ) (next : Run) → IsAt packed i t → slice_get packed (i + 1) ≡ Some next → t ≤ end → end ≤ next.from → end ≤ day
      → (next.from ≡ end → new ≡ i + 1) → (next.from ≢ end → new ≡ i) → IsAt packed new end
  at_stepped i t end new next at after later before in_day ended lasts = elim (cases_lt end next.from) [
    | inl lt ↦
        let same : new ≡ i = lasts (λ e. absurd (omega (arith, lt, e))) in
        let (run, there, from) = at.begun in
        let still : IsAt packed i end = record {
          begun = (run, there, omega (arith, from, later));
          lasts = λ other follows. let is_next : next ≡ other = cc (after, follows) in subst (λ (r : Run). end < r.from) is_next lt;
          in_day = in_day;
        } in
        subst (λ (k : ℕ). IsAt packed k end) (sym same) still
    | inr ge ↦
        let here : next.from ≡ end = omega (arith, ge, before) in
        let same : new ≡ i + 1 = ended here in
        let moved : IsAt packed (i + 1) end = record {
          begun = (next, after, omega (arith, here));
          lasts = λ other follows. let order = next_later packed (i + 1) next other is after follows in omega (arith, order, here);
          in_day = in_day;
        } in
        subst (λ (k : ℕ). IsAt packed k end) (sym same) moved
  ]

  -- while a run holds it says the value
  pub at_value : (i t end s : ℕ) (read next : Run) → IsAt packed i t → slice_get packed i ≡ Some read → slice_get packed (i + 1) ≡ Some next → end ≤ next.from → t ≤ s → s < end
      → arrival_value packed s ≡ arrives read.rule s
  at_value i t end s read next at there after until late early =
      let (run, here, from) = at.begun in
      let same : run ≡ read = cc (here, there) in
      let read_from : read.from ≤ t = subst (λ (r : Run). r.from ≤ t) same from in
      let is_read : get_or packed i read ≡ read = get_or_from_slice_get packed i read read there in
      let is_next = ap (λ (r : Run). r.from) (get_or_from_slice_get packed (i + 1) next read after) in
      let begun = ap (λ (r : Run). r.from) is_read in
      value_in_force packed is i s read (slice_get_within packed (i + 1) next after) (omega (arith, begun, read_from, late))
      (omega (arith, is_next, until, early)) ∙ ap (λ (r : Run). arrives r.rule s) is_read

-- and in the old list it is the one in force, with the number beside it
at_held : (l : Least) (i t end s : ℕ) (read next : Run) (way : ℕ) → IsHeld l → IsAt l.packed.items i t → slice_get l.packed.items i ≡ Some read → slice_get l.packed.items (i + 1) ≡ Some next
    → slice_get l.ways.items i ≡ Some way → end ≤ next.from → t ≤ s → s < end → held_at (least_held l) s ≡ Some (read, way)
at_held l i t end s read next way is at there after beside until late early =
    let (run, here, from) = at.begun in
    let same : run ≡ read = cc (here, there) in
    let read_from : read.from ≤ t = subst (λ (r : Run). r.from ≤ t) same from in
    old_at l i s read next way is there after beside (omega (arith, read_from, late)) (omega (arith, until, early))

-- so that it says the least
pub at_least : (l : Least) (i t end s : ℕ) (read next : Run) → IsHeld l → IsAt l.packed.items i t → slice_get l.packed.items i ≡ Some read → slice_get l.packed.items (i + 1) ≡ Some next
    → end ≤ next.from → t ≤ s → s < end → least_arrival (least_held l) s ≡ arrives read.rule s
at_least l i t end s read next is at there after until late early =
    let (way, beside) = way_beside l i read is there in
    let held = at_held l i t end s read next way is at there after beside until late early in
    rw held refl

-- and whose it is
pub at_way : (l : Least) (i t end s : ℕ) (read next : Run) (way : ℕ) → IsHeld l → IsAt l.packed.items i t → slice_get l.packed.items i ≡ Some read → slice_get l.packed.items (i + 1) ≡ Some next
    → slice_get l.ways.items i ≡ Some way → end ≤ next.from → t ≤ s → s < end → least_way (least_held l) s ≡ way
at_way l i t end s read next way is at there after beside until late early =
    let held = at_held l i t end s read next way is at there after beside until late early in
    rw held refl

-- what a tie is worth, by whose the least is
tie_is : (held : List Held) (way s number tie : ℕ) → least_way held s ≡ number → tie ≡ (if nat_lt way number then 1 else 0) → tie_with held way s ≡ tie
tie_is held way s number tie same is_tie = ap (λ (n : ℕ). if nat_lt way n then 1 else 0) same ∙ sym is_tie

-- where a run that shifts is no earlier than a fixed one, a tie among it, it doesn't win
pub shift_loses : (held run : RunRule) (tie s : ℕ) → is_fixed run ≡ false → is_fixed held ≢ is_fixed run → rule_number held + tie ≤ s + rule_number run
    → arrives held s + tie ≤ arrives run s
shift_loses (Fixed c) (Shift d) tie s shifts differ bound = bound
shift_loses (Shift c) (Shift d) tie s shifts differ bound = absurd (differ refl)
shift_loses held (Fixed d) tie s shifts differ bound = absurd (cc shifts)

-- what the comparison knows at a second
pub record IsComparing (l : Least) (candidate : List Run) (way : ℕ) (old n : Next) (from until index other at : ℕ) : Type 0 where
  pub order : (from ≤ at) × (at ≤ until)
  pub done : n.done ≤ at
  pub run : IsAt candidate index at
  pub held : IsAt l.packed.items other at
  pub next : IsNext l n
  pub merging : Merges l from at (arrival_value candidate) way old n

-- the run of an index that was looked up holds
pub at_found : (packed : List Run) (i t : ℕ) → t < day → (run : Run) × (slice_get packed i ≡ Some run) × (run.from ≤ t)
    → ((next : Run) → slice_get packed (i + 1) ≡ Some next → t < next.from) → IsAt packed i t
at_found packed i t before begun lasts = record { begun = begun; lasts = lasts; in_day = omega (arith, before) }

pub comparing_none : (l : Least) (candidate : List Run) (way : ℕ) (n : Next) (from until index other : ℕ) → IsNext l n → n.done ≤ from → from < until
    → IsAt candidate index from → IsAt l.packed.items other from → IsComparing l candidate way n n from until index other from
comparing_none l candidate way n from until index other next done some run held = record {
  order = (omega arith, omega (arith, some));
  done = done;
  run = run;
  held = held;
  next = next;
  merging = λ arrival same is. is;
}

-- a list that is begun anew has merged nothing
pub merging_none : (l : Least) (arrival : ℕ → ℕ) (way : ℕ) (n : Next) → n.done ≡ 0 → next_held n ≡ [] → IsMerging l arrival way n 0
merging_none l arrival way n none empty =
    let says = SaysMerged l arrival way in
    let tiled : IsTiled held_from says (next_held n) 0 = subst (λ (hs : List Held). IsTiled held_from says hs 0) (sym empty) (tiled_none held_from says) in
    record {
      order = omega (arith, none);
      merged = subst (λ (t : ℕ). IsTiled held_from says (next_held n) t) (sym none) tiled;
      held = λ s late early. absurd (omega (arith, early));
    }

module _ (l : Least) (candidate : List Run) (way : ℕ) (first n : Next) (from until index other at end : ℕ) (run run_next held held_next : Run) (is : IsHeld l) (over_day : IsDayList candidate)
    (in_day : until ≤ day) (comparing : IsComparing l candidate way first n from until index other at) (before : at < until)
    (is_run : run ≡ get_or candidate index run) (is_run_next : run_next ≡ get_or candidate (index + 1) run_next)
    (is_held : held ≡ get_or l.packed.items other held) (is_held_next : held_next ≡ get_or l.packed.items (other + 1) held_next) (is_end : end ≡ min (min run_next.from held_next.from) until) where
  -- another run follows in both lists
  pub more_runs : (index + 1 < length candidate) × (other + 1 < length l.packed.items)
  more_runs =
      let (a, there_a, lasts_a, last_a, inside_a) = at_next candidate over_day index at comparing.run (omega (arith, before, in_day)) in
      let (b, there_b, lasts_b, last_b, inside_b) = at_next l.packed.items is.over_day other at comparing.held (omega (arith, before, in_day)) in
      (inside_a, inside_b)

  run_there : slice_get candidate index ≡ Some run
  run_there = let more = more_runs in read_there candidate index run (omega (arith, more.0)) is_run

  run_next_there : slice_get candidate (index + 1) ≡ Some run_next
  run_next_there = read_there candidate (index + 1) run_next more_runs.0 is_run_next

  held_there : slice_get l.packed.items other ≡ Some held
  held_there = let more = more_runs in read_there l.packed.items other held (omega (arith, more.1)) is_held

  held_next_there : slice_get l.packed.items (other + 1) ≡ Some held_next
  held_next_there = read_there l.packed.items (other + 1) held_next more_runs.1 is_held_next

  pub stretch_order : (at < end) × (end ≤ until)
  stretch_order =
      let a = comparing.run.lasts run_next run_next_there in
      let b = comparing.held.lasts held_next held_next_there in
      (omega (arith, a, b, before, is_end), omega (arith, is_end))

  pub stretch_held : (s : ℕ) → at ≤ s → s < end → least_arrival (least_held l) s ≡ arrives held.rule s
  stretch_held s late early = at_least l other at end s held held_next is comparing.held held_there held_next_there (omega (arith, is_end)) late early

  -- whose the least is doesn't change, and so nor does whether a tie goes to the candidate
  pub stretch_tie : (number tie : ℕ) → number ≡ get_or l.ways.items other number → tie ≡ (if nat_lt way number then 1 else 0)
      → (s : ℕ) → at ≤ s → s < end → tie_with (least_held l) way s ≡ tie
  stretch_tie number tie is_number is_tie s late early =
      let inside = more_runs.1 in
      let beside = read_there l.ways.items other number (omega (arith, inside, is.even)) is_number in
      let same = at_way l other at end s held held_next number is comparing.held held_there held_next_there beside (omega (arith, is_end)) late early in
      tie_is (least_held l) way s number tie same is_tie

  pub stretch_next : (m : Next) (index_after other_after : ℕ) → IsNext l m → m.done ≤ end → Merges l at end (arrives run.rule) way n m
      → (run_next.from ≡ end → index_after ≡ index + 1) → (run_next.from ≢ end → index_after ≡ index)
      → (held_next.from ≡ end → other_after ≡ other + 1) → (held_next.from ≢ end → other_after ≡ other)
      → IsComparing l candidate way first m from until index_after other_after end
  stretch_next m index_after other_after next done merges ended lasts held_ended held_lasts =
      let order = stretch_order in
      let later = comparing.order.0 in
      record {
        order = (omega (arith, later, order.0), order.1);
        done = done;
        run = at_stepped candidate over_day index at end index_after run_next comparing.run run_next_there (omega (arith, order.0)) (omega (arith, is_end))
            (omega (arith, order.1, in_day)) ended lasts;
        held = at_stepped l.packed.items is.over_day other at end other_after held_next comparing.held held_next_there (omega (arith, order.0))
            (omega (arith, is_end)) (omega (arith, order.1, in_day)) held_ended held_lasts;
        next = next;
        merging = λ arrival same is_before. merges arrival
            (λ s late early. same s (omega (arith, later, late)) early
            ∙ at_value candidate over_day index at end s run run_next comparing.run run_there run_next_there (omega (arith, is_end)) late early)
            (comparing.merging arrival (λ s late early. same s late (omega (arith, early, order.0))) is_before);
      }
