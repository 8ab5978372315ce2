-- Composing run by run: what a place says, and what a further run adds to what is linked.
use Rattle.std.proofs.Common.{◌≡◌, ◌≤◌, ◌<◌, ◌+◌, ◌-◌, ◌++◌, ◌∙◌, ℕ, suc, List, [], ◌∷◌, Some, refl, sym, ap, subst, arith, length, get_or, min}
use Rattle.std.specs.Prelude.{slice_get, All, true, false}
use Rattle.std.specs.Option.{option_map}
use Rattle.std.proofs.lemmas.List.{length_push}
use Rattle.std.proofs.lemmas.Option.{get_or_from_slice_get, slice_get_within, slice_get-get_or}
use Rattle.cu_model.specs.Days.{day}
use Rattle.cu_arrival.specs.declared.runs.Run.{Run}
use Rattle.cu_arrival.specs.declared.runs.RunRule.{RunRule}
use Rattle.cu_arrival.specs.declared.runs.RunRule.TheVariants.{Shift, Fixed}
use Rattle.cu_arrival.specs.Runs.{run_at, run_value, rule_value, rule_number, arrival_value, arrives}
use Rattle.cu_arrival.proofs.RunLaws.{value_in_day}
use Rattle.cu_model.proofs.Tiling.{IsTiled, tiled_push}
use Rattle.cu_arrival.proofs.Built.{arrives-value}
use Rattle.cu_runs.specs.declared.linking.Reached.{Reached}
use Rattle.cu_runs.specs.PackedRuns.{IsDayList, end_run, is_fixed}
use Rattle.cu_runs.specs.Steps.Linking.{after_shift, after_arrival, IsReached, IsSaid, Says, Continues}
use Rattle.cu_runs.specs.declared.packed_runs.TheConstants.{MAX_NUMBER}
use Rattle.cu_runs.proofs.DayLists.{next_from, value_after}

-- an item that is there is the same by any other
pub get_or-same : {A : Type 0} (xs : List A) (i : ℕ) (d e : A) → i < length xs → get_or xs i d ≡ get_or xs i e
get_or-same xs i d e inside = get_or_from_slice_get xs i (get_or xs i e) d (slice_get-get_or xs i e inside)

-- a place that begins by a second begins by every later one
pub place_later : (packed : List Run) (place : Reached) (t s : ℕ) → IsReached packed place t → t ≤ s → IsReached packed place s
place_later packed place t s is h =
    let (run, there, begun) = is.begun in
    record { whole = is.whole; begun = (run, there, omega (arith, begun, h)); next = is.next }

-- where the runs of a place stand
pub record IsSpan (packed : List Run) (place : Reached) (t : ℕ) (d : Run) : Type 0 where
  pub inside : place.index + 1 < length packed
  pub begun : place.midnight + (get_or packed place.index d).from ≤ t
  pub end : place.end ≡ place.midnight + (get_or packed (place.index + 1) d).from

pub place_span : (packed : List Run) (place : Reached) (t : ℕ) (d : Run) → IsReached packed place t → IsSpan packed place t d
place_span packed place t d is =
    let (run, there, begun) = is.begun in
    let (next, after, end) = is.next in
    record {
      inside = slice_get_within packed (place.index + 1) next after;
      begun = subst (λ (r : Run). place.midnight + r.from ≤ t) (sym (get_or_from_slice_get packed place.index run d there)) begun;
      end = subst (λ (r : Run). place.end ≡ place.midnight + r.from) (sym (get_or_from_slice_get packed (place.index + 1) next d after)) end;
    }

-- a place begins before it ends
pub place_end : (packed : List Run) (place : Reached) (t : ℕ) → IsDayList packed → IsReached packed place t → IsReached packed place place.end
place_end packed place t over is =
    let (run, there, begun) = is.begun in
    let span = place_span packed place t run is in
    let same = get_or_from_slice_get packed place.index run run there in
    let from : (get_or packed place.index run).from ≡ run.from = ap (λ (r : Run). r.from) same in
    let order = next_from packed over place.index run span.inside in
    record { whole = is.whole; begun = (run, there, omega (arith, span.end, from, order)); next = is.next }

-- what the run of a place says
pub place_value : (packed : List Run) (place : Reached) (t0 t seconds : ℕ) (d : Run) → IsDayList packed → IsReached packed place t0 → t0 ≤ t + seconds
    → t + seconds < place.end → arrival_value packed (t + seconds) ≡ arrives (after_shift (get_or packed place.index d).rule seconds place.midnight) t
place_value packed place t0 t seconds d over is h before =
    let span = place_span packed place t0 d is in
    value_after packed over place.index t seconds place.midnight d is.whole span.inside (omega (arith, span.begun, h)) (omega (arith, span.end, before))

-- a list that says what a first rule and then the second function do, from what it was before `from` to `t`
abbrev pub Reaches : List Run → (ℕ → ℕ) → ℕ → ℕ → List Run → List Run → ℕ → Type 0
Reaches second first from until old new t = (f : ℕ → ℕ) → IsSaid f old from
    → ((s : ℕ) → from ≤ s → s < until → f s ≡ arrival_value second (first s)) → IsSaid f new t

-- a further run after a drive of so many seconds
pub shift_pushed : (second old xs new : List Run) (place : Reached) (seconds from at t until t0 : ℕ) (run read : Run) → IsDayList second → IsReached second place t0
    → t0 ≤ at + seconds → at + seconds < place.end → from ≤ at → at < until → t ≡ at
    → read ≡ get_or second place.index read → run.from ≡ at → run.rule ≡ after_shift read.rule seconds place.midnight → new ≡ xs ++ run ∷ []
    → Reaches second (arrives (Shift seconds)) from until old xs t
    → Reaches second (arrives (Shift seconds)) from until old new (min (place.end - seconds) until)
shift_pushed second old xs new place seconds from at t until t0 run read over is begun before order inside is_at same is_from is_rule is_new reached f said means =
    let rule : run.rule ≡ after_shift (get_or second place.index read).rule seconds place.midnight = subst (λ (r : Run). run.rule ≡ after_shift r.rule seconds place.midnight) same is_rule in
    let before_at : IsSaid f xs at = subst (λ (n : ℕ). IsSaid f xs n) is_at (reached f said means) in
    let longer : IsSaid f (xs ++ run ∷ []) (min (place.end - seconds) until) =
    tiled_push (λ (run : Run). run.from) (Says f) xs at (min (place.end - seconds) until) run before_at is_from (omega (arith, before, inside))
    (λ s late early.
    let value = place_value second place t0 s seconds read over is (omega (arith, begun, late)) (omega (arith, early)) in
    ap (λ (r : RunRule). arrives r s) rule ∙ sym value ∙ sym (means s (omega (arith, order, late)) (omega (arith, early)))) in
    subst (λ (ys : List Run). IsSaid f ys (min (place.end - seconds) until)) (sym is_new) longer

arrival_packed : (r : RunRule) (arrival midnight s : ℕ) → arrives (after_arrival r arrival midnight) s ≡ arrives (after_shift r 0 midnight) arrival
arrival_packed (Shift d) arrival midnight s = omega arith
arrival_packed (Fixed c) arrival midnight s = omega arith

-- a further run after an arrival at one second
pub fixed_pushed : (second old new : List Run) (rule : RunRule) (place : Reached) (arrival from until : ℕ) (run read : Run) → IsDayList second → IsReached second place arrival
    → arrival < place.end → from < until → is_fixed rule ≡ true → arrival ≡ arrives rule from
    → read ≡ get_or second place.index read → run.from ≡ from → run.rule ≡ after_arrival read.rule arrival place.midnight → new ≡ old ++ run ∷ []
    → Continues second (arrives rule) from until old new
fixed_pushed second old new (Shift d) place arrival from until run read over is before order fixed arrives_at same is_from is_rule is_new f said means = absurd (cc fixed)
fixed_pushed second old new (Fixed c) place arrival from until run read over is before order fixed arrives_at same is_from is_rule is_new f said means =
    let rule : run.rule ≡ after_arrival (get_or second place.index read).rule arrival place.midnight = subst (λ (r : Run). run.rule ≡ after_arrival r.rule arrival place.midnight) same is_rule in
    let longer : IsSaid f (old ++ run ∷ []) until =
    tiled_push (λ (run : Run). run.from) (Says f) old from until run said is_from order
    (λ s late early.
    let same : arrival + 0 ≡ arrival = omega arith in
    let value = place_value second place arrival arrival 0 read over is (omega arith) (omega (arith, before)) in
    let here = subst (λ (n : ℕ). arrival_value second n ≡ arrives (after_shift (get_or second place.index read).rule 0 place.midnight) arrival) same value in
    ap (λ (r : RunRule). arrives r s) rule ∙ arrival_packed (get_or second place.index read).rule arrival place.midnight s ∙ sym here
    ∙ ap (arrival_value second) arrives_at ∙ sym (means s late early)) in
    subst (λ (ys : List Run). IsSaid f ys until) (sym is_new) longer

pub shift_rule : (rule : RunRule) → is_fixed rule ≡ false → rule ≡ Shift (rule_number rule)
shift_rule (Shift d) e = refl
shift_rule (Fixed c) e = absurd (cc e)

-- what a run reads is in its limit
pub read_limit : (packed : List Run) (i : ℕ) (read : Run) → All (λ (run : Run). rule_number run.rule ≤ MAX_NUMBER) packed → i < length packed
    → read ≡ get_or packed i read → rule_number read.rule ≤ MAX_NUMBER
read_limit packed i read limits inside same = subst (λ (run : Run). rule_number run.rule ≤ MAX_NUMBER) (sym same) (limits i read inside)

-- at the end of the day the list is closed by an item that is never in force
pub tiled_closed : {A : Type 0} (from : A → ℕ) (says : A → ℕ → Type 0) (xs : List A) (x : A) → IsTiled from says xs day → from x ≡ day
    → IsTiled from (λ y s. s < day → says y s) (xs ++ x ∷ []) (day + 1)
tiled_closed {A} from says xs x tiled is =
    let weak : IsTiled from (λ y s. s < day → says y s) xs day = record {
      starts = tiled.starts;
      empty = tiled.empty;
      rises = tiled.rises;
      below = tiled.below;
      holds = λ s h. let (y, last, said) = tiled.holds s h in (y, last, λ lt. said);
    } in
    tiled_push from (λ y s. s < day → says y s) xs day (day + 1) x weak is (omega arith) (λ s late early lt. absurd (omega (arith, late, lt)))

pub last_pushed : {A : Type 0} (xs : List A) (x : A) → slice_get (xs ++ x ∷ []) (length (xs ++ x ∷ []) - 1) ≡ Some x
last_pushed [] x = refl
last_pushed (y ∷ ys) x =
    let size : length (ys ++ x ∷ []) ≡ length ys + 1 = length_push ys x in
    let place : length ((y ∷ ys) ++ x ∷ []) - 1 ≡ suc (length (ys ++ x ∷ []) - 1) = omega (arith, size) in
    subst (λ (i : ℕ). slice_get ((y ∷ ys) ++ x ∷ []) i ≡ Some x) (sym place) (last_pushed ys x)

-- runs that say a function over the day, with their end
pub closed : (f : ℕ → ℕ) (xs : List Run) → IsSaid f xs day → IsDayList (xs ++ end_run ∷ []) × ((t : ℕ) → t < day → arrival_value (xs ++ end_run ∷ []) t ≡ f t)
closed f xs said =
    let tiled = tiled_closed (λ (run : Run). run.from) (Says f) xs end_run said refl in (
      record {
        starts = tiled.starts (omega arith);
        rises = tiled.rises;
        ends = ap (option_map (λ (run : Run). run.from)) (last_pushed xs end_run);
      },
      λ t h.
          let (run, last, says) = tiled.holds t (omega (arith, h)) in
          let of_run : run_value (run_at (xs ++ end_run ∷ []) t) 0 t ≡ rule_value run.rule 0 t = rw last refl in
          value_in_day (xs ++ end_run ∷ []) t h ∙ of_run ∙ arrives-value run.rule t ∙ says h,
    )
