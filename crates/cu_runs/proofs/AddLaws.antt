-- A merger before and after a candidate is added.
use Rattle.std.proofs.Common.{◌≡◌, ◌≤◌, ◌<◌, ◌+◌, ◌-◌, ◌++◌, ◌∙◌, ℕ, zero, suc, List, [], ◌∷◌, Some, refl, sym, ap, subst, arith, inl, inr, length, get_or, min, take}
use Rattle.std.specs.Prelude.{slice_get, slice_set}
use Rattle.std.specs.Option.{option_map}
use Rattle.std.specs.Global.{Vec}
use Rattle.std.specs.List.{zip}
use Rattle.std.proofs.lemmas.Bool.{cases_lt}
use Rattle.std.proofs.lemmas.List.{length_push}
use Rattle.std.proofs.lemmas.Slice.Zip.{get_or-zip}
use Rattle.cu_model.specs.Begun.{Rises}
use Rattle.cu_model.specs.Days.{day}
use Rattle.cu_model.proofs.Begun.{le_test, gt_test}
use Rattle.cu_model.proofs.DayLaws.{order_always, next_day}
use Rattle.cu_arrival.specs.declared.runs.Run.{Run}
use Rattle.cu_arrival.specs.declared.runs.RunRule.{RunRule}
use Rattle.cu_arrival.specs.declared.runs.RunRule.TheVariants.{Fixed}
use Rattle.cu_arrival.specs.Runs.{arrival_value, arrives}
use Rattle.cu_model.proofs.Tiling.{IsTiled}
use Rattle.cu_runs.specs.declared.merging.Least.{Least}
use Rattle.cu_runs.specs.declared.merging.Next.{Next}
use Rattle.cu_runs.specs.PackedRuns.{IsDayList, IsPackedFunction, composed, end_run}
use Rattle.cu_runs.specs.Least.{Held, held_from, held_at, least_arrival, least_way, tie_with, way_with, KeepsDayOrder}
use Rattle.cu_runs.specs.declared.merging.TheConstants.{MOST, NOBODY}
use Rattle.cu_runs.specs.Steps.Merging.{least_held, next_held, IsHeld, IsNext, IsMerging, IsMerged, SaysMerged}
use Rattle.cu_runs.proofs.DayLists.{two_packed, repeats, item_from}
use Rattle.cu_runs.proofs.LinkLaws.{tiled_closed, last_pushed}
use Rattle.cu_runs.proofs.MergeLaws.{zip_push, length_zip, not_below}

-- the runs of pairs begin when the pairs do
unzip_rises : (xs : List Run) (ys : List ℕ) → length ys ≡ length xs → Rises held_from (zip xs ys) → Rises (λ (run : Run). run.from) xs
unzip_rises xs ys e rises k d h =
    let pair : Held = (d, 0) in
    let size = length_zip xs ys e in
    let left = ap held_from (get_or-zip xs ys k pair (omega (arith, h)) (omega (arith, h, e))) in
    let right = ap held_from (get_or-zip xs ys (k + 1) pair (omega (arith, h)) (omega (arith, h, e))) in
    let order = rises k pair (omega (arith, size, h)) in
    omega (arith, left, right, order)

unzip_starts : (xs : List Run) (ys : List ℕ) → option_map held_from (slice_get (zip xs ys) 0) ≡ Some 0 → option_map (λ (run : Run). run.from) (slice_get xs 0) ≡ Some 0
unzip_starts [] ys e = absurd (cc e)
unzip_starts (x ∷ xs) [] e = absurd (cc e)
unzip_starts (x ∷ xs) (y ∷ ys) e = e

-- at the end of the day both lists are ended
pub finished : (l : Least) (arrival : ℕ → ℕ) (way : ℕ) (n : Next) (packed : List Run) (ways : List ℕ) (end : Run) (last : ℕ) → length n.ways.items ≡ length n.packed.items
    → n.done ≡ day → IsMerging l arrival way n day → end ≡ end_run → packed ≡ n.packed.items ++ end ∷ [] → ways ≡ n.ways.items ++ last ∷ [] → IsMerged l arrival way packed ways
finished l arrival way n packed ways end last even done merging is_end is_packed is_ways =
    let says = SaysMerged l arrival way in
    let tiled : IsTiled held_from says (next_held n) day = subst (λ (t : ℕ). IsTiled held_from says (next_held n) t) done merging.merged in
    let from : end.from ≡ day = ap (λ (r : Run). r.from) is_end in
    let closed = tiled_closed held_from says (next_held n) (end, last) tiled from in
    let same : next_held n ++ (end, last) ∷ [] ≡ zip packed ways = sym (rw (is_packed, is_ways) (zip_push n.packed.items n.ways.items end last even)) in
    let all = subst (λ (hs : List Held). IsTiled held_from (λ (h : Held) (s : ℕ). s < day → says h s) hs (day + 1)) same closed in
    let size : length ways ≡ length packed = rw (is_packed, is_ways) (omega (arith, even, length_push n.packed.items end, length_push n.ways.items last)) in
    record {
      over_day = record {
        starts = unzip_starts packed ways (all.starts (omega arith));
        rises = unzip_rises packed ways size all.rises;
        ends = rw is_packed (ap (option_map (λ (run : Run). run.from)) (last_pushed n.packed.items end) ∙ ap Some from);
      };
      even = size;
      says = λ t h. let (held, here, said) = all.holds t (omega (arith, h)) in (held, here, said h);
    }

-- what a merged list says
pub merged_arrival : (l m : Least) (arrival : ℕ → ℕ) (way : ℕ) → IsMerged l arrival way m.packed.items m.ways.items → (t : ℕ) → t < day
    → (least_arrival (least_held m) t ≡ min (least_arrival (least_held l) t) (arrival t)) × (least_way (least_held m) t ≡ way_with (least_held l) (arrival t) way t)
merged_arrival l m arrival way merged t h =
    let (held, here, said) = merged.says t h in
    let value : least_arrival (least_held m) t ≡ arrives held.0.rule t = rw here refl in
    let chosen : least_way (least_held m) t ≡ held.1 = rw here refl in
    (value ∙ said.0, chosen ∙ said.1)

-- where nothing was put the candidate wins nowhere
pub nothing_put : (l : Least) (arrival : ℕ → ℕ) (way : ℕ) (n : Next) → n.packed.items ≡ [] → IsMerging l arrival way n day → (t : ℕ) → t < day
    → (least_arrival (least_held l) t ≡ min (least_arrival (least_held l) t) (arrival t)) × (least_way (least_held l) t ≡ way_with (least_held l) (arrival t) way t)
nothing_put l arrival way n none merging t h =
    let empty : next_held n ≡ [] = rw none refl in
    let tiled : IsTiled held_from (SaysMerged l arrival way) [] n.done = subst (λ (hs : List Held). IsTiled held_from (SaysMerged l arrival way) hs n.done) empty merging.merged in
    let start : n.done ≡ 0 = elim (cases_lt 0 n.done) [
      | inl lt ↦ let e = tiled.starts lt in absurd (cc e)
      | inr ge ↦ omega (arith, ge)
    ] in
    let later = merging.held t (omega (arith, start)) h in
    let test = not_below (arrival t) (least_arrival (least_held l) t + tie_with (least_held l) way t) later in
    (omega (arith, later), sym (rw test refl))

-- the composition of two functions keeps order
pub composed_order : (first second : List Run) → IsPackedFunction first → IsPackedFunction second → KeepsDayOrder (composed first second)
composed_order first second f g =
    let rises = order_always (arrival_value second) (repeats second g.over_day) g.fifo in
    record {
      in_day = λ s h. rises (arrival_value first s) (arrival_value first (s + 1)) (f.fifo s (omega (arith, h)));
      midnight =
          let step : arrival_value first 86399 ≤ arrival_value first (86399 + 1) = f.fifo 86399 (omega arith) in
          let over : arrival_value first (day + 0) ≡ day + arrival_value first 0 = next_day (arrival_value first) (repeats first f.over_day) 0 in
          let more = rises (arrival_value first 86399) (arrival_value first (day + 0)) step in
          let next : arrival_value second (arrival_value first (day + 0)) ≡ day + composed first second 0 =
          ap (arrival_value second) over ∙ next_day (arrival_value second) (repeats second g.over_day) (arrival_value first 0) in
          omega (arith, more, next);
    }

-- and so does the lesser of two that do
pub lesser_order : (old new c : ℕ → ℕ) → KeepsDayOrder old → KeepsDayOrder c → ((t : ℕ) → t < day → new t ≡ min (old t) (c t)) → KeepsDayOrder new
lesser_order old new c is_old is_c value = record {
  in_day = λ s h.
      let here = value s (omega (arith, h)) in
      let next = value (s + 1) h in
      let a = is_old.in_day s h in
      let b = is_c.in_day s h in
      omega (arith, here, next, a, b);
  midnight =
      let here = value (day - 1) (omega arith) in
      let next = value 0 (omega arith) in
      let a = is_old.midnight in
      let b = is_c.midnight in
      omega (arith, here, next, a, b);
}

-- what a merger began with and a candidate's arrivals under other names
pub told : (hs now : List Held) (x a b t : ℕ) → now ≡ hs → a ≡ b → x ≡ min (least_arrival hs t) a → x ≡ min (least_arrival now t) b
told hs now x a b t same equal is =
    subst (λ (gs : List Held). x ≡ min (least_arrival gs t) b) (sym same) (subst (λ (n : ℕ). x ≡ min (least_arrival hs t) n) equal is)

pub told_way : (hs now : List Held) (x a b way t : ℕ) → now ≡ hs → a ≡ b → x ≡ way_with hs a way t → x ≡ way_with now b way t
told_way hs now x a b way t same equal is =
    subst (λ (gs : List Held). x ≡ way_with gs b way t) (sym same) (subst (λ (n : ℕ). x ≡ way_with hs n way t) equal is)

-- a list begun anew stands at the first run
pub restarted : (l : Least) (n : Next) → IsHeld l → length n.ways.items ≡ length n.packed.items → n.index ≡ 0 → n.done ≡ 0 → IsNext l n
restarted l n is even index done =
    let (run, there, from) = item_from (λ (r : Run). r.from) l.packed.items 0 0 is.over_day.starts in
    let two = two_packed l.packed.items is.over_day in
    record {
      even = even;
      begun = (run, subst (λ (i : ℕ). slice_get l.packed.items i ≡ Some run) (sym index) there, omega (arith, from, done));
      following = omega (arith, two, index);
      in_day = omega (arith, done);
    }

-- the lists that have been swapped in are the finished ones
pub merged_lists : (l : Least) (arrival : ℕ → ℕ) (way : ℕ) (n : Next) (packed : Vec Run) (ways : Vec ℕ) → packed ≡ n.packed → ways ≡ n.ways
    → IsMerged l arrival way n.packed.items n.ways.items → IsMerged l arrival way packed.items ways.items
merged_lists l arrival way n packed ways same_packed same_ways merged = rw (same_packed, same_ways) merged

-- a merger stays one
pub still_held : (l m : Least) (arrival : ℕ → ℕ) (way : ℕ) → IsMerged l arrival way m.packed.items m.ways.items → IsHeld m
still_held l m arrival way merged = record { over_day = merged.over_day; even = merged.even }

-- the run that says that there is no candidate
abbrev pub no_run : Run
no_run = record { from = 0; rule = Fixed MOST }

none_rises : (k : ℕ) (d : Run) → k + 1 < 2 → (get_or (no_run ∷ end_run ∷ []) k d).from < (get_or (no_run ∷ end_run ∷ []) (k + 1) d).from
none_rises zero d h = omega arith
none_rises (suc k) d h = absurd (omega (arith, h))

none_held : (last t : ℕ) → t < day → held_at (zip (no_run ∷ end_run ∷ []) (NOBODY ∷ last ∷ [])) t ≡ Some (no_run, NOBODY)
none_held last t h =
    let low = le_test 0 t (omega arith) in
    let high = gt_test day t h in
    rw (low, high) refl

-- a merger with no candidate
pub cleared : (l : Least) (last : ℕ) → l.packed.items ≡ no_run ∷ end_run ∷ [] → l.ways.items ≡ NOBODY ∷ last ∷ []
    → IsHeld l × ((t : ℕ) → t < day → (least_arrival (least_held l) t ≡ MOST) × (least_way (least_held l) t ≡ NOBODY))
cleared l last packed ways =
    let over_day : IsDayList (no_run ∷ end_run ∷ []) = record { starts = refl; rises = none_rises; ends = refl } in
    let held : IsHeld l = record { over_day = subst IsDayList (sym packed) over_day; even = rw (packed, ways) refl } in
    let same : least_held l ≡ zip (no_run ∷ end_run ∷ []) (NOBODY ∷ last ∷ []) = rw (packed, ways) refl in
    let said : (t : ℕ) → t < day → (least_arrival (least_held l) t ≡ MOST) × (least_way (least_held l) t ≡ NOBODY) =
    λ t h. let here : held_at (least_held l) t ≡ Some (no_run, NOBODY) = ap (λ (hs : List Held). held_at hs t) same ∙ none_held last t h in (rw here refl, rw here refl) in
    (held, said)

-- the two items of a list that is cut and written over
pub two_set : {A : Type 0} (xs : List A) (a b : A) → 1 < length xs → slice_set (slice_set (take 2 xs) 0 a) 1 b ≡ a ∷ b ∷ []
two_set [] a b h = absurd (omega (arith, h))
two_set (x ∷ []) a b h = absurd (omega (arith, h))
two_set (x ∷ (y ∷ ys)) a b h = refl

pub run_is : (run : Run) (from : ℕ) (rule : RunRule) → run.from ≡ from → run.rule ≡ rule → run ≡ record { from = from; rule = rule }
run_is run from rule is_from is_rule =
    subst (λ (f : ℕ). run ≡ record { from = f; rule = rule }) is_from (subst (λ (r : RunRule). run ≡ record { from = run.from; rule = r }) is_rule refl)

-- a merger that is cut to one run, and the run's end
pub cut : (l m : Least) (packed : List Run) (ways : List ℕ) (start end : Run) → IsHeld l → packed ≡ take 2 l.packed.items → ways ≡ take 2 l.ways.items
    → start.from ≡ 0 → start.rule ≡ Fixed MOST → end ≡ end_run
    → m.packed.items ≡ slice_set (slice_set packed 0 start) 1 end → m.ways.items ≡ slice_set (slice_set ways 0 NOBODY) 1 NOBODY
    → IsHeld m × ((t : ℕ) → t < day → (least_arrival (least_held m) t ≡ MOST) × (least_way (least_held m) t ≡ NOBODY))
cut l m packed ways start end is cut_packed cut_ways starts rule is_end is_packed is_ways =
    let two = two_packed l.packed.items is.over_day in
    let first = run_is start 0 (Fixed MOST) starts rule in
    let some : 1 < length l.ways.items = omega (arith, two, is.even) in
    let both : m.packed.items ≡ start ∷ end ∷ [] = is_packed ∙ ap (λ (xs : List Run). slice_set (slice_set xs 0 start) 1 end) cut_packed ∙ two_set l.packed.items start end two in
    let same_packed : m.packed.items ≡ no_run ∷ end_run ∷ [] = both ∙ ap (λ (r : Run). r ∷ end ∷ []) first ∙ ap (λ (r : Run). no_run ∷ r ∷ []) is_end in
    let same_ways : m.ways.items ≡ NOBODY ∷ NOBODY ∷ [] = is_ways ∙ ap (λ (xs : List ℕ). slice_set (slice_set xs 0 NOBODY) 1 NOBODY) cut_ways ∙ two_set l.ways.items NOBODY NOBODY some in
    cleared m NOBODY same_packed same_ways
