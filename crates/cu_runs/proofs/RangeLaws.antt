-- Composing two functions from one second of the day until another.
use Rattle.std.proofs.Common.{◌≡◌, ◌≤◌, ◌<◌, ◌+◌, ◌-◌, ◌++◌, ◌∙◌, ℕ, List, [], ◌∷◌, Some, refl, sym, ap, subst, arith, length, get_or, ltb, min, true, false}
use Rattle.std.specs.Prelude.{slice_get, nat_lt, if◌then◌else◌}
use Rattle.std.specs.Option.{option_map}
use Rattle.std.proofs.lemmas.Bool.Decides.{nat_tests}
use Rattle.std.proofs.lemmas.Option.{slice_get_within, slice_get-get_or}
use Rattle.cu_model.specs.Days.{day}
use Rattle.cu_model.proofs.Tiling.{IsTiled, tiled_keep, tiled_none}
use Rattle.cu_arrival.specs.declared.runs.Run.{Run}
use Rattle.cu_arrival.specs.Runs.{run_at, run_value, rule_value, arrival_value, arrives}
use Rattle.cu_arrival.proofs.RunLaws.{value_in_day}
use Rattle.cu_arrival.proofs.Built.{arrives-value}
use Rattle.cu_runs.specs.declared.linking.Reached.{Reached}
use Rattle.cu_runs.specs.PackedRuns.{IsDayList, IsPackedFunction, composed, end_run}
use Rattle.cu_runs.specs.Steps.Linking.{Begins, Continues, IsReached, IsSaid, Says}
use Rattle.cu_runs.specs.Steps.Bounded.{IsAt}
use Rattle.cu_runs.proofs.DayLists.{item_from}
use Rattle.cu_runs.proofs.MergeLaws.{read_there}
use Rattle.cu_runs.proofs.CompareLaws.{at_next, at_stepped, at_value}
use Rattle.cu_runs.proofs.LinkLaws.{last_pushed, place_later, tiled_closed}

-- the composition from a second on, where before it nobody is on the way
abbrev pub composed_from : ℕ → List Run → List Run → ℕ → ℕ
composed_from from first second s = if nat_lt s from then s else composed first second s

pub composed_early : (from : ℕ) (first second : List Run) (s : ℕ) → s < from → composed_from from first second s ≡ s
composed_early from first second s h = let test : ltb s from ≡ true = grind (arith, nat_tests) in rw test refl

pub composed_late : (from : ℕ) (first second : List Run) (s : ℕ) → from ≤ s → composed_from from first second s ≡ composed first second s
composed_late from first second s h = let test : ltb s from ≡ false = grind (arith, nat_tests) in rw test refl

-- an empty list begins at second 0
pub begins_none : (from : ℕ) (runs : List Run) → from ≡ 0 → runs ≡ [] → Begins from runs
begins_none from runs start none f early =
    let empty = tiled_none (λ (run : Run). run.from) (Says f) in
    subst (λ (xs : List Run). IsSaid f xs from) (sym none) (subst (λ (t : ℕ). IsSaid f [] t) (sym start) empty)

-- runs that say a function until a second, with their end
closed_until : (f : ℕ → ℕ) (xs : List Run) (until : ℕ) → 0 < until → until ≤ day → IsSaid f xs until
    → IsDayList (xs ++ end_run ∷ []) × ((t : ℕ) → t < until → arrival_value (xs ++ end_run ∷ []) t ≡ f t)
closed_until f xs until some in_day said =
    let says : Run → ℕ → Type 0 = λ run s. s < until → Says f run s in
    let weak : IsTiled (λ (run : Run). run.from) says xs until = record {
      starts = said.starts;
      empty = said.empty;
      rises = said.rises;
      below = said.below;
      holds = λ s h. let (run, last, value) = said.holds s h in (run, last, λ lt. value);
    } in
    let (head, there, begins) = item_from (λ (run : Run). run.from) xs 0 0 (said.starts some) in
    let inside = slice_get_within xs 0 head there in
    let last = slice_get-get_or xs (length xs - 1) head (omega (arith, inside)) in
    let long = tiled_keep (λ (run : Run). run.from) says xs until day (get_or xs (length xs - 1) head) weak last in_day (λ s late early lt. absurd (omega (arith, late, lt))) in
    let tiled = tiled_closed (λ (run : Run). run.from) says xs end_run long refl in (
      record {
        starts = tiled.starts (omega arith);
        rises = tiled.rises;
        ends = ap (option_map (λ (run : Run). run.from)) (last_pushed xs end_run);
      },
      λ t h.
          let in_time : t < day = omega (arith, h, in_day) in
          let (run, last, value) = tiled.holds t (omega (arith, in_time)) in
          let of_run : run_value (run_at (xs ++ end_run ∷ []) t) 0 t ≡ rule_value run.rule 0 t = rw last refl in
          value_in_day (xs ++ end_run ∷ []) t in_time ∙ of_run ∙ arrives-value run.rule t ∙ value in_time h,
    )

-- what the composition has come to at a second
pub record IsLinking (first second linked : List Run) (reached : Reached) (from until index at : ℕ) : Type 0 where
  pub order : (from ≤ at) × (at ≤ until)
  pub run : at < until → IsAt first index at
  pub place : IsReached second reached (arrival_value first at)
  pub said : IsSaid (composed_from from first second) linked at

-- what it says of that second
pub at_read : (packed : List Run) (i t : ℕ) (read : Run) → IsDayList packed → IsAt packed i t → t < day → read ≡ get_or packed i read → arrival_value packed t ≡ arrives read.rule t
at_read packed i t read is at before is_read =
    let (next, after, later, until, inside) = at_next packed is i t at before in
    at_value packed is i t next.from t read next at (read_there packed i read (omega (arith, inside)) is_read) after (omega arith) (omega arith) later

module _ (first second : List Run) (f : IsPackedFunction first) (from until : ℕ) (some : from < until) (in_day : until ≤ day) where
  pub linking_none : (linked : List Run) (place : Reached) (index : ℕ) (read : Run) → Begins from linked → IsAt first index from → read ≡ get_or first index read
      → IsReached second place (arrives read.rule from) → IsLinking first second linked place from until index from
  linking_none linked place index read begins at is_read is_place =
      let value = at_read first index from read f.over_day at (omega (arith, some, in_day)) is_read in
      record {
        order = (omega arith, omega (arith, some));
        run = λ more. at;
        place = subst (λ (t : ℕ). IsReached second place t) (sym value) is_place;
        said = begins (composed_from from first second) (λ s h. composed_early from first second s h);
      }

  module _ (linked : List Run) (place : Reached) (index at : ℕ) (is : IsLinking first second linked place from until index at) where
    -- a further run follows
    pub linking_next : at < until → index + 1 < length first
    linking_next before =
        let (next, after, later, last, inside) = at_next first f.over_day index at (is.run before) (omega (arith, before, in_day)) in
        inside

    module _ (before : at < until) (run next : Run) (end : ℕ) (is_run : run ≡ get_or first index run) (is_next : next ≡ get_or first (index + 1) next) (is_end : end ≡ min next.from until) where
      next_there : slice_get first (index + 1) ≡ Some next
      next_there = read_there first (index + 1) next (linking_next before) is_next

      pub linking_order : (at < end) × (end ≤ until)
      linking_order =
          let later = (is.run before).lasts next next_there in
          (omega (arith, later, before, is_end), omega (arith, is_end))

      pub linking_value : (s : ℕ) → at ≤ s → s < end → arrival_value first s ≡ arrives run.rule s
      linking_value s late early =
          let inside = linking_next before in
          at_value first f.over_day index at end s run next (is.run before) (read_there first index run (omega (arith, inside)) is_run) next_there (omega (arith, is_end)) late early

      pub linking_place : IsReached second place (arrives run.rule at)
      linking_place =
          let order = linking_order in
          let value = linking_value at (omega arith) order.0 in
          subst (λ (t : ℕ). IsReached second place t) value is.place

      pub linking_more : (new : List Run) (last : Reached) → IsReached second last (arrives run.rule (end - 1)) → Continues second (arrives run.rule) at end linked new
          → IsLinking first second new last from until (index + 1) end
      linking_more new last arrived continued =
          let order = linking_order in
          let from_first = is.order.0 in
          let value = linking_value (end - 1) (omega (arith, order.0)) (omega (arith, order.0)) in
          let rise = f.fifo (end - 1) (omega (arith, order.0, order.1, in_day)) in
          let is_end_again : end - 1 + 1 ≡ end = omega (arith, order.0) in
          let never_falls = subst (λ (s : ℕ). arrival_value first (end - 1) ≤ arrival_value first s) is_end_again rise in
          record {
            order = (omega (arith, order.0, from_first), order.1);
            run = λ more.
                let here : next.from ≡ end = omega (arith, is_end, more) in
                at_stepped first f.over_day index at end (index + 1) next (is.run before) next_there (omega (arith, order.0)) (omega (arith, here))
                (omega (arith, order.1, in_day)) (λ e. refl) (λ ne. absurd (ne here));
            place = place_later second last (arrives run.rule (end - 1)) (arrival_value first end) arrived (omega (arith, value, never_falls));
            said = continued (composed_from from first second) is.said
                (λ s late early. composed_late from first second s (omega (arith, late, from_first)) ∙ ap (arrival_value second) (linking_value s late early));
          }

    -- the last run lasts until the end of the day
    pub linking_closed : (new : List Run) (end : Run) → until ≤ at → end ≡ end_run → new ≡ linked ++ end ∷ []
        → IsDayList new × ((t : ℕ) → from ≤ t → t < until → arrival_value new t ≡ composed first second t)
    linking_closed new end late is_end is_new =
        let reached : at ≡ until = omega (arith, late, is.order.1) in
        let said : IsSaid (composed_from from first second) linked until = subst (λ (t : ℕ). IsSaid (composed_from from first second) linked t) reached is.said in
        let same : new ≡ linked ++ end_run ∷ [] = is_new ∙ ap (λ (x : Run). linked ++ x ∷ []) is_end in
        let done = closed_until (composed_from from first second) linked until (omega (arith, some)) in_day said in
        subst (λ (xs : List Run). IsDayList xs × ((t : ℕ) → from ≤ t → t < until → arrival_value xs t ≡ composed first second t)) (sym same)
        (done.0, λ t late early. done.1 t early ∙ composed_late from first second t late)
