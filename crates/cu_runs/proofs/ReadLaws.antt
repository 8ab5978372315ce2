-- What is read of a merger: its least arrivals as a function, and the numbers of its candidates.
use Rattle.std.proofs.Common.{◌≡◌, ◌≤◌, ◌<◌, ◌+◌, ◌-◌, ◌*◌, ◌++◌, ◌∙◌, ℕ, List, [], ◌∷◌, Option, Some, None, refl, sym, ap, subst, arith, inl, inr, length, get_or}
use Rattle.std.specs.Prelude.{slice_get, nat_le, if◌then◌else◌, All}
use Rattle.std.specs.Option.{option_map}
use Rattle.std.specs.List.{zip}
use Rattle.std.proofs.lemmas.Bool.{cases_lt}
use Rattle.std.proofs.lemmas.List.{length_push, get_or_append_left}
use Rattle.std.proofs.lemmas.Option.{get_or_from_slice_get, slice_get-get_or}
use Rattle.cu_model.specs.Days.{day, KeepsOrder}
use Rattle.cu_model.proofs.Begun.{starts_begun}
use Rattle.cu_arrival.specs.declared.runs.Run.{Run}
use Rattle.cu_arrival.specs.declared.runs.RunRule.{RunRule}
use Rattle.cu_arrival.specs.declared.runs.RunRule.TheVariants.{Shift, Fixed}
use Rattle.cu_arrival.specs.Runs.{run_at, run_value, rule_number, arrival_value, arrives}
use Rattle.cu_model.specs.Growing.{IsPushed}
use Rattle.cu_arrival.proofs.RunLaws.{value_in_day}
use Rattle.cu_model.proofs.Growing.{IsGrown, grown_none, grown_push}
use Rattle.cu_arrival.proofs.Built.{arrives-value}
use Rattle.cu_arrival.proofs.Mapped.{if_map, later_map}
use Rattle.cu_runs.specs.declared.merging.Least.{Least}
use Rattle.cu_runs.specs.declared.merging.WayRun.{WayRun}
use Rattle.cu_runs.specs.PackedRuns.{IsDayList, IsPackedFunction, IsCompactDay, end_run}
use Rattle.cu_runs.specs.declared.packed_runs.TheConstants.{MAX_NUMBER}
use Rattle.cu_runs.specs.Least.{Held, held_at, least_arrival, least_way, arrival_of, KeepsDayOrder, IsWayRuns}
use Rattle.cu_runs.specs.Steps.Merging.{least_held, IsHeld}
use Rattle.cu_runs.proofs.DayLists.{repeats, two_packed, from_in_day, next_from, value_in_force}
use Rattle.cu_runs.proofs.LinkLaws.{get_or-same, closed, last_pushed}
use Rattle.cu_runs.proofs.MergeLaws.{old_at, read_there}
use Rattle.cu_runs.proofs.TravelLaws.{begin_of, begin_start, begin_end, begin_next, begin_read, begin_value}

abbrev pub SaysRule : (ℕ → ℕ) → RunRule → ℕ → Type 0
SaysRule f rule s = arrives rule s ≡ f s

abbrev pub SaysWay : List Held → ℕ → ℕ → Type 0
SaysWay held way s = way ≡ least_way held s

-- the pairs in force are those of the runs in force
pub zip_begun : (xs : List Run) (ys : List ℕ) (s : ℕ) → length ys ≡ length xs → option_map (λ (h : Held). h.0) (held_at (zip xs ys) s) ≡ run_at xs s
zip_begun [] ys s e = refl
zip_begun (x ∷ xs) [] s e = absurd (omega (arith, e))
zip_begun (x ∷ xs) (y ∷ ys) s e =
    let rest = zip_begun xs ys s (omega (arith, e)) in
    let head = sym (if_map (λ (h : Held). h.0) (nat_le x.from s) (x, y)) in
    sym (later_map (λ (h : Held). h.0) (if nat_le x.from s then Some (x, y) else None) (held_at (zip xs ys) s)) ∙ (rw (rest, head) refl)

said_by : (o : Option Held) (runs : Option Run) (t : ℕ) (run : Run) → option_map (λ (h : Held). h.0) o ≡ runs → runs ≡ Some run → arrival_of o t ≡ run_value runs 0 t
said_by None runs t run e f = absurd (cc (e, f))
said_by (Some h) runs t run e f = rw (← e) (sym (arrives-value h.0.rule t))

-- the least arrivals are the value of the runs
pub least_value : (l : Least) → IsHeld l → (t : ℕ) → t < day → arrival_value l.packed.items t ≡ least_arrival (least_held l) t
least_value l is t h =
    let packed = l.packed.items in
    let (run, there) = starts_begun (λ (r : Run). r.from) packed t is.over_day.starts in
    value_in_day packed t h ∙ sym (said_by (held_at (least_held l) t) (run_at packed t) t run (zip_begun packed l.ways.items t is.even) there)

-- a function that keeps order over the day keeps it at all seconds
pub day_order : (packed : List Run) → IsDayList packed → KeepsDayOrder (arrival_value packed) → KeepsOrder (arrival_value packed)
day_order packed is order s h = elim (cases_lt (s + 1) day) [
  | inl inside ↦ order.in_day s inside
  | inr last ↦
      let here : day - 1 ≡ s = omega (arith, h, last) in
      let next : 1 * day + 0 ≡ s + 1 = omega (arith, here) in
      let over = subst (λ (t : ℕ). arrival_value packed t ≡ 1 * day + arrival_value packed 0) next (repeats packed is 1 0 (omega arith)) in
      let before = subst (λ (t : ℕ). arrival_value packed t ≤ day + arrival_value packed 0) here order.midnight in
      omega (arith, over, before)
]

pub order_same : (f g : ℕ → ℕ) → ((t : ℕ) → t < day → f t ≡ g t) → KeepsDayOrder g → KeepsDayOrder f
order_same f g same is = record {
  in_day = λ s h. let a = same s (omega (arith, h)) in let b = same (s + 1) h in let o = is.in_day s h in omega (arith, a, b, o);
  midnight = let a = same (day - 1) (omega arith) in let b = same 0 (omega arith) in let o = is.midnight in omega (arith, a, b, o);
}

rule_below : (r : RunRule) (t : ℕ) → rule_number r ≤ arrives r t
rule_below (Shift d) t = omega arith
rule_below (Fixed c) t = omega arith

-- where the value is within a limit, each run's number is
pub numbers_within : (packed : List Run) (limit : ℕ) → IsDayList packed → slice_get packed (length packed - 1) ≡ Some end_run → ((t : ℕ) → t < day → arrival_value packed t ≤ limit)
    → All (λ (run : Run). rule_number run.rule ≤ limit) packed
numbers_within packed limit is end within k d h = elim (cases_lt (k + 1) (length packed)) [
  | inl lt ↦
      let order = next_from packed is k d lt in
      let until = from_in_day packed is (k + 1) d lt in
      let from = (get_or packed k d).from in
      let value = value_in_force packed is k from d lt (omega arith) order in
      let small = within from (omega (arith, order, until)) in
      let low = rule_below (get_or packed k d).rule from in
      omega (arith, value, small, low)
  | inr ge ↦
      let place : length packed - 1 ≡ k = omega (arith, ge, h) in
      let last : get_or packed k d ≡ end_run = get_or_from_slice_get packed k end_run d (subst (λ (i : ℕ). slice_get packed i ≡ Some end_run) place end) in
      rw last (omega arith)
]

-- before the first run
pub rules_none : (packed xs : List Run) → IsDayList packed → xs ≡ [] → IsGrown (λ (r : Run). r.from) (λ (r : Run). r.rule) (SaysRule (arrival_value packed)) xs (begin_of packed 0)
rules_none packed xs is none =
    let start = begin_start packed is in
    let grown = grown_none (λ (r : Run). r.from) (λ (r : Run). r.rule) (SaysRule (arrival_value packed)) in
    subst (λ (t : ℕ). IsGrown (λ (r : Run). r.from) (λ (r : Run). r.rule) (SaysRule (arrival_value packed)) xs t) (sym start)
    (subst (λ (ys : List Run). IsGrown (λ (r : Run). r.from) (λ (r : Run). r.rule) (SaysRule (arrival_value packed)) ys 0) (sym none) grown)

-- with a further run
pub rules_more : (packed old new : List Run) (i : ℕ) (read : Run) → IsDayList packed → i + 1 < length packed → read ≡ get_or packed i read → IsPushed (λ (r : Run). r.rule) old read new
    → IsGrown (λ (r : Run). r.from) (λ (r : Run). r.rule) (SaysRule (arrival_value packed)) old (begin_of packed i)
    → IsGrown (λ (r : Run). r.from) (λ (r : Run). r.rule) (SaysRule (arrival_value packed)) new (begin_of packed (i + 1))
rules_more packed old new i read is inside same pushed grown =
    let begins = begin_read packed is i read (omega (arith, inside)) same in
    let order = begin_next packed is i inside in
    grown_push (λ (r : Run). r.from) (λ (r : Run). r.rule) (SaysRule (arrival_value packed)) old new read (begin_of packed i) (begin_of packed (i + 1)) grown pushed (sym begins) order.0
    (λ s late early. sym (begin_value packed is i s read inside same late early))

-- a compact list, with its end
pub record IsCompacted (packed list : List Run) : Type 0 where
  pub over_day : IsDayList list
  pub value : (t : ℕ) → t < day → arrival_value list t ≡ arrival_value packed t
  pub compact : IsCompactDay list
  pub end : slice_get list (length list - 1) ≡ Some end_run

pub rules_all : (packed xs list : List Run) (i : ℕ) (end : Run) → IsDayList packed → i + 1 ≡ length packed → end ≡ end_run → list ≡ xs ++ end ∷ []
    → IsGrown (λ (r : Run). r.from) (λ (r : Run). r.rule) (SaysRule (arrival_value packed)) xs (begin_of packed i) → IsCompacted packed list
rules_all packed xs list i end is last is_end is_list grown =
    let at_end = begin_end packed is i last in
    let whole = subst (λ (t : ℕ). IsGrown (λ (r : Run). r.from) (λ (r : Run). r.rule) (SaysRule (arrival_value packed)) xs t) at_end grown in
    let done = closed (arrival_value packed) xs whole.tiled in
    let same : list ≡ xs ++ end_run ∷ [] = is_list ∙ ap (λ (r : Run). xs ++ r ∷ []) is_end in
    let size = length_push xs end_run in
    let all : IsCompacted packed (xs ++ end_run ∷ []) = record {
      over_day = done.0;
      value = done.1;
      compact = λ k d h.
          let left : get_or (xs ++ end_run ∷ []) k d ≡ get_or xs k d = get_or_append_left xs (end_run ∷ []) d k (omega (arith, size, h)) in
          let right : get_or (xs ++ end_run ∷ []) (k + 1) d ≡ get_or xs (k + 1) d = get_or_append_left xs (end_run ∷ []) d (k + 1) (omega (arith, size, h)) in
          rw (left, right) (whole.differs k d (omega (arith, size, h)));
      end = last_pushed xs end_run;
    } in
    subst (λ (ys : List Run). IsCompacted packed ys) (sym same) all

-- what is read of a merger is a function
pub least_function : (l : Least) (list : List Run) → IsHeld l → KeepsDayOrder (least_arrival (least_held l)) → IsCompacted l.packed.items list
    → ((t : ℕ) → t < day → least_arrival (least_held l) t ≤ MAX_NUMBER)
    → IsPackedFunction list × ((t : ℕ) → t < day → arrival_value list t ≡ least_arrival (least_held l) t)
least_function l list is order compacted within =
    let value : (t : ℕ) → t < day → arrival_value list t ≡ least_arrival (least_held l) t = λ t h. compacted.value t h ∙ least_value l is t h in (
      record {
        over_day = compacted.over_day;
        limits = numbers_within list MAX_NUMBER compacted.over_day compacted.end (λ t h. let v = value t h in let w = within t h in omega (arith, v, w));
        fifo = day_order list compacted.over_day (order_same (arrival_value list) (least_arrival (least_held l)) value order);
      },
      value,
    )

-- the same of the candidates' numbers
pub ways_none : (l : Least) (xs : List WayRun) → IsHeld l → xs ≡ [] → IsGrown (λ (r : WayRun). r.from) (λ (r : WayRun). r.way) (SaysWay (least_held l)) xs (begin_of l.packed.items 0)
ways_none l xs is none =
    let start = begin_start l.packed.items is.over_day in
    let grown = grown_none (λ (r : WayRun). r.from) (λ (r : WayRun). r.way) (SaysWay (least_held l)) in
    subst (λ (t : ℕ). IsGrown (λ (r : WayRun). r.from) (λ (r : WayRun). r.way) (SaysWay (least_held l)) xs t) (sym start)
    (subst (λ (ys : List WayRun). IsGrown (λ (r : WayRun). r.from) (λ (r : WayRun). r.way) (SaysWay (least_held l)) ys 0) (sym none) grown)

-- the number beside the run in force is the least way
pub beside_way : (l : Least) (i s : ℕ) (read : Run) (way : ℕ) → IsHeld l → i + 1 < length l.packed.items → read ≡ get_or l.packed.items i read → way ≡ get_or l.ways.items i way
    → begin_of l.packed.items i ≤ s → s < begin_of l.packed.items (i + 1) → least_way (least_held l) s ≡ way
beside_way l i s read way is inside same beside late early =
    let packed = l.packed.items in
    let next = get_or packed (i + 1) end_run in
    let begins = begin_read packed is.over_day i read (omega (arith, inside)) same in
    let held = old_at l i s read next way is (read_there packed i read (omega (arith, inside)) same) (slice_get-get_or packed (i + 1) end_run inside)
    (read_there l.ways.items i way (omega (arith, inside, is.even)) beside) (omega (arith, begins, late)) early in
    rw held refl

pub ways_more : (l : Least) (old new : List WayRun) (i : ℕ) (read : Run) (run : WayRun) → IsHeld l → i + 1 < length l.packed.items → read ≡ get_or l.packed.items i read
    → run.way ≡ get_or l.ways.items i run.way → run.from ≡ read.from → IsPushed (λ (r : WayRun). r.way) old run new
    → IsGrown (λ (r : WayRun). r.from) (λ (r : WayRun). r.way) (SaysWay (least_held l)) old (begin_of l.packed.items i)
    → IsGrown (λ (r : WayRun). r.from) (λ (r : WayRun). r.way) (SaysWay (least_held l)) new (begin_of l.packed.items (i + 1))
ways_more l old new i read run is inside same beside from pushed grown =
    let packed = l.packed.items in
    let begins = begin_read packed is.over_day i read (omega (arith, inside)) same in
    let order = begin_next packed is.over_day i inside in
    grown_push (λ (r : WayRun). r.from) (λ (r : WayRun). r.way) (SaysWay (least_held l)) old new run (begin_of packed i) (begin_of packed (i + 1)) grown pushed (from ∙ sym begins) order.0
    (λ s late early. sym (beside_way l i s read run.way is inside same beside late early))

pub ways_all : (l : Least) (xs : List WayRun) (i : ℕ) → IsHeld l → i + 1 ≡ length l.packed.items
    → IsGrown (λ (r : WayRun). r.from) (λ (r : WayRun). r.way) (SaysWay (least_held l)) xs (begin_of l.packed.items i) → IsWayRuns (least_held l) xs
ways_all l xs i is last grown =
    let at_end = begin_end l.packed.items is.over_day i last in
    let whole = subst (λ (t : ℕ). IsGrown (λ (r : WayRun). r.from) (λ (r : WayRun). r.way) (SaysWay (least_held l)) xs t) at_end grown in
    record {
      starts = whole.tiled.starts (omega arith);
      limits = whole.tiled.below;
      rises = whole.tiled.rises;
      differs = whole.differs;
      ways = λ t h. let (run, there, said) = whole.tiled.holds t h in rw there (ap Some said);
    }

-- the same under other names
pub least_read : (l : Least) (now : List Held) (list packed : List Run) → IsHeld l → KeepsDayOrder (least_arrival now) → least_held l ≡ now → packed ≡ l.packed.items → IsCompacted packed list
    → ((t : ℕ) → t < day → least_arrival now t ≤ MAX_NUMBER) → IsPackedFunction list × ((t : ℕ) → t < day → arrival_value list t ≡ least_arrival now t)
least_read l now list packed is order view same compacted within =
    subst (λ (hs : List Held). IsPackedFunction list × ((t : ℕ) → t < day → arrival_value list t ≡ least_arrival hs t)) view
    (least_function l list is (subst (λ (hs : List Held). KeepsDayOrder (least_arrival hs)) (sym view) order)
    (subst (λ (ws : List Run). IsCompacted ws list) same compacted)
    (λ t h. subst (λ (hs : List Held). least_arrival hs t ≤ MAX_NUMBER) (sym view) (within t h)))

-- the first number is that of second 0
pub first_way : (l : Least) (now : List Held) (way : ℕ) → IsHeld l → least_held l ≡ now → way ≡ get_or l.ways.items 0 way → least_way now 0 ≡ way
first_way l now way is view same =
    let packed = l.packed.items in
    let two = two_packed packed is.over_day in
    let start = begin_start packed is.over_day in
    let order = begin_next packed is.over_day 0 two in
    let read = get_or packed 0 end_run in
    let is_read : read ≡ get_or packed 0 read = get_or-same packed 0 end_run read (omega (arith, two)) in
    ap (λ (hs : List Held). least_way hs 0) (sym view) ∙ beside_way l 0 0 read way is two is_read same (omega (arith, start)) (omega (arith, start, order.0))
