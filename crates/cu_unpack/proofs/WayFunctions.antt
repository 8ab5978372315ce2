-- The functions of ways by those of their halves, and the least of them over a list.
use Rattle.std.proofs.Common.{◌≡◌, ◌≢◌, ◌<◌, ◌+◌, ◌*◌, ◌/◌, ◌%◌, ◌^◌, ◌∙◌, ℕ, zero, suc, List, [], ◌∷◌, ◌++◌, Option, Some, None, refl, sym, ap, subst, arith, min, take}
use Rattle.std.proofs.lemmas.List.{take_more}
use Rattle.std.proofs.lemmas.Option.{get_or_from_slice_get, slice_get_within}
use Rattle.std.specs.Prelude.{option_map, slice_get}
use Rattle.cu_model.specs.Days.{day, RepeatsDaily}
use Rattle.cu_model.specs.Roads.{arc_value}
use Rattle.cu_model.proofs.OptionLaws.{same_value}
use Rattle.cu_arrival.specs.declared.runs.Run.{Run}
use Rattle.cu_arrival.specs.Runs.{arrival_value}
use Rattle.cu_arrival.proofs.RunLaws.{arrival_value-repeats}
use Rattle.cu_chordal.specs.declared.graph.Ends.{Ends}
use Rattle.cu_interval.specs.declared.ways.Dir.{Dir}
use Rattle.cu_interval.specs.declared.ways.Dir.TheVariants.{Up, Down}
use Rattle.cu_interval.specs.declared.ways.Way.{Way}
use Rattle.cu_interval.specs.declared.ways.Way.TheVariants.{Road, Via}
use Rattle.cu_interval.specs.declared.ways.Entry.{Entry}
use Rattle.cu_interval.specs.Hierarchies.{HierarchyValue, IsHierarchy, start_of, end_of}
use Rattle.cu_interval.specs.Resettling.{least_in, lesser_of, rebuilt, rebuilt_by, then_at}
use Rattle.cu_interval.proofs.Lookups.{list_from-edge}
use Rattle.cu_interval.proofs.Rebuilding.{rebuilt-fuel}
use Rattle.cu_interval.specs.declared.shortcuts.Shortcut.{Shortcut}
use Rattle.cu_interval.specs.Shortcuts.{AreHalves, number_of, ways_of}
use Rattle.cu_unpack.specs.Rebuilds.{IsRebuiltFunction, Keeps}
use Rattle.cu_unpack.specs.Steps.Rebuilding.{AreKept, HasValues, IsAmong, IsEarlier, IsLeastOf, IsWayFunction, IsWayOf, value_in, way_value}

pub road_function : (h : HierarchyValue) (shortcut : Shortcut) (road : ℕ) (runs : List Run) → ((t : ℕ) → arrival_value runs t ≡ arc_value h.network road t)
    → IsWayFunction h shortcut (Road road) runs
road_function h shortcut road runs same ends at t lt = ap Some (sym (same t))

-- the value of a half, by as many levels as the whole needs
half_value : (h : HierarchyValue) → IsHierarchy h → (x y u v t arrival : ℕ) → min x y < min u v → rebuilt h x y t ≡ Some arrival → rebuilt_by h (min u v) x y t ≡ Some arrival
half_value h f x y u v t arrival below e = rebuilt-fuel h f (min u v) (suc (min x y)) x y t below (omega arith) ∙ e

pub via_value : (h : HierarchyValue) → IsHierarchy h → (u v m : ℕ) → m < u → m < v → (first second : List Run)
    → ((t : ℕ) → rebuilt h u m t ≡ Some (arrival_value first t)) → ((t : ℕ) → rebuilt h m v t ≡ Some (arrival_value second t))
    → (t : ℕ) → way_value h u v t (Via m) ≡ Some (min (arrival_value second (arrival_value first t)) (2 ^ 62))
via_value h f u v m below_u below_v first second to on t =
    let there = arrival_value first t in
    let one : rebuilt_by h (min u v) u m t ≡ Some there = half_value h f u m u v t there (omega (arith, below_u, below_v)) (to t) in
    let two : rebuilt_by h (min u v) m v there ≡ Some (arrival_value second there) = half_value h f m v u v there (arrival_value second there) (omega (arith, below_u, below_v)) (on there) in
    ap (λ (o : Option ℕ). then_at o (rebuilt_by h (min u v) m v)) one ∙ ap (λ (o : Option ℕ). option_map (λ (y : ℕ). min y (2 ^ 62)) o) two

-- what is kept of a half
kept_down : (h : HierarchyValue) (kept : List (Option (List Run))) → Keeps h (record { kept = kept }) → (edge m u : ℕ) (dir : Dir) (runs : List Run)
    → slice_get kept (number_of (record { edge = edge; dir = dir })) ≡ Some (Some runs) → dir ≡ Down → slice_get h.edges edge ≡ Some (record { low = m; high = u })
    → (t : ℕ) → rebuilt h u m t ≡ Some (arrival_value runs t)
kept_down h kept keeps edge m u Down runs e down at = (keeps edge Down runs e).2 (record { low = m; high = u }) at
kept_down h kept keeps edge m u Up runs e down at = absurd (cc down)

kept_up : (h : HierarchyValue) (kept : List (Option (List Run))) → Keeps h (record { kept = kept }) → (edge m v : ℕ) (dir : Dir) (runs : List Run)
    → slice_get kept (number_of (record { edge = edge; dir = dir })) ≡ Some (Some runs) → dir ≡ Up → slice_get h.edges edge ≡ Some (record { low = m; high = v })
    → (t : ℕ) → rebuilt h m v t ≡ Some (arrival_value runs t)
kept_up h kept keeps edge m v Up runs e up at = (keeps edge Up runs e).2 (record { low = m; high = v }) at
kept_up h kept keeps edge m v Down runs e up at = absurd (cc up)

-- the function of a way by a middle
pub via_function : (h : HierarchyValue) → IsHierarchy h → (kept : List (Option (List Run))) → AreKept h kept → (whole first second : Shortcut) (m : ℕ)
    → IsWayOf h whole (Via m) → AreHalves h whole m first second → (to on runs : List Run)
    → slice_get kept (number_of first) ≡ Some (Some to) → slice_get kept (number_of second) ≡ Some (Some on)
    → ((t : ℕ) → t < day → arrival_value runs t ≡ min (arrival_value on (arrival_value to t)) (2 ^ 62))
    → IsWayFunction h whole (Via m) runs
via_function h f kept are whole first second m (ends, at, formed) halves to on runs to_kept on_kept value other other_at t lt =
    let same : halves.ends ≡ ends = same_value (slice_get h.edges whole.edge) halves.ends ends halves.at at in
    let same_other : ends ≡ other = same_value (slice_get h.edges whole.edge) ends other at other_at in
    let u = start_of ends whole.dir in
    let v = end_of ends whole.dir in
    let low : slice_get h.edges first.edge ≡ Some (record { low = m; high = u }) =
    subst (λ (e : Ends). slice_get h.edges first.edge ≡ Some (record { low = m; high = start_of e whole.dir })) same halves.to in
    let high : slice_get h.edges second.edge ≡ Some (record { low = m; high = v }) =
    subst (λ (e : Ends). slice_get h.edges second.edge ≡ Some (record { low = m; high = end_of e whole.dir })) same halves.onward in
    let by = via_value h f u v m formed.0 formed.1 to on (kept_down h kept are.1 first.edge m u first.dir to to_kept halves.down low)
    (kept_up h kept are.1 second.edge m v second.dir on on_kept halves.up high) t in
    subst (λ (e : Ends). way_value h (start_of e whole.dir) (end_of e whole.dir) t (Via m) ≡ Some (arrival_value runs t)) same_other (by ∙ ap Some (sym (value t lt)))

lesser_of-assoc : (a b c : Option ℕ) → lesser_of a (lesser_of b c) ≡ lesser_of (lesser_of a b) c
lesser_of-assoc None b c = refl
lesser_of-assoc (Some x) None c = refl
lesser_of-assoc (Some x) (Some y) None = refl
lesser_of-assoc (Some x) (Some y) (Some z) = ap Some (omega arith)

pub lesser_of-none : (a : Option ℕ) → lesser_of a None ≡ a
lesser_of-none None = refl
lesser_of-none (Some x) = refl

pub least_in-more : (value : Way → Option ℕ) (entries : List Entry) (entry : Entry) → least_in value (entries ++ entry ∷ []) ≡ lesser_of (least_in value entries) (value entry.way)
least_in-more value [] entry = lesser_of-none (value entry.way)
least_in-more value (x ∷ entries) entry =
    ap (λ (o : Option ℕ). lesser_of (value x.way) o) (least_in-more value entries entry) ∙ lesser_of-assoc (value x.way) (least_in value entries) (value entry.way)

more_not_empty : (entries : List Entry) (entry : Entry) → (entries ++ entry ∷ []) ≢ []
more_not_empty [] entry e = absurd (cc e)
more_not_empty (x ∷ entries) entry e = absurd (cc e)

least_value : (h : HierarchyValue) (shortcut : Shortcut) (entries : List Entry) (least : Option (List Run)) → IsLeastOf h shortcut entries least
    → (ends : Ends) → slice_get h.edges shortcut.edge ≡ Some ends
    → (t : ℕ) → t < day → least_in (way_value h (start_of ends shortcut.dir) (end_of ends shortcut.dir) t) entries ≡ value_in least t
least_value h shortcut entries None is ends at t lt = ap (λ (es : List Entry). least_in (way_value h (start_of ends shortcut.dir) (end_of ends shortcut.dir) t) es) is
least_value h shortcut entries (Some runs) is ends at t lt = is.2 ends at t lt

-- one more way
pub least_more : (h : HierarchyValue) (shortcut : Shortcut) (entries : List Entry) (entry : Entry) (least : Option (List Run)) (runs next : List Run)
    → IsLeastOf h shortcut entries least → IsWayFunction h shortcut entry.way runs → IsEarlier least runs next
    → IsLeastOf h shortcut (entries ++ entry ∷ []) (Some next)
least_more h shortcut entries entry least runs next is way earlier = (
  more_not_empty entries entry,
  earlier.0,
  λ ends at t lt.
      let value = way_value h (start_of ends shortcut.dir) (end_of ends shortcut.dir) t in
      least_in-more value entries entry
      ∙ ap (λ (o : Option ℕ). lesser_of o (value entry.way)) (least_value h shortcut entries least is ends at t lt)
      ∙ ap (λ (o : Option ℕ). lesser_of (value_in least t) o) (way ends at t lt)
      ∙ earlier.1 t lt,
)

lesser_of-again : (a b : Option ℕ) → lesser_of a (lesser_of b a) ≡ lesser_of a b
lesser_of-again None None = refl
lesser_of-again None (Some y) = refl
lesser_of-again (Some x) None = ap Some (omega arith)
lesser_of-again (Some x) (Some y) = ap Some (omega arith)

-- a way that was there already changes no least value
pub least_in-again : (value : Way → Option ℕ) (entries : List Entry) (i j : ℕ) (first again : Entry) → i < j → slice_get entries i ≡ Some first → slice_get entries j ≡ Some again
    → first.way ≡ again.way → least_in value (take (suc j) entries) ≡ least_in value (take j entries)
least_in-again value [] i j first again lt there later same = absurd (cc there)
least_in-again value (e ∷ entries) i zero first again lt there later same = absurd (omega (arith, lt))
least_in-again value (e ∷ entries) zero (suc j) first again lt there later same =
    let next : suc j ≡ j + 1 = omega arith in
    let more : take (suc j) entries ≡ take j entries ++ again ∷ [] =
    ap (λ (n : ℕ). take n entries) next ∙ take_more entries j again (slice_get_within entries j again later)
    ∙ ap (λ (x : Entry). take j entries ++ x ∷ []) (get_or_from_slice_get entries j again again later) in
    let is : e ≡ first = cc there in
    let way : value again.way ≡ value e.way = ap value (sym same ∙ ap (λ (x : Entry). x.way) (sym is)) in
    ap (λ (es : List Entry). lesser_of (value e.way) (least_in value es)) more
    ∙ ap (λ (o : Option ℕ). lesser_of (value e.way) o) (least_in-more value (take j entries) again ∙ ap (λ (o : Option ℕ). lesser_of (least_in value (take j entries)) o) way)
    ∙ lesser_of-again (value e.way) (least_in value (take j entries))
least_in-again value (e ∷ entries) (suc i) (suc j) first again lt there later same =
    ap (λ (o : Option ℕ). lesser_of (value e.way) o) (least_in-again value entries i j first again (omega (arith, lt)) there later same)

least_once : (h : HierarchyValue) (shortcut : Shortcut) (entries : List Entry) (j : ℕ) (again : Entry) (least : Option (List Run)) → slice_get entries j ≡ Some again
    → IsAmong entries j again.way → IsLeastOf h shortcut (take j entries) least → IsLeastOf h shortcut (take (suc j) entries) least
least_once h shortcut [] j again least later among is = absurd (cc later)
least_once h shortcut (e ∷ entries) zero again least later (i, first, lt, there, same) is = absurd (omega (arith, lt))
least_once h shortcut (e ∷ entries) (suc j) again None later among is = absurd (cc is)
least_once h shortcut (e ∷ entries) (suc j) again (Some runs) later (i, first, lt, there, same) is = (
  λ none. absurd (cc none),
  is.1,
  λ ends at t within.
      least_in-again (way_value h (start_of ends shortcut.dir) (end_of ends shortcut.dir) t) (e ∷ entries) i (suc j) first again lt there later same
      ∙ is.2 ends at t within,
)

-- one more way that was there already
pub least_again : (h : HierarchyValue) (shortcut : Shortcut) (entries : List Entry) (j : ℕ) (again : Entry) (least : Option (List Run)) → slice_get entries j ≡ Some again
    → IsAmong entries j again.way → IsLeastOf h shortcut (take j entries) least → IsLeastOf h shortcut (take (j + 1) entries) least
least_again h shortcut entries j again least later among is =
    let next : suc j ≡ j + 1 = omega arith in
    subst (λ (n : ℕ). IsLeastOf h shortcut (take n entries) least) next (least_once h shortcut entries j again least later among is)

-- the values over the day, on every day
every_day : (f : ℕ → ℕ) → RepeatsDaily f → (t : ℕ) → day * (t / day) + f (t % day) ≡ f t
every_day f repeats t =
    let whole : t ≡ (t / day) * day + t % day = omega arith in
    let again = repeats (t / day) (t % day) (omega arith) in
    let swap : day * (t / day) + f (t % day) ≡ (t / day) * day + f (t % day) = omega arith in
    swap ∙ sym again ∙ ap f (sym whole)

-- the least values of all ways of a shortcut over the day are the rebuilt ones
pub values_rebuilt : (h : HierarchyValue) → IsHierarchy h → (shortcut : Shortcut) (runs : List Run) → RepeatsDaily (arrival_value runs) → (ends : Ends) → slice_get h.edges shortcut.edge ≡ Some ends
    → HasValues runs (λ t. least_in (way_value h (start_of ends shortcut.dir) (end_of ends shortcut.dir) t) (ways_of h shortcut))
    → (t : ℕ) → rebuilt h (start_of ends shortcut.dir) (end_of ends shortcut.dir) t ≡ Some (arrival_value runs t)
values_rebuilt h f shortcut runs repeats ends at values t =
    let u = start_of ends shortcut.dir in
    let v = end_of ends shortcut.dir in
    ap (λ (es : List Entry). option_map (λ (value : ℕ). day * (t / day) + value) (least_in (way_value h u v (t % day)) es)) (list_from-edge h f shortcut.edge shortcut.dir ends at)
    ∙ ap (λ (o : Option ℕ). option_map (λ (value : ℕ). day * (t / day) + value) o) (values (t % day) (omega arith))
    ∙ ap Some (every_day (arrival_value runs) repeats t)

-- the least of all ways of a shortcut is its function
pub least_rebuilt : (h : HierarchyValue) → IsHierarchy h → (shortcut : Shortcut) (function : Option (List Run)) → IsLeastOf h shortcut (ways_of h shortcut) function
    → IsRebuiltFunction h shortcut.edge shortcut.dir function
least_rebuilt h f shortcut None is = is
least_rebuilt h f shortcut (Some runs) is = (
  is.0,
  is.1,
  λ ends at t. values_rebuilt h f shortcut runs (arrival_value-repeats runs is.1) ends at (is.2 ends at) t,
)
