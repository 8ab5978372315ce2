-- The function of a list that is settled has its rebuilt values.
use Rattle.std.proofs.Common.{◌≡◌, ◌≢◌, ◌≤◌, ◌<◌, ◌+◌, ◌*◌, ◌/◌, ◌%◌, ◌^◌, ◌∙◌, ◌⊎◌, ℕ, suc, List, [], ◌∷◌, Option, Some, None, refl, ap, sym, subst, arith, inl, inr, min}
use Rattle.std.specs.Prelude.{All, option_map, slice_get}
use Rattle.std.specs.List.{Contains}
use Rattle.cu_model.specs.Days.{day}
use Rattle.cu_arrival.specs.declared.runs.Run.{Run}
use Rattle.cu_arrival.specs.Runs.{arrival_value}
use Rattle.cu_arrival.proofs.RunLaws.{value-days}
use Rattle.cu_chordal.specs.Graphs.{HasEdge}
use Rattle.cu_chordal.proofs.Members.{all_from_members, member_cases, none_in_nil}
use Rattle.cu_interval.specs.declared.ways.Way.{Way}
use Rattle.cu_interval.specs.declared.ways.Way.TheVariants.{Road, Via}
use Rattle.cu_interval.specs.declared.ways.Entry.{Entry}
use Rattle.cu_interval.specs.Hierarchies.{HierarchyValue, list_from}
use Rattle.cu_interval.specs.Resettling.{ArrivesIn, IsCandidateIn, IsResettledList, least_in, lesser_of, rebuilt, rebuilt_by, then_at, value_by}
use Rattle.cu_interval.specs.WayLists.{entry_in, way_in}
use Rattle.cu_interval.proofs.Lookups.{entry_held, entry_of_way}
use Rattle.cu_interval.proofs.Unpacked.{way_there}
use Rattle.cu_interval.proofs.Rebuilding.{least_in-same, then_at-same}
use Rattle.cu_customize.specs.Functions.{FunctionsState}
use Rattle.cu_edits.specs.Steps.Frames.{IsFrame}
use Rattle.cu_edits.proofs.Frames.{candidates_alone, rebuilt_same}
use Rattle.cu_edits.proofs.Halves.{HasRebuilt, KnowsWay}
use Rattle.cu_edits.proofs.Sides.{edge_down, edge_up}

-- a way has a value that isn't below this
abbrev IsAtLeast : (Way → Option ℕ) → ℕ → Entry → Type 0
IsAtLeast value x entry = (y : ℕ) × (value entry.way ≡ Some y) × (x ≤ y)

least_low : (value : Way → Option ℕ) (es : List Entry) (x : ℕ) → All (IsAtLeast value x) es → (least_in value es ≡ None) ⊎ ((y : ℕ) × (least_in value es ≡ Some y) × (x ≤ y))
least_low value [] x all = inl refl
least_low value (e ∷ es) x all =
    let (y, is, le) = all 0 e (omega arith) in
    let here : least_in value (e ∷ es) ≡ lesser_of (Some y) (least_in value es) = ap (λ (o : Option ℕ). lesser_of o (least_in value es)) is in
    elim (least_low value es x (λ k d h. all (suc k) d (omega (arith, h)))) [
      | inl none ↦ inr (y, here ∙ ap (lesser_of (Some y)) none, le)
      | inr more ↦ let (z, some, low) = more in inr (min y z, here ∙ ap (lesser_of (Some y)) some, omega (arith, le, low))
    ]

-- where some way has this value and none a lower one it is the least
least_is : (value : Way → Option ℕ) (es : List Entry) (x : ℕ) (entry : Entry) → All (IsAtLeast value x) es → Contains es entry → value entry.way ≡ Some x → least_in value es ≡ Some x
least_is value [] x entry all c is = absurd (none_in_nil entry c)
least_is value (e ∷ es) x entry all c is = elim (member_cases e es entry c) [
  | inl first ↦
      let rest : All (IsAtLeast value x) es = λ k d h. all (suc k) d (omega (arith, h)) in
      let one : value e.way ≡ Some x = subst (λ (y : Entry). value y.way ≡ Some x) (sym first) is in
      let here : least_in value (e ∷ es) ≡ lesser_of (Some x) (least_in value es) = ap (λ (o : Option ℕ). lesser_of o (least_in value es)) one in
      elim (least_low value es x rest) [
        | inl none ↦ here ∙ ap (lesser_of (Some x)) none
        | inr more ↦ let (z, some, low) = more in let least : min x z ≡ x = omega (arith, low) in here ∙ ap (lesser_of (Some x)) some ∙ ap Some least
      ]
  | inr later ↦
      let (y, one, le) = all 0 e (omega arith) in
      let more = least_is value es x entry (λ k d h. all (suc k) d (omega (arith, h))) later is in
      let least : min y x ≡ x = omega (arith, le) in
      ap (λ (o : Option ℕ). lesser_of o (least_in value es)) one ∙ ap (lesser_of (Some y)) more ∙ ap Some least
]

some_value : (h : HierarchyValue) (u v t : ℕ) (function : Option (List Run)) → HasRebuilt h u v function → list_from h u v ≢ [] → (x : ℕ) × (rebuilt h u v t ≡ Some x)
some_value h u v t None none some = absurd (some none)
some_value h u v t (Some runs) (list, values) some = (arrival_value runs t, values t)

-- a candidate of which the hierarchy's values are known arrives
pub way_arrives : (h : HierarchyValue) (f : FunctionsState) (u v t : ℕ) (way : Way) → KnowsWay h f u v way → IsCandidateIn h u v way → (x : ℕ) × ArrivesIn h u v t way x
way_arrives h f u v t (Road a) knows c = (_, refl)
way_arrives h f u v t (Via m) knows (to, on, first, second) =
    let halves = knows to on (edge_down h u m to first) (edge_up h m v on second) in
    let (x, one) = some_value h u m t halves.0.function halves.0.rebuilds first in
    let (y, two) = some_value h m v x halves.1.function halves.1.rebuilds second in
    (min y (2 ^ 62), ap (λ (o : Option ℕ). then_at o (rebuilt h m v)) one ∙ ap (option_map (λ (z : ℕ). min z (2 ^ 62))) two)

-- each way of a list arrives at each second
abbrev pub AllArrive : HierarchyValue → ℕ → ℕ → List Entry → Type 0
AllArrive h u v es = (t : ℕ) → All (λ (entry : Entry). (x : ℕ) × ArrivesIn h u v t entry.way x) es

-- the way in force arrives at the least value of the list
pub runs_least : (h : HierarchyValue) (u v : ℕ) (es : List Entry) → AllArrive h u v es → IsResettledList h u v es → (s x : ℕ) (way : Way) → s < day
    → way_in es s ≡ Some way → ArrivesIn h u v s way x → least_in (value_by h.network (rebuilt h) u v s) es ≡ Some x
runs_least h u v es all runs s x way lt at arrives =
    let value = value_by h.network (rebuilt h) u v s in
    let first = runs.first s way lt at in
    let both : Some first.arrival ≡ Some x = sym first.arrives ∙ arrives in
    let same : first.arrival ≡ x = cc both in
    let (entry, in_force, is) = entry_of_way (entry_in es s) way at in
    let held = entry_held (Contains es) es s entry (all_from_members (Contains es) es (λ y c. c)) in_force in
    let candidates = candidates_alone (IsCandidateIn h u v) (ArrivesIn h u v) es runs in
    least_is value es x entry
    (λ k d inside.
    let (y, other) = all s k d inside in (
      y,
      other,
      elim (first.first _ y (candidates k d inside) other) [
        | inl less ↦ omega (arith, less, same)
        | inr tie ↦ let equal = tie.0 in omega (arith, equal, same)
      ],
    ))
    held (subst (λ (w : Way). value w ≡ Some x) (sym is) arrives)

-- the ways of a list have the same values where both halves of each stay
values_stay : (a b : HierarchyValue) (Pair : ℕ → ℕ → Type 0) → IsFrame a b Pair → a.network ≡ b.network → (u v s : ℕ)
    → ((m : ℕ) → HasEdge a.edges m u → HasEdge a.edges m v → Pair u m × Pair m v) → (way : Way) → IsCandidateIn a u v way
    → value_by b.network (rebuilt_by b (min u v)) u v s way ≡ value_by a.network (rebuilt a) u v s way
values_stay a b Pair frame same u v s halves (Road road) c = ap (λ (g : _). value_by g (rebuilt a) u v s (Road road)) (sym same)
values_stay a b Pair frame same u v s halves (Via m) (to, on, first, second) =
    let pairs = halves m (edge_down a u m to first) (edge_up a m v on second) in
    then_at-same (rebuilt_by b (min u v) u m s) (rebuilt a u m s) (rebuilt_by b (min u v) m v) (rebuilt a m v)
    (sym (rebuilt_same a b Pair frame (suc (min u m)) (min u v) u m s pairs.0 (omega arith) (omega (arith, to, on))))
    (λ x. sym (rebuilt_same a b Pair frame (suc (min m v)) (min u v) m v x pairs.1 (omega arith) (omega (arith, to, on))))

-- the rebuilt value of a new list, once it stands in the hierarchy
pub least_stays : (a b : HierarchyValue) (Pair : ℕ → ℕ → Type 0) → IsFrame a b Pair → a.network ≡ b.network → (u v : ℕ) (es : List Entry) (runs : List Run)
    → ((m : ℕ) → HasEdge a.edges m u → HasEdge a.edges m v → Pair u m × Pair m v) → IsResettledList a u v es → list_from b u v ≡ es → option_map (λ (run : Run). run.from) (slice_get runs 0) ≡ Some 0
    → ((s : ℕ) → s < day → least_in (value_by a.network (rebuilt a) u v s) es ≡ Some (arrival_value runs s)) → (t : ℕ) → rebuilt b u v t ≡ Some (arrival_value runs t)
least_stays a b Pair frame same u v es runs halves resettled list starts least t =
    let s = t % day in
    let lt : s < day = omega arith in
    let candidates = candidates_alone (IsCandidateIn a u v) (ArrivesIn a u v) es resettled in
    let moved : least_in (value_by b.network (rebuilt_by b (min u v)) u v s) (list_from b u v) ≡ Some (arrival_value runs s) =
    ap (least_in (value_by b.network (rebuilt_by b (min u v)) u v s)) list
    ∙ least_in-same (value_by b.network (rebuilt_by b (min u v)) u v s) (value_by a.network (rebuilt a) u v s) es (λ k d h. values_stay a b Pair frame same u v s halves _ (candidates k d h))
    ∙ least s lt in
    let days = value-days runs starts (t / day) s lt in
    let parts : (t / day) * day + s ≡ t = omega arith in
    let whole : arrival_value runs t ≡ (t / day) * day + arrival_value runs s = subst (λ (n : ℕ). arrival_value runs n ≡ (t / day) * day + arrival_value runs s) parts days in
    let sum : day * (t / day) + arrival_value runs s ≡ arrival_value runs t = omega (arith, whole) in
    ap (option_map (λ (value : ℕ). day * (t / day) + value)) moved ∙ ap Some sum

-- at each second the value of a list is that of its way in force
pub values_least : (h : HierarchyValue) (u v : ℕ) (es : List Entry) (runs : List Run) → AllArrive h u v es → IsResettledList h u v es → es ≢ []
    → ((s : ℕ) (way : Way) → s < day → way_in es s ≡ Some way → ArrivesIn h u v s way (arrival_value runs s)) → (s : ℕ) → s < day
    → least_in (value_by h.network (rebuilt h) u v s) es ≡ Some (arrival_value runs s)
values_least h u v es runs all resettled some arrives s lt =
    let (way, at) = way_there es resettled.spelled some s in
    runs_least h u v es all resettled s (arrival_value runs s) way lt at (arrives s way lt at)
