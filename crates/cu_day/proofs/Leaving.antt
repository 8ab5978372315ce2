-- What is left of a sweep when an arc that can't be in time is left out.
use Rattle.std.proofs.Common.{◌≡◌, ◌≢◌, ◌≤◌, ◌<◌, ◌+◌, ◌-◌, ◌∙◌, ◌^◌, ℕ, List, [], ◌∷◌, Option, Some, None, length, refl, sym, ap, subst, arith, inl, inr}
use Rattle.std.specs.Prelude.{All, slice_get, slice_set}
use Rattle.std.proofs.lemmas.Bool.{cases_order}
use Rattle.std.proofs.lemmas.Option.{get_or_from_slice_get, same_Some, slice_get_within}
use Rattle.cu_model.proofs.ListLaws.{get_here, get_other}
use Rattle.cu_model.specs.Days.{day}
use Rattle.cu_arrival.specs.declared.runs.Run.{Run}
use Rattle.cu_arrival.specs.Runs.{arrival_value}
use Rattle.cu_interval.specs.declared.ways.Entry.{Entry}
use Rattle.cu_interval.specs.Hierarchies.{HierarchyValue, IsHierarchy, list_from}
use Rattle.cu_interval.specs.LeastBounds.{bound_from}
use Rattle.cu_sweep.specs.Outlooks.{ahead_at}
use Rattle.cu_day.specs.DayChains.{list_drive}
use Rattle.cu_day.specs.Steps.InTime.{AreSlacks, InTime, IsEarly, IsNoEarlier, LeavesArc}
use Rattle.cu_day.specs.Steps.Sweeping.{Always, TakesList, label_at, value_at}
use Rattle.cu_day.proofs.Bounded.{list_takes}

-- what is taken whatever counts is taken as far as some does
pub counts_less : (Counts : ℕ → ℕ → ℕ → Type 0) (h : HierarchyValue) (x y : ℕ) (before after : List (Option (List Run)))
    → TakesList Always h x y before after → TakesList Counts h x y before after
counts_less Counts h x y before after takes = record {
  long = takes.long;
  sound = takes.sound;
  none = takes.none;
  taken = λ some t within.
      let all = takes.taken some t within in
      record { others = all.others; kept = all.kept; came = all.came; led = λ b s e le counts. all.led b s e le tt };
}

module _ (h : HierarchyValue) (f : IsHierarchy h) (by : List Run) (early : IsEarly by) (ahead : List ℕ) (x y : ℕ) (labels : List (Option (List Run))) where
  -- what an arc makes that is left out is not in time, or no earlier than what stands
  left_led : list_from h x y ≢ [] → LeavesArc by ahead (bound_from h x y) x y labels → (t : ℕ) → t < day → (b s : ℕ) → label_at labels t x ≡ Some b → b ≤ s
      → InTime by ahead t y (list_drive h x y s) → (a : ℕ) × (label_at labels t y ≡ Some a) × (a ≤ list_drive h x y s)
  left_led some leaves t within b s e le counts =
      let takes = list_takes h f x y s some in
      let soon = early t within in
      elim (leaves t b within e) [
        | inl late ↦ absurd (omega (arith, late, takes, soon, le, counts))
        | inr stands ↦ let no_later = stands.2 in (stands.0, stands.1, omega (arith, no_later, takes, soon, le, counts))
      ]

  -- so nothing changes
  pub left_takes : LeavesArc by ahead (bound_from h x y) x y labels → TakesList (InTime by ahead) h x y labels labels
  left_takes leaves = record {
    long = refl;
    sound = λ sound. sound;
    none = λ none. refl;
    taken = λ some t within. record {
      others = λ z apart. refl;
      kept = λ a e. (a, e, omega arith);
      came = λ a e. inl e;
      led = λ b s e le counts. left_led some leaves t within b s e le counts;
    };
  }

-- an arc from a rank without a label
pub leaves_none : (by : List Run) (ahead : List ℕ) (bound x y : ℕ) (labels : List (Option (List Run))) → slice_get labels x ≡ Some None
    → LeavesArc by ahead bound x y labels
leaves_none by ahead bound x y labels none t b within e =
    let is = sym (ap (λ (o : Option (Option (List Run))). value_at o t) none) ∙ e in
    absurd (cc is)

-- one behind whose label the limit is soon reached
pub leaves_late : (by : List Run) (ahead : List ℕ) (bound x y slack : ℕ) (labels : List (Option (List Run))) (slacks : List ℕ)
    → AreSlacks by labels slacks → slice_get slacks x ≡ Some slack → slack - bound ≤ ahead_at ahead y → LeavesArc by ahead bound x y labels
leaves_late by ahead bound x y slack labels slacks are at le t b within e =
    let less = are t x slack b within at e in
    inl (omega (arith, less, le))

-- one behind which what stands at its end is no later
pub leaves_standing : (by : List Run) (ahead : List ℕ) (bound x y : ℕ) (label : List Run) (standing : Option (List Run)) (labels : List (Option (List Run)))
    → slice_get labels x ≡ Some (Some label) → slice_get labels y ≡ Some standing → IsNoEarlier label bound standing
    → LeavesArc by ahead bound x y labels
leaves_standing by ahead bound x y label None labels from to stands t b within e = absurd stands
leaves_standing by ahead bound x y label (Some standing) labels from to stands t b within e =
    let start = same_Some (arrival_value label t) b (sym (ap (λ (o : Option (Option (List Run))). value_at o t) from) ∙ e) in
    let no_later = stands t within in
    inr (arrival_value standing t, ap (λ (o : Option (Option (List Run))). value_at o t) to, omega (arith, start, no_later))

-- slacks after the list between two ranks was taken, where nothing is said of the one that it leads to
pub slacks_kept : (h : HierarchyValue) (by : List Run) → IsEarly by → (x y most : ℕ) (before after : List (Option (List Run))) (slacks : List ℕ)
    → 2 ^ 61 ≤ most → y < length slacks → TakesList Always h x y before after → AreSlacks by before slacks → AreSlacks by after (slice_set slacks y most)
slacks_kept h by early x y most before after slacks much lt takes are t rank slack b within at e = elim (cases_order rank y) [
  | inl same ↦
      let here = subst (λ (n : ℕ). slice_get (slice_set slacks y most) n ≡ Some slack) same at in
      let is : most ≡ slack = same_Some most slack (sym (get_here slacks y most lt) ∙ here) in
      let soon = early t within in
      omega (arith, is, soon, much)
  | inr order ↦
      let apart : rank ≢ y = λ same. elim order [ inl l ↦ omega (arith, l, same) | inr m ↦ omega (arith, m, same) ] in
      are t rank slack b within (sym (get_other slacks y rank most (λ same. apart (sym same))) ∙ at)
      (label_before (list_from h x y) refl t rank b within apart e)
] where
  label_before : (entries : List Entry) → list_from h x y ≡ entries → (t rank b : ℕ) → t < day → rank ≢ y → label_at after t rank ≡ Some b
      → label_at before t rank ≡ Some b
  label_before [] is t rank b within apart e = ap (λ (labels : List (Option (List Run))). label_at labels t rank) (sym (takes.none is)) ∙ e
  label_before (entry ∷ entries) is t rank b within apart e =
      let some : list_from h x y ≢ [] = λ none. let both = sym is ∙ none in absurd (cc both) in
      sym ((takes.taken some t within).others rank apart) ∙ e

-- slacks after that of a rank was found
pub slacks_settled : (by : List Run) (rank slack : ℕ) (labels : List (Option (List Run))) (label : Option (List Run)) (slacks : List ℕ)
    → rank < length slacks → slice_get labels rank ≡ Some label
    → ((t b : ℕ) → t < day → value_at (Some label) t ≡ Some b → arrival_value by t < b + slack)
    → AreSlacks by labels slacks → AreSlacks by labels (slice_set slacks rank slack)
slacks_settled by rank slack labels label slacks lt here behind are t other amount b within at e = elim (cases_order other rank) [
  | inl same ↦
      let now = subst (λ (n : ℕ). slice_get (slice_set slacks rank slack) n ≡ Some amount) same at in
      let is : slack ≡ amount = same_Some slack amount (sym (get_here slacks rank slack lt) ∙ now) in
      let value = sym (ap (λ (o : Option (Option (List Run))). value_at o t) here) ∙ subst (λ (n : ℕ). label_at labels t n ≡ Some b) same e in
      let less = behind t b within value in
      omega (arith, is, less)
  | inr order ↦
      let apart : other ≢ rank = λ same. elim order [ inl l ↦ omega (arith, l, same) | inr m ↦ omega (arith, m, same) ] in
      are t other amount b within (sym (get_other slacks rank other slack (λ same. apart (sym same))) ∙ at) e
]

-- slacks of which nothing is said
pub slacks_begun : (by : List Run) → IsEarly by → (labels : List (Option (List Run))) (slacks : List ℕ) (most : ℕ) → 2 ^ 61 ≤ most
    → All (λ slack. slack ≡ most) slacks → AreSlacks by labels slacks
slacks_begun by early labels slacks most much all t rank slack b within at e =
    let here = get_or_from_slice_get slacks rank slack 0 at in
    let is = all rank 0 (slice_get_within slacks rank slack at) in
    let soon = early t within in
    omega (arith, here, is, soon, much)
