-- Which of two labels is chosen, and how early a call may be.
use Rattle.std.proofs.Common.{◌≡◌, ◌≤◌, ◌<◌, ◌+◌, ◌⊎◌, ℕ, List, [], ◌∷◌, ◌++◌, Option, Some, None, refl, ap, arith, inl, inr, ltb, true, false}
use Rattle.std.proofs.lemmas.Bool.{cases_lt}
use Rattle.std.proofs.lemmas.Option.{none-some, same_Some}
use Rattle.cu_interval.specs.declared.ways.Dir.{Dir}
use Rattle.cu_interval.specs.declared.relaxing.Call.{Call}
use Rattle.cu_interval.specs.declared.relaxing.Relaxed.{Relaxed}
use Rattle.cu_interval.specs.declared.relaxing.Relaxed.TheVariants.{At, NoWay, Long}
use Rattle.cu_interval.specs.Hierarchies.{HierarchyValue, IsHierarchy}
use Rattle.cu_interval.specs.Unpacking.{relaxed}
use Rattle.cu_interval.specs.LeastBounds.{least_bound}
use Rattle.cu_sweep.specs.Labels.{Label, call_from, earlier_of, label_by, label_over}
use Rattle.cu_interval.proofs.BoundLaws.{relaxed_takes}

-- the first of two labels stays where the second is no earlier
pub chosen_first : (a b : Option Label) (l : Label) → a ≡ Some l → ((d : Label) → b ≡ Some d → l.second ≤ d.second) → earlier_of a b ≡ Some l
chosen_first None b l e late = absurd (none-some l e)
chosen_first (Some a) None l e late = e
chosen_first (Some a) (Some b) l e late =
    let same = ap (λ (x : Label). x.second) (same_Some a l e) in
    let no_earlier = late b refl in
    let is : ltb b.second a.second ≡ false = grind (arith, no_earlier, same) in
    rw is e

-- and goes where the second is strictly earlier
pub chosen_second : (a b : Option Label) (l : Label) → b ≡ Some l → ((d : Label) → a ≡ Some d → l.second < d.second) → earlier_of a b ≡ Some l
chosen_second None b l e soon = e
chosen_second (Some a) None l e soon = absurd (none-some l e)
chosen_second (Some a) (Some b) l e soon =
    let same = ap (λ (x : Label). x.second) (same_Some b l e) in
    let earlier = soon a refl in
    let is : ltb b.second a.second ≡ true = grind (arith, earlier, same) in
    rw is e

-- which of two labels was chosen
pub chosen_cases : (a b : Option Label) (l : Label) → earlier_of a b ≡ Some l
    → ((a ≡ Some l) × ((d : Label) → b ≡ Some d → l.second ≤ d.second)) ⊎ ((b ≡ Some l) × ((d : Label) → a ≡ Some d → l.second < d.second))
chosen_cases None b l e = inr (e, λ d none. absurd (none-some d none))
chosen_cases (Some a) None l e = inl (e, λ d none. absurd (none-some d none))
chosen_cases (Some a) (Some b) l e =
    elim (cases_lt b.second a.second) [
      | inl lt ↦
          let is : ltb b.second a.second ≡ true = grind (arith, lt) in
          let chosen : Some b ≡ Some l = rw is at e in
          let same = ap (λ (x : Label). x.second) (same_Some b l chosen) in
          inr (chosen, λ d there. let other = ap (λ (x : Label). x.second) (same_Some a d there) in omega (arith, lt, same, other))
      | inr ge ↦
          let is : ltb b.second a.second ≡ false = grind (arith, ge) in
          let chosen : Some a ≡ Some l = rw is at e in
          let same = ap (λ (x : Label). x.second) (same_Some a l chosen) in
          inl (chosen, λ d there. let other = ap (λ (x : Label). x.second) (same_Some b d there) in omega (arith, ge, same, other))
    ]

by_late : (r : Relaxed) (calls : List Call) (least : ℕ) (l : Label) → ((s : ℕ) → r ≡ At s → least ≤ s) → label_by r calls ≡ Some l → least ≤ l.second
by_late (At s) calls least l takes e =
    let same = ap (λ (x : Label). x.second) (same_Some (record { second = s; calls = calls }) l e) in
    let le = takes s refl in
    omega (arith, same, le)
by_late NoWay calls least l takes e = absurd (none-some l e)
by_late Long calls least l takes e = absurd (none-some l e)

-- the label that a call gives is no earlier than its list's least bound lets it be
pub over_late : (h : HierarchyValue) → IsHierarchy h → (edge : ℕ) (dir : Dir) (from l : Label) → label_over h (Some edge) dir (Some from) ≡ Some l
    → from.second + least_bound h edge dir ≤ l.second
over_late h f edge dir from l e =
    by_late (relaxed h edge dir from.second) (from.calls ++ (call_from edge dir from.second ∷ [])) (from.second + least_bound h edge dir) l
    (relaxed_takes h f edge dir from.second) e
