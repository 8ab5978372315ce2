-- What is known of a list answers it, and no answer is late.
use Rattle.std.proofs.Common.{◌≡◌, ◌<◌, ◌+◌, ◌-◌, ◌*◌, ◌/◌, ◌%◌, ◌∙◌, ℕ, List, [], Option, Some, None, refl, sym, ap, arith, length}
use Rattle.std.specs.Prelude.{slice_get}
use Rattle.cu_model.specs.Days.{day}
use Rattle.cu_arrival.specs.Runs.{arrival_value}
use Rattle.cu_arrival.proofs.RunLaws.{value-days}
use Rattle.cu_interval.specs.declared.ways.Dir.{Dir}
use Rattle.cu_interval.specs.declared.ways.Entry.{Entry}
use Rattle.cu_interval.specs.declared.relaxing.Relaxed.TheVariants.{At, NoWay}
use Rattle.cu_interval.specs.Hierarchies.{HierarchyValue, IsHierarchy, end_of, list_number, list_of, start_of}
use Rattle.cu_interval.specs.Unpacking.{answer_by, relaxed, unpacked_walk}
use Rattle.cu_store.specs.declared.store.Found.TheVariants as found
use Rattle.cu_store.specs.Known.{IsListFunction, KnownFunction, Knows, found_at}
use Rattle.cu_filling.proofs.AnswersNear.{ends_at}
use Rattle.cu_filling.proofs.ListDrives.{relaxed_by, same_list}

module _ (h : HierarchyValue) (f : IsHierarchy h) where
  -- an empty list answers that there is no way
  pub answer_none : (edge : ℕ) (dir : Dir) (t : ℕ) → edge < length h.edges → list_of h edge dir ≡ [] → relaxed h edge dir t ≡ NoWay
  answer_none edge dir t inside none =
      let (ends, at) = ends_at h f edge inside in
      let u = start_of ends dir in
      let v = end_of ends dir in
      relaxed_by h f edge dir ends at t
      ∙ ap (λ (es : List Entry). answer_by h es (unpacked_walk h u v t) t) (same_list h f edge dir ends at ∙ none)

  none_by : (o : Option (Option (Option KnownFunction))) (s : ℕ) → found_at o s ≡ found.NoWay → o ≡ Some (Some None)
  none_by None s e = absurd (cc e)
  none_by (Some None) s e = absurd (cc e)
  none_by (Some (Some None)) s e = refl
  none_by (Some (Some (Some function))) s e = absurd (cc e)

  at_by : (o : Option (Option (Option KnownFunction))) (s x : ℕ) → found_at o s ≡ found.At x → (function : KnownFunction) × (o ≡ Some (Some (Some function))) × (arrival_value function.runs s ≡ x)
  at_by None s x e = absurd (cc e)
  at_by (Some None) s x e = absurd (cc e)
  at_by (Some (Some None)) s x e = absurd (cc e)
  at_by (Some (Some (Some function))) s x e = (function, refl, cc e)

  module _ (known : List (Option (Option KnownFunction))) (knows : Knows h known) (edge : ℕ) (dir : Dir) (inside : edge < length h.edges) (list : ℕ) (number : list ≡ list_number edge dir) where
    pub known_none : (t s : ℕ) → found_at (slice_get known list) s ≡ found.NoWay → relaxed h edge dir t ≡ NoWay
    known_none t s e =
        let at = none_by (slice_get known list) s e in
        answer_none edge dir t inside (knows edge dir None (sym (ap (slice_get known) number) ∙ at))

    pub known_drives : (t s x : ℕ) → s ≡ t % day → found_at (slice_get known list) s ≡ found.At x → relaxed h edge dir t ≡ At ((t - s) + x)
    known_drives t s x is e =
        let (function, at, value) = at_by (slice_get known list) s x e in
        let says : IsListFunction h edge dir function = knows edge dir (Some function) (sym (ap (slice_get known) number) ∙ at) in
        let k = t / day in
        let lt : s < day = omega (arith, is) in
        let parts : k * day + s ≡ t = omega (arith, is) in
        let repeats = value-days function.runs says.over_day.over_day.starts k s lt in
        let same : arrival_value function.runs t ≡ k * day + arrival_value function.runs s = ap (arrival_value function.runs) (sym parts) ∙ repeats in
        says.drives t ∙ ap At (omega (arith, same, value, parts))
