-- Ways over sweep arcs, each from where the one before leads.
use Rattle.std.proofs.Common.{◌≡◌, ◌≢◌, ◌<◌, ◌∙◌, ℕ, List, [], ◌∷◌, ◌++◌, Some, refl, sym, ap, subst, arith, inl, inr, ◌⊎◌}
use Rattle.std.specs.Prelude.{All, slice_get}
use Rattle.std.proofs.lemmas.List.Elements.{All-cons, All-nil}
use Rattle.std.proofs.lemmas.List.Kept.{AllPairs-cons}
use Rattle.std.proofs.lemmas.Option.{same_Some}
use Rattle.cu_chordal.specs.declared.graph.Ends.{Ends}
use Rattle.cu_interval.specs.declared.ways.Dir.{Dir}
use Rattle.cu_interval.specs.declared.ways.Dir.TheVariants.{Up, Down}
use Rattle.cu_interval.specs.declared.shortcuts.Shortcut.{Shortcut}
use Rattle.cu_interval.specs.Hierarchies.{HierarchyValue, IsHierarchy, end_of, start_of}
use Rattle.cu_interval.proofs.EndsLaws.{ends_range}
use Rattle.cu_sweep.specs.LedCalls.{AreArcsOnce, IsLegOf, LeadOn}

-- one arc more
pub lead_more : (h : HierarchyValue) (rank : ℕ) (dir : Dir) (from : ℕ) (arcs : List Shortcut) (mid : ℕ) (arc : Shortcut) (to : ℕ)
    → LeadOn h rank dir from arcs mid → IsLegOf h rank dir arc mid to → LeadOn h rank dir from (arcs ++ (arc ∷ [])) to
lead_more h rank dir from [] mid arc to leads leg = (to, subst (λ (r : ℕ). IsLegOf h rank dir arc r to) (sym leads) leg, refl)
lead_more h rank dir from (a ∷ arcs) mid arc to (next, first, leads) leg = (next, first, lead_more h rank dir next arcs mid arc to leads leg)

-- one rank is behind another in a direction
abbrev IsOn : Dir → ℕ → ℕ → Type 0
IsOn Up from to = from < to
IsOn Down from to = to < from

on_apart : (dir : Dir) (from to : ℕ) → IsOn dir from to → from ≢ to
on_apart Up from to less same = omega (arith, less, same)
on_apart Down from to less same = omega (arith, less, same)

on_then : (dir : Dir) (x y z : ℕ) → IsOn dir x y → (y ≡ z) ⊎ IsOn dir y z → IsOn dir x z
on_then Up x y z less (inl same) = omega (arith, less, same)
on_then Up x y z less (inr more) = omega (arith, less, more)
on_then Down x y z less (inl same) = omega (arith, less, same)
on_then Down x y z less (inr more) = omega (arith, less, more)

ends_on : (dir : Dir) (ends : Ends) → ends.low < ends.high → IsOn dir (start_of ends dir) (end_of ends dir)
ends_on Up ends less = less
ends_on Down ends less = less

leg_on : (h : HierarchyValue) → IsHierarchy h → (rank : ℕ) (dir : Dir) (arc : Shortcut) (from to : ℕ) → IsLegOf h rank dir arc from to → IsOn dir from to
leg_on h f rank dir arc from to leg =
    subst (λ (y : ℕ). IsOn dir from y) leg.end
    (subst (λ (x : ℕ). IsOn dir x (end_of leg.ends dir)) leg.start (ends_on dir leg.ends (ends_range h f arc.edge leg.ends leg.at).0))

-- an arc starts at a rank, or behind it
record IsBehind (h : HierarchyValue) (dir : Dir) (from : ℕ) (arc : Shortcut) : Type 0 where
  ends : Ends
  at : slice_get h.edges arc.edge ≡ Some ends
  start : (from ≡ start_of ends dir) ⊎ IsOn dir from (start_of ends dir)

all_behind : (h : HierarchyValue) → IsHierarchy h → (rank : ℕ) (dir : Dir) (from : ℕ) (arcs : List Shortcut) (to : ℕ)
    → LeadOn h rank dir from arcs to → All (IsBehind h dir from) arcs
all_behind h f rank dir from [] to leads = All-nil (IsBehind h dir from)
all_behind h f rank dir from (arc ∷ arcs) to (next, leg, leads) =
    let on = leg_on h f rank dir arc from next leg in
    All-cons (IsBehind h dir from) arc arcs (record { ends = leg.ends; at = leg.at; start = inl (sym leg.start) })
    (all_weaker (IsBehind h dir next) (IsBehind h dir from) arcs (λ a is. record { ends = is.ends; at = is.at; start = inr (on_then dir from next (start_of is.ends dir) on is.start) })
    (all_behind h f rank dir next arcs to leads))
  where
    all_weaker : (P Q : Shortcut → Type 0) (xs : List Shortcut) → ((a : Shortcut) → P a → Q a) → All P xs → All Q xs
    all_weaker P Q xs weaker all k d lt = weaker _ (all k d lt)

-- each arc of a way is taken once
pub leads_once : (h : HierarchyValue) (rank : ℕ) (dir : Dir) (from : ℕ) (arcs : List Shortcut) (to : ℕ) → IsHierarchy h
    → LeadOn h rank dir from arcs to → AreArcsOnce h rank dir arcs
leads_once h rank dir from [] to f leads = record {
  each = All-nil (λ (arc : Shortcut). (x y : ℕ) × IsLegOf h rank dir arc x y);
  once = λ i j d less lt. absurd (omega (arith, lt));
}
leads_once h rank dir from (arc ∷ arcs) to f (next, leg, leads) =
    let P : Shortcut → Type 0 = λ a. (x y : ℕ) × IsLegOf h rank dir a x y in
    let R : Shortcut → Shortcut → Type 0 = λ a b. a.edge ≢ b.edge in
    let rest = leads_once h rank dir next arcs to f leads in
    let behind = all_behind h f rank dir next arcs to leads in
    let on = leg_on h f rank dir arc from next leg in
    record {
      each = All-cons P arc arcs (from, next, leg) rest.each;
      once = AllPairs-cons R arc arcs (λ k d lt same.
          let is = behind k d lt in
          let ends : leg.ends ≡ is.ends = same_Some leg.ends is.ends (sym leg.at ∙ ap (slice_get h.edges) same ∙ is.at) in
          on_apart dir from (start_of is.ends dir) (on_then dir from next (start_of is.ends dir) on is.start)
          (sym leg.start ∙ ap (λ (e : Ends). start_of e dir) ends)) rest.once;
    }
