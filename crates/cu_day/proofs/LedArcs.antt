-- The calls of a led day, step by step.
use Rattle.std.proofs.Common.{◌≡◌, ◌+◌, ◌∙◌, ◌++◌, ℕ, List, [], ◌∷◌, refl, sym, ap, subst, inl, inr, append_assoc, map}
use Rattle.std.specs.Prelude.{IfOk, Result, Ok, Err}
use Rattle.std.specs.List.{range_with_len}
use Rattle.std.proofs.lemmas.List.{append-nil}
use Rattle.std.proofs.lemmas.List.FromFn.{map-range_with_len_more}
use Rattle.std.proofs.lemmas.Grind.{flat_map-append}
use Rattle.cu_interval.specs.declared.ways.Dir.{Dir}
use Rattle.cu_interval.specs.declared.ways.Dir.TheVariants.{Up, Down}
use Rattle.cu_interval.specs.declared.shortcuts.Shortcut.{Shortcut}
use Rattle.cu_interval.specs.Hierarchies.{HierarchyValue, graph_of}
use Rattle.cu_sweep.specs.LedCalls.{IsLegOf, arc_by, arcs_down, arcs_of_rank, arcs_of_ranks, arcs_up}
use Rattle.cu_sweep.proofs.SomeArcs.{some_append, some_none}
use Rattle.cu_sweep.proofs.Ways.{lead_more}
use Rattle.cu_day.specs.DayCalls.{AddsLedArcs, AddsSweepArcs}
use Rattle.cu_day.specs.Steps.LedSteps.{AddsInSweeps, AddsLegs, AddsLimited, AddsSomeOf, AddsWay}

pub if_ok_then : {T E : Type 0} (r : Result T E) (P Q : T → Type 0) → ((x : T) → P x → Q x) → IfOk r P → IfOk r Q
if_ok_then (Ok x) P Q f held = f x held
if_ok_then (Err e) P Q f held = tt

pub none_of : (arcs told : List Shortcut) → AddsSomeOf arcs told told
none_of arcs told = record { some = []; are = some_none arcs; added = sym (append-nil told) }

pub one_of : (arc : Shortcut) (before now : List Shortcut) → now ≡ before ++ (arc ∷ []) → AddsSomeOf (arc ∷ []) before now
one_of arc before now is = record { some = arc ∷ []; are = inr ([], refl, refl); added = is }

-- some, and then some more
pub some_then : (all more a b c : List Shortcut) → AddsSomeOf all a b → AddsSomeOf more b c → AddsSomeOf (all ++ more) a c
some_then all more a b c first next = record {
  some = first.some ++ next.some;
  are = some_append all more first.some next.some first.are next.are;
  added = next.added ∙ ap (λ (xs : List Shortcut). xs ++ next.some) first.added ∙ append_assoc a first.some next.some;
}

-- one more edge of a rank
pub edge_more : (dir : Dir) (first i edge : ℕ) (a b c : List Shortcut) → AddsSomeOf (map (arc_by dir) (range_with_len first i)) a b
    → AddsSomeOf (arc_by dir edge ∷ []) b c → edge ≡ first + i → AddsSomeOf (map (arc_by dir) (range_with_len first (i + 1))) a c
edge_more dir first i edge a b c some more is =
    subst (λ (arcs : List Shortcut). AddsSomeOf arcs a c) (sym (map-range_with_len_more (arc_by dir) first i edge (sym is)))
    (some_then (map (arc_by dir) (range_with_len first i)) (arc_by dir edge ∷ []) a b c some more)

-- one more rank
pub rank_more : (h : HierarchyValue) (dir : Dir) (done : List ℕ) (x : ℕ) (a b c : List Shortcut) → AddsSomeOf (arcs_of_ranks h dir done) a b
    → AddsSomeOf (arcs_of_rank h dir x) b c → AddsSomeOf (arcs_of_ranks h dir (done ++ (x ∷ []))) a c
rank_more h dir done x a b c some more =
    let all = ap (λ (arcs : List Shortcut). arcs_of_ranks h dir done ++ arcs) (sym (append-nil (arcs_of_rank h dir x))) ∙ sym (flat_map-append (arcs_of_rank h dir) done (x ∷ [])) in
    subst (λ (arcs : List Shortcut). AddsSomeOf arcs a c) all (some_then (arcs_of_ranks h dir done) (arcs_of_rank h dir x) a b c some more)

pub in_sweeps : (h : HierarchyValue) (from to : ℕ) (a b c : List Shortcut) → AddsSomeOf (arcs_up h from) a b → AddsSomeOf (arcs_down h to) b c → AddsInSweeps h from to a c
in_sweeps h from to a b c up down = record {
  arcs = up.some ++ down.some;
  are = record { ups = up.some; downs = down.some; parts = refl; up = up.are; down = down.are };
  added = down.added ∙ ap (λ (xs : List Shortcut). xs ++ down.some) up.added ∙ append_assoc a up.some down.some;
}

pub no_legs : (h : HierarchyValue) (rank : ℕ) (dir : Dir) (from : ℕ) (told : List Shortcut) → AddsLegs h rank dir from from told told
no_legs h rank dir from told = record { arcs = []; leads = refl; added = sym (append-nil told) }

pub one_leg : (h : HierarchyValue) (rank : ℕ) (dir : Dir) (from mid to : ℕ) (a b c : List Shortcut) (edge : ℕ) → AddsLegs h rank dir from mid a b
    → IsLegOf h rank dir (arc_by dir edge) mid to → c ≡ b ++ (arc_by dir edge ∷ []) → AddsLegs h rank dir from to a c
one_leg h rank dir from mid to a b c edge legs leg made = record {
  arcs = legs.arcs ++ (arc_by dir edge ∷ []);
  leads = lead_more h rank dir from legs.arcs mid (arc_by dir edge) to legs.leads leg;
  added = made ∙ ap (λ (xs : List Shortcut). xs ++ (arc_by dir edge ∷ [])) legs.added ∙ append_assoc a legs.arcs (arc_by dir edge ∷ []);
}

module _ (h : HierarchyValue) (from to : ℕ) (a b c : List Shortcut) where
  pub way_of : (top last : ℕ) → AddsLegs h from Up from top a b → AddsLegs h to Down top last b c → AddsWay h from to a c
  way_of top last up down = record {
    arcs = up.arcs ++ down.arcs;
    are = record { ups = up.arcs; downs = down.arcs; top = top; last = last; parts = refl; up = up.leads; down = down.leads };
    added = down.added ∙ ap (λ (xs : List Shortcut). xs ++ down.arcs) up.added ∙ append_assoc a up.arcs down.arcs;
  }

  -- a way, and then the day that isn't led
  pub led_over : AddsWay h from to a b → AddsSweepArcs (graph_of h) from to b c → AddsLedArcs h from to a c
  led_over way made = record {
    way = way.arcs;
    led = [];
    driven = way.are;
    some = record { ups = []; downs = []; parts = refl; up = some_none _; down = some_none _ };
    over = inr (subst (λ (told : List Shortcut). AddsSweepArcs (graph_of h) from to told c)
        (way.added ∙ ap (λ (xs : List Shortcut). a ++ xs) (sym (append-nil way.arcs))) made);
  }

  -- a way, and then sweeps to a limit
  pub led_within : AddsWay h from to a b → AddsLimited h from to b c → AddsLedArcs h from to a c
  led_within way limited =
      let before : b ++ limited.arcs ≡ a ++ (way.arcs ++ limited.arcs) =
      ap (λ (xs : List Shortcut). xs ++ limited.arcs) way.added ∙ append_assoc a way.arcs limited.arcs in
      record {
        way = way.arcs;
        led = limited.arcs;
        driven = way.are;
        some = limited.are;
        over = elim limited.over [
          | inl is ↦ inl (is ∙ before)
          | inr made ↦ inr (subst (λ (told : List Shortcut). AddsSweepArcs (graph_of h) from to told c) before made)
        ];
      }

  -- some arcs of two sweeps, and then the day that isn't led
  pub limited_over : AddsInSweeps h from to a b → AddsSweepArcs (graph_of h) from to b c → AddsLimited h from to a c
  limited_over some made = record {
    arcs = some.arcs;
    are = some.are;
    over = inr (subst (λ (told : List Shortcut). AddsSweepArcs (graph_of h) from to told c) some.added made);
  }

pub limited_done : (h : HierarchyValue) (from to : ℕ) (a b : List Shortcut) → AddsInSweeps h from to a b → AddsLimited h from to a b
limited_done h from to a b some = record { arcs = some.arcs; are = some.are; over = inl some.added }
