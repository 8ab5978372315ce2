-- The calls of a way that is driven, and of a led query.
use Rattle.std.proofs.Common.{◌≡◌, ◌<◌, ℕ, List, [], ◌∷◌, ◌++◌, Option, length, refl, sym, subst, arith, inl, inr, map, append_assoc, reverse}
use Rattle.std.specs.List.{Contains}
use Rattle.std.proofs.lemmas.List.{append-nil, map-append}
use Rattle.std.proofs.lemmas.Option.{slice_get_within}
use Rattle.cu_chordal.specs.Graphs.{ChordalValue}
use Rattle.cu_chordal.proofs.Members.{member_at}
use Rattle.cu_elimtree.specs.SweepArcs.{ancestors_in}
use Rattle.cu_interval.specs.declared.ways.Dir.{Dir}
use Rattle.cu_interval.specs.declared.ways.Dir.TheVariants.{Up, Down}
use Rattle.cu_interval.specs.declared.relaxing.Call.{Call}
use Rattle.cu_interval.specs.declared.shortcuts.Shortcut.{Shortcut}
use Rattle.cu_interval.specs.Hierarchies.{HierarchyValue, IsHierarchy, graph_of}
use Rattle.cu_interval.proofs.EndsLaws.{ends_range}
use Rattle.cu_sweep.specs.LedCalls.{AddsLed, AddsSome, AddsWay, IsLegOf, LeadOn, LeadsFrom, arc_by, arc_of, arcs_down, arcs_up}
use Rattle.cu_sweep.specs.Labels.{call_from}
use Rattle.cu_sweep.specs.Sweeps.{AddsAll, sweep_calls, until_long}
use Rattle.cu_sweep.specs.Swept.{Makes}
use Rattle.cu_sweep.specs.Steps.Made.{Led, down_calls_of, up_calls_of}
use Rattle.cu_sweep.specs.Steps.Driving.{AddsLegs, AddsLegsOn, AddsLimited, Tries}
use Rattle.cu_sweep.proofs.Ancestry.{ancestors_upwards}
use Rattle.cu_sweep.proofs.SomeArcs.{down_some, some_none, until_some, up_some}
use Rattle.cu_sweep.proofs.Telling.{adds_none, adds_then}
use Rattle.cu_sweep.proofs.Ways.{lead_more}

pub no_legs : (h : HierarchyValue) (rank : ℕ) (dir : Dir) (from : ℕ) (told : Option (List Call)) → AddsLegs h rank dir from from told told
no_legs h rank dir from told = record { calls = []; leads = refl; added = adds_none told }

module _ (h : HierarchyValue) (rank : ℕ) (dir : Dir) (from mid to : ℕ) (a b c : Option (List Call)) (edge second : ℕ) where
  -- a call along one arc more
  pub one_leg : AddsLegs h rank dir from mid a b → IsLegOf h rank dir (arc_by dir edge) mid to → AddsAll b c (call_from edge dir second ∷ [])
      → AddsLegs h rank dir from to a c
  one_leg legs leg made = record {
    calls = legs.calls ++ (call_from edge dir second ∷ []);
    leads = subst (λ arcs. LeadOn h rank dir from arcs to) (sym (map-append arc_of legs.calls (call_from edge dir second ∷ [])))
        (lead_more h rank dir from (map arc_of legs.calls) mid (arc_by dir edge) to legs.leads leg);
    added = adds_then a b c legs.calls (call_from edge dir second ∷ []) legs.added made;
  }

  -- the same where it may not have been made
  pub tried_leg : AddsLegs h rank dir from mid a b → IsLegOf h rank dir (arc_by dir edge) mid to → Tries b c (call_from edge dir second)
      → AddsLegsOn h rank dir from a c
  tried_leg legs leg (inl none) = (
    mid,
    record {
      calls = legs.calls;
      leads = legs.leads;
      added = subst (AddsAll a c) (append-nil legs.calls) (adds_then a b c legs.calls [] legs.added none);
    },
  )
  tried_leg legs leg (inr made) = (to, one_leg legs leg made)

-- an edge up from an ancestor of a rank is a leg of it, and leads to an ancestor
pub up_leg : (h : HierarchyValue) → IsHierarchy h → (graph : ChordalValue) → graph ≡ graph_of h → (rank from to edge : ℕ) → Contains (ancestors_in (graph_of h) rank) from
    → LeadsFrom graph edge Up from to → IsLegOf h rank Up (arc_by Up edge) from to
up_leg h f graph same rank from to edge above leads =
    let at = subst (λ (v : ChordalValue). LeadsFrom v edge Up from to) same leads in
    record {
      ends = at.ends;
      at = at.at;
      along = refl;
      start = at.start;
      end = at.end;
      swept = (subst (Contains (ancestors_in (graph_of h) rank)) (sym at.start) above, member_at h.edges at.ends edge at.at);
    }

pub leg_above : (h : HierarchyValue) → IsHierarchy h → (rank from to edge : ℕ) → IsLegOf h rank Up (arc_by Up edge) from to → Contains (ancestors_in (graph_of h) rank) to
leg_above h f rank from to edge leg =
    subst (Contains (ancestors_in (graph_of h) rank)) leg.end
    (ancestors_upwards (graph_of h) f.graph rank leg.ends.low leg.ends.high leg.swept.0 leg.swept.1)

-- where legs lead
pub up_range : (h : HierarchyValue) → IsHierarchy h → (rank from to : ℕ) (arc : Shortcut) → IsLegOf h rank Up arc from to → (from < to) × (to < h.network.nodes)
up_range h f rank from to arc leg =
    let range = ends_range h f arc.edge leg.ends leg.at in
    let start = leg.start in
    let end = leg.end in
    (omega (arith, range.0, start, end), omega (arith, range.1, end))

pub down_range : (h : HierarchyValue) → IsHierarchy h → (rank from to : ℕ) (arc : Shortcut) → IsLegOf h rank Down arc from to → to < from
down_range h f rank from to arc leg =
    let range = ends_range h f arc.edge leg.ends leg.at in
    let start = leg.start in
    let end = leg.end in
    omega (arith, range.0, start, end)

pub leg_edge : (h : HierarchyValue) (rank : ℕ) (dir : Dir) (arc : Shortcut) (from to : ℕ) → IsLegOf h rank dir arc from to → arc.edge < length h.edges
leg_edge h rank dir arc from to leg = slice_get_within h.edges arc.edge leg.ends leg.at

-- an edge down to an ancestor of a rank is a leg of it
pub down_leg : (h : HierarchyValue) (graph : ChordalValue) → graph ≡ graph_of h → (rank from to edge : ℕ) → Contains (ancestors_in graph rank) to
    → LeadsFrom graph edge Down from to → IsLegOf h rank Down (arc_by Down edge) from to
down_leg h graph same rank from to edge above leads =
    let at = subst (λ (v : ChordalValue). LeadsFrom v edge Down from to) same leads in
    let within = subst (λ (v : ChordalValue). Contains (ancestors_in v rank) to) same above in
    record {
      ends = at.ends;
      at = at.at;
      along = refl;
      start = at.start;
      end = at.end;
      swept = (subst (Contains (ancestors_in (graph_of h) rank)) (sym at.end) within, member_at h.edges at.ends edge at.at);
    }

module _ (h : HierarchyValue) (from to : ℕ) (a b c : Option (List Call)) where
  -- a way up, and then down
  pub way_of : (top last : ℕ) → AddsLegs h from Up from top a b → AddsLegs h to Down top last b c → AddsWay h from to a c
  way_of top last up down = record {
    way = up.calls ++ down.calls;
    driven = record {
      ups = map arc_of up.calls;
      downs = map arc_of down.calls;
      top = top;
      last = last;
      parts = map-append arc_of up.calls down.calls;
      up = up.leads;
      down = down.leads;
    };
    added = adds_then a b c up.calls down.calls up.added down.added;
  }

  module _ (second : ℕ) where
    -- a way, and then the query that isn't led
    pub led_over : AddsWay h from to a b → AddsAll b c (until_long h (sweep_calls h from to second)) → AddsLed h from to second a c
    led_over driven made = record {
      way = driven.way;
      led = [];
      rest = until_long h (sweep_calls h from to second);
      driven = driven.driven;
      some = record { ups = []; downs = []; parts = refl; up = some_none _; down = some_none _ };
      over = inr refl;
      added = subst (λ (calls : List Call). AddsAll a c (calls ++ until_long h (sweep_calls h from to second))) (sym (append-nil driven.way))
          (adds_then a b c driven.way (until_long h (sweep_calls h from to second)) driven.added made);
    }

    -- a way, and then a sweep to a limit
    pub led_within : AddsWay h from to a b → AddsLimited h from to second b c → AddsLed h from to second a c
    led_within driven limited = record {
      way = driven.way;
      led = limited.led;
      rest = limited.rest;
      driven = driven.driven;
      some = limited.some;
      over = limited.over;
      added = subst (AddsAll a c) (sym (append_assoc driven.way limited.led limited.rest))
          (adds_then a b c driven.way (limited.led ++ limited.rest) driven.added limited.added);
    }

    -- some calls of two sweeps, and then the query that isn't led
    pub limited_over : AddsSome h from to a b → AddsAll b c (until_long h (sweep_calls h from to second)) → AddsLimited h from to second a c
    limited_over some made = record {
      led = some.calls;
      rest = until_long h (sweep_calls h from to second);
      some = some.some;
      over = inr refl;
      added = adds_then a b c some.calls (until_long h (sweep_calls h from to second)) some.added made;
    }

pub limited_done : (h : HierarchyValue) (from to second : ℕ) (a b : Option (List Call)) → AddsSome h from to a b → AddsLimited h from to second a b
limited_done h from to second a b some = record {
  led = some.calls;
  rest = [];
  some = some.some;
  over = inl refl;
  added = subst (AddsAll a b) (sym (append-nil some.calls)) some.added;
}

module _ (h : HierarchyValue) (f : IsHierarchy h) (q : Led) (from to : ℕ) (a b : Option (List Call)) (long : Option Call) where
  abbrev ups_made : List Call
  ups_made = up_calls_of h q (ancestors_in (graph_of h) from)

  abbrev downs_made : List Call
  downs_made = down_calls_of h q (reverse (ancestors_in (graph_of h) to))

  -- an upward sweep alone
  pub risen_some : Makes h ups_made a b long → AddsSome h from to a b
  risen_some made = record {
    calls = until_long h ups_made;
    some = record {
      ups = map arc_of (until_long h ups_made);
      downs = [];
      parts = sym (append-nil (map arc_of (until_long h ups_made)));
      up = until_some h (arcs_up h from) ups_made (up_some h f q (ancestors_in (graph_of h) from));
      down = some_none (arcs_down h to);
    };
    added = made.told;
  }

  -- and a downward one
  pub fallen_some : (c : Option (List Call)) (last : Option Call) → Makes h ups_made a b long → Makes h downs_made b c last → AddsSome h from to a c
  fallen_some c last up down = record {
    calls = until_long h ups_made ++ until_long h downs_made;
    some = record {
      ups = map arc_of (until_long h ups_made);
      downs = map arc_of (until_long h downs_made);
      parts = map-append arc_of (until_long h ups_made) (until_long h downs_made);
      up = until_some h (arcs_up h from) ups_made (up_some h f q (ancestors_in (graph_of h) from));
      down = until_some h (arcs_down h to) downs_made (down_some h f q (reverse (ancestors_in (graph_of h) to)));
    };
    added = adds_then a b c (until_long h ups_made) (until_long h downs_made) up.told down.told;
  }
