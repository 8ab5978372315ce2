use Rattle.std.proofs.Common.{◌≡◌, ◌≤◌, ◌<◌, ◌+◌, ◌∙◌, ℕ, List, Some, None, refl, sym, ap, subst, arith, reverse, rules}
use Rattle.std.specs.Prelude.{All}
use Rattle.std.specs.List.{AllPairs, Contains}
use Rattle.std.proofs.lemmas.List.Elements.{All-contains}
use Rattle.cu_chordal.specs.Graphs.{ChordalValue, HasEdge, IsChordal}
use Rattle.cu_elimtree.specs.SweepArcs.{ancestors_in, parents_in}
use Rattle.cu_interval.specs.Hierarchies.{HierarchyValue, graph_of}
use Rattle.cu_sweep.specs.declared.finding.Found.TheVariants.{Arrive}
use Rattle.cu_sweep.specs.Desks.{HoldsFound}
use Rattle.cu_sweep.specs.Sweeps.{found}
use Rattle.cu_sweep.specs.Swept.{IsClosed, Makes, desk_of}
use Rattle.cu_sweep.specs.Steps.Ahead.{LeadsUp, ahead_of, is_in_time}
use Rattle.cu_sweep.specs.Steps.Made.{IsMadeDown, IsMadeUp, Led, down_calls_of}
use Rattle.cu_sweep.proofs.Ancestry.{ancestors_ranks, ancestors_rising, ancestors_upwards, own_ancestor}
use Rattle.cu_sweep.proofs.Driven.{fallen_some, risen_some}
use Rattle.cu_sweep.proofs.GoalLaws.{IsPlaced}
use Rattle.cu_sweep.proofs.Passing.{tree_long}
use Rattle.cu_sweep.proofs.Placed.{found_in_time, holds_in_time, if_some_then, in_time_falls, in_time_leads, placed}
use Rattle.cu_sweep.proofs.Readying.{chain_keeps}
use Rattle.cu_sweep.proofs.Rows.{no_call}
use Rattle.cu_sweep.proofs.leading.sweep_in_time.Goals as goal

pub begin-requires-clause-from : goal.begin-requires-clause-from
begin-requires-clause-from g c =
    let long = tree_long c.args.graph.now c.args.tree.now c.requires.tree in
    let from = c.requires.from in
    omega (arith, long, from)

pub begin-requires-clause-path : goal.begin-requires-clause-path
begin-requires-clause-path g c =
    let graph = c.args.graph.now in
    let chordal = subst (λ (v : ChordalValue). IsChordal v) (sym c.requires.graph.0) c.requires.graph.1.graph in
    let below = ancestors_ranks graph chordal c.args.goal.question.to c.requires.to in
    subst (λ (n : ℕ). All (λ rank. rank < n) c.args.path.now) (sym (tree_long graph c.args.tree.now c.requires.tree))
    (subst (All (λ rank. rank < graph.ranks)) (sym c.requires.path) below)

pub begin-requires-clause-nodes : goal.begin-requires-clause-nodes
begin-requires-clause-nodes g c = c.requires.labels ∙ sym (tree_long c.args.graph.now c.args.tree.now c.requires.tree)

pub rise-requires-clause-leads : goal.rise-requires-clause-leads
rise-requires-clause-leads g c =
    let h = g.R.Relaxer.hierarchy c.args.relaxer.now in
    let p = c.args.goal.question in
    let limits = c.args.goal.limits in
    let ranks : c.args.graph.now.ranks ≡ h.network.nodes = ap (λ (v : ChordalValue). v.ranks) c.requires.graph.0 in
    subst (λ (v : ChordalValue). All (LeadsUp h (is_in_time limits.up.now limits.down.now limits.by)) (ancestors_in v p.from)) (sym c.requires.graph.0)
    (in_time_leads h c.requires.graph.1 p.from p.to limits.by limits.up.now limits.down.now (c.requires.places ∙ ranks) c.requires.ahead)

pub fall-requires-clause-falls : goal.fall-requires-clause-falls
fall-requires-clause-falls g c = in_time_falls c.args.goal.limits.up.now c.args.goal.limits.down.now c.args.goal.limits.by

pub fall-requires-clause-path : goal.fall-requires-clause-path
fall-requires-clause-path g c =
    let graph = c.args.graph.now in
    let chordal = subst (λ (v : ChordalValue). IsChordal v) (sym c.requires.graph.0) c.requires.graph.1.graph in
    subst (All (λ rank. rank < graph.ranks)) (sym c.requires.path) (ancestors_ranks graph chordal c.args.goal.question.to c.requires.to)

pub fall-requires-clause-rising : goal.fall-requires-clause-rising
fall-requires-clause-rising g c =
    let graph = c.args.graph.now in
    let chordal = subst (λ (v : ChordalValue). IsChordal v) (sym c.requires.graph.0) c.requires.graph.1.graph in
    subst (AllPairs (λ a b. a < b)) (sym c.requires.path) (ancestors_rising graph chordal c.args.goal.question.to)

pub fall-requires-clause-upwards : goal.fall-requires-clause-upwards
fall-requires-clause-upwards g c =
    let graph = c.args.graph.now in
    let chordal = subst (λ (v : ChordalValue). IsChordal v) (sym c.requires.graph.0) c.requires.graph.1.graph in
    subst (λ (xs : List ℕ). (low high : ℕ) → Contains xs low → HasEdge graph.edges low high → Contains xs high) (sym c.requires.path)
    (ancestors_upwards graph chordal c.args.goal.question.to)

pub returns-clause-found : goal.returns-clause-found
returns-clause-found g c =
    let h = g.R.Relaxer.hierarchy c.args.relaxer.now in
    let p = c.args.goal.question in
    let up = c.args.goal.limits.up.now in
    let down = c.args.goal.limits.down.now in
    let by = c.args.goal.limits.by in
    let path = c.args.path.now in
    let q : Led = record { from = p.from; second = p.second; path = path; allows = is_in_time up down by } in
    let sound = c.requires.graph.1 in
    let ranks : c.args.graph.now.ranks ≡ h.network.nodes = ap (λ (v : ChordalValue). v.ranks) c.requires.graph.0 in
    let below = c.requires.to in
    let within : p.to < h.network.nodes = omega (arith, below, ranks) in
    let is : path ≡ ancestors_in (graph_of h) p.to = c.requires.path ∙ ap (λ (v : ChordalValue). ancestors_in v p.to) c.requires.graph.0 in
    let closed : IsClosed h path = subst (IsClosed h) (sym is) (ancestors_upwards (graph_of h) sound.graph p.to) in
    let above : (x : ℕ) → Contains path x → x < h.network.nodes =
    λ x m. All-contains (λ r. r < h.network.nodes) path x (subst (All (λ r. r < h.network.nodes)) (sym is) (ancestors_ranks (graph_of h) sound.graph p.to within)) m in
    let at : IsPlaced h q p.to by (ahead_of up down) = placed h sound q p.to by up down (c.requires.places ∙ ranks) is above refl c.requires.ahead in
    let begun = c.begin.ensures.begun h (c.requires.tree ∙ ap parents_in c.requires.graph.0) in
    let none : c.rise.result ≡ None = no_call c.rise.result (search rules) in
    let risen : IsMadeUp h q c.rise.new.self = c.rise.ensures.swept q refl refl begun none in
    let falls = subst (λ (v : HierarchyValue). (r : Led) → r.path ≡ path → r.allows ≡ is_in_time up down by → IsMadeUp v r c.rise.new.self → c.fall.result ≡ None
    → IsMadeDown v r c.fall.new.self) c.rise.ensures.stays c.fall.ensures.swept in
    let quiet : c.fall.result ≡ None = no_call c.fall.result (search rules) in
    let member : Contains path p.to = subst (λ (xs : List ℕ). Contains xs p.to) (sym is) (own_ancestor (graph_of h) p.to within) in
    let reached = falls q refl refl risen quiet p.to member in
    if_some_then c.in_time.result (λ arrival. (c.second.result ≡ Some arrival) × (arrival ≤ by)) (λ arrival. Arrive arrival ≡ found h p.from p.to p.second)
    (λ arrival both.
    found_in_time h sound c.requires.short q closed p.to by (ahead_of up down) at member c.fall.new.self reached arrival (sym c.second.ensures ∙ both.0) both.1)
    c.in_time.ensures

pub returns-clause-holds : goal.returns-clause-holds
returns-clause-holds g c =
    let h = g.R.Relaxer.hierarchy c.args.relaxer.now in
    let p = c.args.goal.question in
    let up = c.args.goal.limits.up.now in
    let down = c.args.goal.limits.down.now in
    let by = c.args.goal.limits.by in
    let path = c.args.path.now in
    let q : Led = record { from = p.from; second = p.second; path = path; allows = is_in_time up down by } in
    let sound = c.requires.graph.1 in
    let ranks : c.args.graph.now.ranks ≡ h.network.nodes = ap (λ (v : ChordalValue). v.ranks) c.requires.graph.0 in
    let below = c.requires.to in
    let within : p.to < h.network.nodes = omega (arith, below, ranks) in
    let is : path ≡ ancestors_in (graph_of h) p.to = c.requires.path ∙ ap (λ (v : ChordalValue). ancestors_in v p.to) c.requires.graph.0 in
    let closed : IsClosed h path = subst (IsClosed h) (sym is) (ancestors_upwards (graph_of h) sound.graph p.to) in
    let above : (x : ℕ) → Contains path x → x < h.network.nodes =
    λ x m. All-contains (λ r. r < h.network.nodes) path x (subst (All (λ r. r < h.network.nodes)) (sym is) (ancestors_ranks (graph_of h) sound.graph p.to within)) m in
    let at : IsPlaced h q p.to by (ahead_of up down) = placed h sound q p.to by up down (c.requires.places ∙ ranks) is above refl c.requires.ahead in
    let begun = c.begin.ensures.begun h (c.requires.tree ∙ ap parents_in c.requires.graph.0) in
    let none : c.rise.result ≡ None = no_call c.rise.result (search rules) in
    let risen : IsMadeUp h q c.rise.new.self = c.rise.ensures.swept q refl refl begun none in
    let falls = subst (λ (v : HierarchyValue). (r : Led) → r.path ≡ path → r.allows ≡ is_in_time up down by → IsMadeUp v r c.rise.new.self → c.fall.result ≡ None
    → IsMadeDown v r c.fall.new.self) c.rise.ensures.stays c.fall.ensures.swept in
    let quiet : c.fall.result ≡ None = no_call c.fall.result (search rules) in
    let member : Contains path p.to = subst (λ (xs : List ℕ). Contains xs p.to) (sym is) (own_ancestor (graph_of h) p.to within) in
    let reached = falls q refl refl risen quiet p.to member in
    let labels = c.fall.new.self in
    if_some_then c.in_time.result (λ arrival. (c.second.result ≡ Some arrival) × (arrival ≤ by))
    (λ arrival. HoldsFound h p.from p.to p.second (Arrive arrival) (desk_of labels (labels.nodes + p.to)))
    (λ arrival both.
    holds_in_time h sound c.requires.short q closed p.to by (ahead_of up down) at member labels reached arrival (sym c.second.ensures ∙ both.0) both.1
    (c.fall.ensures.kept chain_keeps) c.fall.ensures.unturned)
    c.in_time.ensures

pub returns-then-is_some-clause-told : goal.returns-then-is_some-clause-told
returns-then-is_some-clause-told g c =
    let h = g.R.Relaxer.hierarchy c.args.relaxer.now in
    let p = c.args.goal.question in
    let up = c.args.goal.limits.up.now in
    let down = c.args.goal.limits.down.now in
    let by = c.args.goal.limits.by in
    let path = c.args.path.now in
    let q : Led = record { from = p.from; second = p.second; path = path; allows = is_in_time up down by } in
    let sound = c.requires.graph.1 in
    let begun = c.begin.ensures.begun h (c.requires.tree ∙ ap parents_in c.requires.graph.0) in
    let risen = c.rise.ensures.makes q refl refl begun in
    risen_some h sound q p.from p.to (g.R.Relaxer.calls c.args.relaxer.now) (g.R.Relaxer.calls c.rise.new.relaxer) c.rise.result risen

pub returns-then-is_some-2-clause-told : goal.returns-then-is_some-2-clause-told
returns-then-is_some-2-clause-told g c =
    let h = g.R.Relaxer.hierarchy c.args.relaxer.now in
    let p = c.args.goal.question in
    let up = c.args.goal.limits.up.now in
    let down = c.args.goal.limits.down.now in
    let by = c.args.goal.limits.by in
    let path = c.args.path.now in
    let q : Led = record { from = p.from; second = p.second; path = path; allows = is_in_time up down by } in
    let sound = c.requires.graph.1 in
    let begun = c.begin.ensures.begun h (c.requires.tree ∙ ap parents_in c.requires.graph.0) in
    let risen = c.rise.ensures.makes q refl refl begun in
    let is : path ≡ ancestors_in (graph_of h) p.to = c.requires.path ∙ ap (λ (v : ChordalValue). ancestors_in v p.to) c.requires.graph.0 in
    let none : c.rise.result ≡ None = no_call c.rise.result (search rules) in
    let made : IsMadeUp h q c.rise.new.self = c.rise.ensures.swept q refl refl begun none in
    let before = g.R.Relaxer.calls c.rise.new.relaxer in
    let now = g.R.Relaxer.calls c.fall.new.relaxer in
    let falls = subst (λ (v : HierarchyValue). (r : Led) → r.path ≡ path → r.allows ≡ is_in_time up down by → IsMadeUp v r c.rise.new.self
    → Makes v (down_calls_of v r (reverse r.path)) before now c.fall.result) c.rise.ensures.stays c.fall.ensures.makes in
    let fallen = subst (λ (xs : List ℕ). Makes h (down_calls_of h q (reverse xs)) before now c.fall.result) is (falls q refl refl made) in
    fallen_some h sound q p.from p.to (g.R.Relaxer.calls c.args.relaxer.now) before c.rise.result now c.fall.result risen fallen

pub returns-clause-told : goal.returns-clause-told
returns-clause-told g c =
    let h = g.R.Relaxer.hierarchy c.args.relaxer.now in
    let p = c.args.goal.question in
    let up = c.args.goal.limits.up.now in
    let down = c.args.goal.limits.down.now in
    let by = c.args.goal.limits.by in
    let path = c.args.path.now in
    let q : Led = record { from = p.from; second = p.second; path = path; allows = is_in_time up down by } in
    let sound = c.requires.graph.1 in
    let begun = c.begin.ensures.begun h (c.requires.tree ∙ ap parents_in c.requires.graph.0) in
    let risen = c.rise.ensures.makes q refl refl begun in
    let is : path ≡ ancestors_in (graph_of h) p.to = c.requires.path ∙ ap (λ (v : ChordalValue). ancestors_in v p.to) c.requires.graph.0 in
    let none : c.rise.result ≡ None = no_call c.rise.result (search rules) in
    let made : IsMadeUp h q c.rise.new.self = c.rise.ensures.swept q refl refl begun none in
    let before = g.R.Relaxer.calls c.rise.new.relaxer in
    let now = g.R.Relaxer.calls c.fall.new.relaxer in
    let falls = subst (λ (v : HierarchyValue). (r : Led) → r.path ≡ path → r.allows ≡ is_in_time up down by → IsMadeUp v r c.rise.new.self
    → Makes v (down_calls_of v r (reverse r.path)) before now c.fall.result) c.rise.ensures.stays c.fall.ensures.makes in
    let fallen = subst (λ (xs : List ℕ). Makes h (down_calls_of h q (reverse xs)) before now c.fall.result) is (falls q refl refl made) in
    fallen_some h sound q p.from p.to (g.R.Relaxer.calls c.args.relaxer.now) before c.rise.result now c.fall.result risen fallen
