use Rattle.std.proofs.Common.{◌≡◌, ◌<◌, ◌∙◌, ℕ, List, Option, Some, None, refl, sym, ap, subst, arith}
use Rattle.std.specs.Prelude.{All}
use Rattle.std.specs.List.{AllPairs, Contains, range_with_len}
use Rattle.cu_chordal.specs.Graphs.{ChordalValue, IsChordal}
use Rattle.cu_chordal.proofs.Tables.{edge_within}
use Rattle.cu_elimtree.specs.SweepArcs.{parents_in}
use Rattle.cu_interval.specs.declared.relaxing.Call.{Call}
use Rattle.cu_interval.specs.Hierarchies.{HierarchyValue}
use Rattle.cu_sweep.specs.Sweeps.{up_calls}
use Rattle.cu_sweep.specs.Swept.{IsSweptDown, IsSweptUp, Makes, Sweep, path_calls}
use Rattle.cu_sweep.specs.ToAll.{down_calls_to_all}
use Rattle.cu_sweep.proofs.AllRanks.{all_below, all_rise, all_there, reach_makes, reach_reaches, times_least}
use Rattle.cu_sweep.proofs.Passing.{tree_long}
use Rattle.cu_sweep.proofs.Telling.{makes_ends}
use Rattle.cu_sweep.proofs.labels.Labels.reach_all.Goals as goal

pub begin-requires-clause-from : goal.begin-requires-clause-from
begin-requires-clause-from g c =
    let long = tree_long c.args.graph.now c.args.tree.now c.requires.tree in
    let from = c.requires.from in
    omega (arith, long, from)

pub begin-requires-clause-path : goal.begin-requires-clause-path
begin-requires-clause-path g c =
    let graph = c.args.graph.now in
    subst (λ (n : ℕ). All (λ rank. rank < n) c.args.ranks.now) (sym (tree_long graph c.args.tree.now c.requires.tree))
    (subst (All (λ rank. rank < graph.ranks)) (sym c.requires.ranks) (all_below graph.ranks))

pub begin-requires-clause-nodes : goal.begin-requires-clause-nodes
begin-requires-clause-nodes g c = c.requires.nodes ∙ sym (tree_long c.args.graph.now c.args.tree.now c.requires.tree)

pub sweep_down-requires-clause-path : goal.sweep_down-requires-clause-path
sweep_down-requires-clause-path g c =
    let n = c.args.graph.now.ranks in
    subst (All (λ rank. rank < n)) (sym c.requires.ranks) (all_below n)

pub sweep_down-requires-clause-rising : goal.sweep_down-requires-clause-rising
sweep_down-requires-clause-rising g c = subst (AllPairs (λ a b. a < b)) (sym c.requires.ranks) (all_rise c.args.graph.now.ranks)

pub sweep_down-requires-clause-upwards : goal.sweep_down-requires-clause-upwards
sweep_down-requires-clause-upwards g c low high member edge =
    let graph = c.args.graph.now in
    let chordal = subst (λ (v : ChordalValue). IsChordal v) (sym c.requires.graph.0) c.requires.graph.1.graph in
    subst (λ (xs : List ℕ). Contains xs high) (sym c.requires.ranks) (all_there graph.ranks high (edge_within graph chordal low high edge).1)

pub returns-in-Some-clause-makes : goal.returns-in-Some-clause-makes
returns-in-Some-clause-makes g c =
    let h = g.R.Relaxer.hierarchy c.args.relaxer.now in
    let from = c.args.from in
    let second = c.args.second in
    let a = g.R.Relaxer.calls c.args.relaxer.now in
    let b = g.R.Relaxer.calls c.sweep_up.new.relaxer in
    let q : Sweep = record { from = from; second = second; path = c.args.ranks.now } in
    let begun = c.begin.ensures.begun h (c.requires.tree ∙ ap parents_in c.requires.graph.0) in
    makes_ends h a b (up_calls h from second) (down_calls_to_all h from second) c.in-Some.call (c.in-Some.ensures.makes q refl begun)

pub returns-in-Some-clause-least : goal.returns-in-Some-clause-least
returns-in-Some-clause-least g c =
    let h = g.R.Relaxer.hierarchy c.args.relaxer.now in
    let from = c.args.from in
    let second = c.args.second in
    let a = g.R.Relaxer.calls c.args.relaxer.now in
    let b = g.R.Relaxer.calls c.sweep_up.new.relaxer in
    let q : Sweep = record { from = from; second = second; path = c.args.ranks.now } in
    let begun = c.begin.ensures.begun h (c.requires.tree ∙ ap parents_in c.requires.graph.0) in
    let made = makes_ends h a b (up_calls h from second) (down_calls_to_all h from second) c.in-Some.call (c.in-Some.ensures.makes q refl begun) in
    let ranks : c.args.graph.now.ranks ≡ h.network.nodes = ap (λ (v : ChordalValue). v.ranks) c.requires.graph.0 in
    let lt = c.requires.from in
    times_least h from second (omega (arith, lt, ranks)) c.requires.second a b (Some c.in-Some.call) c.sweep_up.new.self made (λ none. absurd (cc none))

pub returns-clause-makes : goal.returns-clause-makes
returns-clause-makes g c =
    let h = g.R.Relaxer.hierarchy c.args.relaxer.now in
    let from = c.args.from in
    let second = c.args.second in
    let ranks = c.args.ranks.now in
    let a = g.R.Relaxer.calls c.args.relaxer.now in
    let b = g.R.Relaxer.calls c.sweep_up.new.relaxer in
    let d = g.R.Relaxer.calls c.sweep_down.new.relaxer in
    let before = c.sweep_up.new.self in
    let q : Sweep = record { from = from; second = second; path = ranks } in
    let begun = c.begin.ensures.begun h (c.requires.tree ∙ ap parents_in c.requires.graph.0) in
    let none : c.sweep_up.result ≡ None = c.in_default.is in
    let up : Makes h (up_calls h from second) a b None = subst (λ (o : Option Call). Makes h (up_calls h from second) a b o) none (c.sweep_up.ensures.makes q refl begun) in
    let makes = subst (λ (v : HierarchyValue). (r : Sweep) → r.path ≡ ranks → IsSweptUp v r before → Makes v (path_calls v r) b d c.sweep_down.result)
    c.sweep_up.ensures.stays c.sweep_down.ensures.makes in
    let same : ranks ≡ range_with_len 0 h.network.nodes = c.requires.ranks ∙ ap (λ (v : ChordalValue). range_with_len 0 v.ranks) c.requires.graph.0 in
    reach_makes h from second ranks same before c.sweep_down.new.self a b d c.sweep_down.result up (c.sweep_up.ensures.swept q refl begun none) makes

pub returns-clause-reached : goal.returns-clause-reached
returns-clause-reached g c =
    let h = g.R.Relaxer.hierarchy c.args.relaxer.now in
    let from = c.args.from in
    let second = c.args.second in
    let ranks = c.args.ranks.now in
    let before = c.sweep_up.new.self in
    let now = c.sweep_down.new.self in
    let q : Sweep = record { from = from; second = second; path = ranks } in
    let begun = c.begin.ensures.begun h (c.requires.tree ∙ ap parents_in c.requires.graph.0) in
    let falls = subst (λ (v : HierarchyValue). (r : Sweep) → r.path ≡ ranks → IsSweptUp v r before → c.sweep_down.result ≡ None → IsSweptDown v r now)
    c.sweep_up.ensures.stays c.sweep_down.ensures.swept in
    let same : ranks ≡ range_with_len 0 h.network.nodes = c.requires.ranks ∙ ap (λ (v : ChordalValue). range_with_len 0 v.ranks) c.requires.graph.0 in
    reach_reaches h from second ranks same before now c.sweep_down.result (c.sweep_up.ensures.swept q refl begun c.in_default.is) falls

pub returns-clause-least : goal.returns-clause-least
returns-clause-least g c =
    let h = g.R.Relaxer.hierarchy c.args.relaxer.now in
    let from = c.args.from in
    let second = c.args.second in
    let ranks = c.args.ranks.now in
    let a = g.R.Relaxer.calls c.args.relaxer.now in
    let b = g.R.Relaxer.calls c.sweep_up.new.relaxer in
    let d = g.R.Relaxer.calls c.sweep_down.new.relaxer in
    let before = c.sweep_up.new.self in
    let now = c.sweep_down.new.self in
    let q : Sweep = record { from = from; second = second; path = ranks } in
    let begun = c.begin.ensures.begun h (c.requires.tree ∙ ap parents_in c.requires.graph.0) in
    let none : c.sweep_up.result ≡ None = c.in_default.is in
    let up : Makes h (up_calls h from second) a b None = subst (λ (o : Option Call). Makes h (up_calls h from second) a b o) none (c.sweep_up.ensures.makes q refl begun) in
    let swept = c.sweep_up.ensures.swept q refl begun none in
    let makes = subst (λ (v : HierarchyValue). (r : Sweep) → r.path ≡ ranks → IsSweptUp v r before → Makes v (path_calls v r) b d c.sweep_down.result)
    c.sweep_up.ensures.stays c.sweep_down.ensures.makes in
    let falls = subst (λ (v : HierarchyValue). (r : Sweep) → r.path ≡ ranks → IsSweptUp v r before → c.sweep_down.result ≡ None → IsSweptDown v r now)
    c.sweep_up.ensures.stays c.sweep_down.ensures.swept in
    let nodes : c.args.graph.now.ranks ≡ h.network.nodes = ap (λ (v : ChordalValue). v.ranks) c.requires.graph.0 in
    let same : ranks ≡ range_with_len 0 h.network.nodes = c.requires.ranks ∙ ap (range_with_len 0) nodes in
    let made = reach_makes h from second ranks same before now a b d c.sweep_down.result up swept makes in
    let reached = reach_reaches h from second ranks same before now c.sweep_down.result swept falls in
    let lt = c.requires.from in
    times_least h from second (omega (arith, lt, nodes)) c.requires.second a d c.sweep_down.result now made reached
