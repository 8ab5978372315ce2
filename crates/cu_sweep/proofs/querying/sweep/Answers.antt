use Rattle.std.proofs.Common.{◌≡◌, ◌<◌, ◌∙◌, ℕ, List, Option, Some, None, refl, sym, ap, subst, arith}
use Rattle.std.specs.Prelude.{All}
use Rattle.std.specs.List.{AllPairs, Contains}
use Rattle.cu_chordal.specs.Graphs.{ChordalValue, HasEdge, IsChordal}
use Rattle.cu_elimtree.specs.SweepArcs.{ancestors_in, parents_in}
use Rattle.cu_interval.specs.declared.relaxing.Call.{Call}
use Rattle.cu_interval.specs.Hierarchies.{HierarchyValue, graph_of}
use Rattle.cu_sweep.specs.Labels.{down_label}
use Rattle.cu_sweep.specs.Sweeps.{down_calls, second_of, up_calls}
use Rattle.cu_sweep.specs.Swept.{IsSweptDown, IsSweptUp, Makes, Sweep, path_calls}
use Rattle.cu_sweep.specs.Steps.Sweeping.{answer_by}
use Rattle.cu_sweep.proofs.Ancestry.{ancestors_ranks, ancestors_rising, ancestors_upwards, own_ancestor}
use Rattle.cu_sweep.proofs.Ending.{down_made, ends_down, ends_found, ends_up, holds_found}
use Rattle.cu_sweep.proofs.Passing.{tree_long}
use Rattle.cu_sweep.proofs.Readying.{chain_keeps}
use Rattle.cu_sweep.proofs.querying.sweep.Goals as goal

pub begin-requires-clause-from : goal.begin-requires-clause-from
begin-requires-clause-from g c =
    let long = tree_long c.args.graph.now c.args.tree.now c.requires.tree in
    let from = c.requires.ranks.0 in
    omega (arith, long, from)

pub begin-requires-clause-path : goal.begin-requires-clause-path
begin-requires-clause-path g c =
    let graph = c.args.graph.now in
    let chordal = subst (λ (v : ChordalValue). IsChordal v) (sym c.requires.graph.0) c.requires.graph.1.graph in
    let below = ancestors_ranks graph chordal c.args.question.to c.requires.ranks.1 in
    subst (λ (n : ℕ). All (λ rank. rank < n) c.args.path.now) (sym (tree_long graph c.args.tree.now c.requires.tree))
    (subst (All (λ rank. rank < graph.ranks)) (sym c.requires.path) below)

pub begin-requires-clause-nodes : goal.begin-requires-clause-nodes
begin-requires-clause-nodes g c = c.requires.labels ∙ sym (tree_long c.args.graph.now c.args.tree.now c.requires.tree)

pub sweep_down-requires-clause-path : goal.sweep_down-requires-clause-path
sweep_down-requires-clause-path g c =
    let graph = c.args.graph.now in
    let chordal = subst (λ (v : ChordalValue). IsChordal v) (sym c.requires.graph.0) c.requires.graph.1.graph in
    subst (All (λ rank. rank < graph.ranks)) (sym c.requires.path) (ancestors_ranks graph chordal c.args.question.to c.requires.ranks.1)

pub sweep_down-requires-clause-rising : goal.sweep_down-requires-clause-rising
sweep_down-requires-clause-rising g c =
    let graph = c.args.graph.now in
    let chordal = subst (λ (v : ChordalValue). IsChordal v) (sym c.requires.graph.0) c.requires.graph.1.graph in
    subst (AllPairs (λ a b. a < b)) (sym c.requires.path) (ancestors_rising graph chordal c.args.question.to)

pub sweep_down-requires-clause-upwards : goal.sweep_down-requires-clause-upwards
sweep_down-requires-clause-upwards g c =
    let graph = c.args.graph.now in
    let chordal = subst (λ (v : ChordalValue). IsChordal v) (sym c.requires.graph.0) c.requires.graph.1.graph in
    subst (λ (xs : List ℕ). (low high : ℕ) → Contains xs low → HasEdge graph.edges low high → Contains xs high) (sym c.requires.path)
    (ancestors_upwards graph chordal c.args.question.to)

pub returns-in-Some-clause-found : goal.returns-in-Some-clause-found
returns-in-Some-clause-found g c =
    let h = g.R.Relaxer.hierarchy c.args.relaxer.now in
    let a = g.R.Relaxer.calls c.args.relaxer.now in
    let b = g.R.Relaxer.calls c.sweep_up.new.relaxer in
    let p = c.args.question in
    let q : Sweep = record { from = p.from; second = p.second; path = c.args.path.now } in
    let begun = c.begin.ensures.begun h (c.requires.tree ∙ ap parents_in c.requires.graph.0) in
    (ends_up h p.from p.to p.second a b c.in-Some.call c.long_of.result (c.in-Some.ensures.makes q refl begun) c.long_of.ensures).found

pub returns-in-Some-clause-told : goal.returns-in-Some-clause-told
returns-in-Some-clause-told g c =
    let h = g.R.Relaxer.hierarchy c.args.relaxer.now in
    let a = g.R.Relaxer.calls c.args.relaxer.now in
    let b = g.R.Relaxer.calls c.sweep_up.new.relaxer in
    let p = c.args.question in
    let q : Sweep = record { from = p.from; second = p.second; path = c.args.path.now } in
    let begun = c.begin.ensures.begun h (c.requires.tree ∙ ap parents_in c.requires.graph.0) in
    (ends_up h p.from p.to p.second a b c.in-Some.call c.long_of.result (c.in-Some.ensures.makes q refl begun) c.long_of.ensures).told

pub returns-in-Some-sweep_down-clause-found : goal.returns-in-Some-sweep_down-clause-found
returns-in-Some-sweep_down-clause-found g c =
    let h = g.R.Relaxer.hierarchy c.args.relaxer.now in
    let a = g.R.Relaxer.calls c.args.relaxer.now in
    let b = g.R.Relaxer.calls c.sweep_up.new.relaxer in
    let d = g.R.Relaxer.calls c.sweep_down.new.relaxer in
    let p = c.args.question in
    let path = c.args.path.now in
    let q : Sweep = record { from = p.from; second = p.second; path = path } in
    let begun = c.begin.ensures.begun h (c.requires.tree ∙ ap parents_in c.requires.graph.0) in
    let none : c.sweep_up.result ≡ None = c.in_default.is in
    let up : Makes h (up_calls h p.from p.second) a b None =
    subst (λ (o : Option Call). Makes h (up_calls h p.from p.second) a b o) none (c.sweep_up.ensures.makes q refl begun) in
    let swept : IsSweptUp h q c.sweep_up.new.self = c.sweep_up.ensures.swept q refl begun none in
    let is : path ≡ ancestors_in (graph_of h) p.to = c.requires.path ∙ ap (λ (v : ChordalValue). ancestors_in v p.to) c.requires.graph.0 in
    let makes = subst (λ (v : HierarchyValue). (r : Sweep) → r.path ≡ path → IsSweptUp v r c.sweep_up.new.self → Makes v (path_calls v r) b d (Some c.in-Some-sweep_down.call))
    c.sweep_up.ensures.stays c.in-Some-sweep_down.ensures.makes in
    let down = down_made h q p.to b d (Some c.in-Some-sweep_down.call) is (makes q refl swept) in
    (ends_down h p.from p.to p.second a b d c.in-Some-sweep_down.call c.long_of-in-Some-sweep_down.result up down c.long_of-in-Some-sweep_down.ensures).found

pub returns-in-Some-sweep_down-clause-told : goal.returns-in-Some-sweep_down-clause-told
returns-in-Some-sweep_down-clause-told g c =
    let h = g.R.Relaxer.hierarchy c.args.relaxer.now in
    let a = g.R.Relaxer.calls c.args.relaxer.now in
    let b = g.R.Relaxer.calls c.sweep_up.new.relaxer in
    let d = g.R.Relaxer.calls c.sweep_down.new.relaxer in
    let p = c.args.question in
    let path = c.args.path.now in
    let q : Sweep = record { from = p.from; second = p.second; path = path } in
    let begun = c.begin.ensures.begun h (c.requires.tree ∙ ap parents_in c.requires.graph.0) in
    let none : c.sweep_up.result ≡ None = c.in_default.is in
    let up : Makes h (up_calls h p.from p.second) a b None =
    subst (λ (o : Option Call). Makes h (up_calls h p.from p.second) a b o) none (c.sweep_up.ensures.makes q refl begun) in
    let swept : IsSweptUp h q c.sweep_up.new.self = c.sweep_up.ensures.swept q refl begun none in
    let is : path ≡ ancestors_in (graph_of h) p.to = c.requires.path ∙ ap (λ (v : ChordalValue). ancestors_in v p.to) c.requires.graph.0 in
    let makes = subst (λ (v : HierarchyValue). (r : Sweep) → r.path ≡ path → IsSweptUp v r c.sweep_up.new.self → Makes v (path_calls v r) b d (Some c.in-Some-sweep_down.call))
    c.sweep_up.ensures.stays c.in-Some-sweep_down.ensures.makes in
    let down = down_made h q p.to b d (Some c.in-Some-sweep_down.call) is (makes q refl swept) in
    (ends_down h p.from p.to p.second a b d c.in-Some-sweep_down.call c.long_of-in-Some-sweep_down.result up down c.long_of-in-Some-sweep_down.ensures).told

pub returns-clause-found : goal.returns-clause-found
returns-clause-found g c =
    let h = g.R.Relaxer.hierarchy c.args.relaxer.now in
    let a = g.R.Relaxer.calls c.args.relaxer.now in
    let b = g.R.Relaxer.calls c.sweep_up.new.relaxer in
    let d = g.R.Relaxer.calls c.sweep_down.new.relaxer in
    let p = c.args.question in
    let path = c.args.path.now in
    let q : Sweep = record { from = p.from; second = p.second; path = path } in
    let begun = c.begin.ensures.begun h (c.requires.tree ∙ ap parents_in c.requires.graph.0) in
    let none : c.sweep_up.result ≡ None = c.in_default.is in
    let up : Makes h (up_calls h p.from p.second) a b None =
    subst (λ (o : Option Call). Makes h (up_calls h p.from p.second) a b o) none (c.sweep_up.ensures.makes q refl begun) in
    let swept : IsSweptUp h q c.sweep_up.new.self = c.sweep_up.ensures.swept q refl begun none in
    let is : path ≡ ancestors_in (graph_of h) p.to = c.requires.path ∙ ap (λ (v : ChordalValue). ancestors_in v p.to) c.requires.graph.0 in
    let makes = subst (λ (v : HierarchyValue). (r : Sweep) → r.path ≡ path → IsSweptUp v r c.sweep_up.new.self → Makes v (path_calls v r) b d c.sweep_down.result)
    c.sweep_up.ensures.stays c.sweep_down.ensures.makes in
    let down = down_made h q p.to b d c.sweep_down.result is (makes q refl swept) in
    let quiet : c.sweep_down.result ≡ None = c.in_default-sweep_down.is in
    let done : Makes h (down_calls h p.from p.to p.second) b d None =
    subst (λ (o : Option Call). Makes h (down_calls h p.from p.to p.second) b d o) quiet down in
    let falls = subst (λ (v : HierarchyValue). (r : Sweep) → r.path ≡ path → IsSweptUp v r c.sweep_up.new.self → c.sweep_down.result ≡ None
    → IsSweptDown v r c.sweep_down.new.self) c.sweep_up.ensures.stays c.sweep_down.ensures.swept in
    let ranks : c.args.graph.now.ranks ≡ h.network.nodes = ap (λ (v : ChordalValue). v.ranks) c.requires.graph.0 in
    let to = c.requires.ranks.1 in
    let member : Contains path p.to = subst (λ (xs : List ℕ). Contains xs p.to) (sym is) (own_ancestor (graph_of h) p.to (omega (arith, to, ranks))) in
    let reached = falls q refl swept quiet p.to member in
    let answer : c.answer_of.result ≡ answer_by (second_of (down_label h p.from p.second p.to)) =
    c.answer_of.ensures ∙ ap answer_by (c.second.ensures ∙ reached.second) in
    let over = ends_found h p.from p.to p.second a b d c.answer_of.result up done answer in
    over.found

pub returns-clause-told : goal.returns-clause-told
returns-clause-told g c =
    let h = g.R.Relaxer.hierarchy c.args.relaxer.now in
    let a = g.R.Relaxer.calls c.args.relaxer.now in
    let b = g.R.Relaxer.calls c.sweep_up.new.relaxer in
    let d = g.R.Relaxer.calls c.sweep_down.new.relaxer in
    let p = c.args.question in
    let path = c.args.path.now in
    let q : Sweep = record { from = p.from; second = p.second; path = path } in
    let begun = c.begin.ensures.begun h (c.requires.tree ∙ ap parents_in c.requires.graph.0) in
    let none : c.sweep_up.result ≡ None = c.in_default.is in
    let up : Makes h (up_calls h p.from p.second) a b None =
    subst (λ (o : Option Call). Makes h (up_calls h p.from p.second) a b o) none (c.sweep_up.ensures.makes q refl begun) in
    let swept : IsSweptUp h q c.sweep_up.new.self = c.sweep_up.ensures.swept q refl begun none in
    let is : path ≡ ancestors_in (graph_of h) p.to = c.requires.path ∙ ap (λ (v : ChordalValue). ancestors_in v p.to) c.requires.graph.0 in
    let makes = subst (λ (v : HierarchyValue). (r : Sweep) → r.path ≡ path → IsSweptUp v r c.sweep_up.new.self → Makes v (path_calls v r) b d c.sweep_down.result)
    c.sweep_up.ensures.stays c.sweep_down.ensures.makes in
    let down = down_made h q p.to b d c.sweep_down.result is (makes q refl swept) in
    let quiet : c.sweep_down.result ≡ None = c.in_default-sweep_down.is in
    let done : Makes h (down_calls h p.from p.to p.second) b d None =
    subst (λ (o : Option Call). Makes h (down_calls h p.from p.to p.second) b d o) quiet down in
    let falls = subst (λ (v : HierarchyValue). (r : Sweep) → r.path ≡ path → IsSweptUp v r c.sweep_up.new.self → c.sweep_down.result ≡ None
    → IsSweptDown v r c.sweep_down.new.self) c.sweep_up.ensures.stays c.sweep_down.ensures.swept in
    let ranks : c.args.graph.now.ranks ≡ h.network.nodes = ap (λ (v : ChordalValue). v.ranks) c.requires.graph.0 in
    let to = c.requires.ranks.1 in
    let member : Contains path p.to = subst (λ (xs : List ℕ). Contains xs p.to) (sym is) (own_ancestor (graph_of h) p.to (omega (arith, to, ranks))) in
    let reached = falls q refl swept quiet p.to member in
    let answer : c.answer_of.result ≡ answer_by (second_of (down_label h p.from p.second p.to)) =
    c.answer_of.ensures ∙ ap answer_by (c.second.ensures ∙ reached.second) in
    let over = ends_found h p.from p.to p.second a b d c.answer_of.result up done answer in
    over.told

pub returns-clause-holds : goal.returns-clause-holds
returns-clause-holds g c =
    let h = g.R.Relaxer.hierarchy c.args.relaxer.now in
    let a = g.R.Relaxer.calls c.args.relaxer.now in
    let b = g.R.Relaxer.calls c.sweep_up.new.relaxer in
    let d = g.R.Relaxer.calls c.sweep_down.new.relaxer in
    let p = c.args.question in
    let path = c.args.path.now in
    let q : Sweep = record { from = p.from; second = p.second; path = path } in
    let begun = c.begin.ensures.begun h (c.requires.tree ∙ ap parents_in c.requires.graph.0) in
    let none : c.sweep_up.result ≡ None = c.in_default.is in
    let up : Makes h (up_calls h p.from p.second) a b None =
    subst (λ (o : Option Call). Makes h (up_calls h p.from p.second) a b o) none (c.sweep_up.ensures.makes q refl begun) in
    let swept : IsSweptUp h q c.sweep_up.new.self = c.sweep_up.ensures.swept q refl begun none in
    let is : path ≡ ancestors_in (graph_of h) p.to = c.requires.path ∙ ap (λ (v : ChordalValue). ancestors_in v p.to) c.requires.graph.0 in
    let makes = subst (λ (v : HierarchyValue). (r : Sweep) → r.path ≡ path → IsSweptUp v r c.sweep_up.new.self → Makes v (path_calls v r) b d c.sweep_down.result)
    c.sweep_up.ensures.stays c.sweep_down.ensures.makes in
    let down = down_made h q p.to b d c.sweep_down.result is (makes q refl swept) in
    let quiet : c.sweep_down.result ≡ None = c.in_default-sweep_down.is in
    let done : Makes h (down_calls h p.from p.to p.second) b d None =
    subst (λ (o : Option Call). Makes h (down_calls h p.from p.to p.second) b d o) quiet down in
    let falls = subst (λ (v : HierarchyValue). (r : Sweep) → r.path ≡ path → IsSweptUp v r c.sweep_up.new.self → c.sweep_down.result ≡ None
    → IsSweptDown v r c.sweep_down.new.self) c.sweep_up.ensures.stays c.sweep_down.ensures.swept in
    let ranks : c.args.graph.now.ranks ≡ h.network.nodes = ap (λ (v : ChordalValue). v.ranks) c.requires.graph.0 in
    let to = c.requires.ranks.1 in
    let member : Contains path p.to = subst (λ (xs : List ℕ). Contains xs p.to) (sym is) (own_ancestor (graph_of h) p.to (omega (arith, to, ranks))) in
    let reached = falls q refl swept quiet p.to member in
    let answer : c.answer_of.result ≡ answer_by (second_of (down_label h p.from p.second p.to)) =
    c.answer_of.ensures ∙ ap answer_by (c.second.ensures ∙ reached.second) in
    let over = ends_found h p.from p.to p.second a b d c.answer_of.result up done answer in
    holds_found h p.from p.to p.second c.sweep_down.new.self c.answer_of.result over.found reached (c.sweep_down.ensures.kept chain_keeps) c.sweep_down.ensures.unturned
