use Rattle.std.proofs.Common.{◌≡◌, ◌<◌, ◌∙◌, ◌++◌, ℕ, Option, None, length, refl, sym, ap, subst, arith}
use Rattle.std.specs.Prelude.{All}
use Rattle.cu_chordal.specs.Graphs.{ChordalValue}
use Rattle.cu_elimtree.specs.SweepArcs.{parents_in}
use Rattle.cu_interval.specs.declared.relaxing.Call.{Call}
use Rattle.cu_interval.specs.Hierarchies.{HierarchyValue}
use Rattle.cu_sweep.specs.Sweeps.{AddsAll, up_calls}
use Rattle.cu_sweep.specs.Swept.{IsSweptDown, IsSweptUp, Makes, Sweep, path_calls}
use Rattle.cu_sweep.specs.ToAll.{reach_calls}
use Rattle.cu_sweep.proofs.Answering.{none_long}
use Rattle.cu_sweep.proofs.Passing.{tree_long}
use Rattle.cu_sweep.proofs.Telling.{makes_then, until_none}
use Rattle.cu_reach.specs.Reaching.{reached_by}
use Rattle.cu_reach.proofs.DeskLaws.{holds_over, labels_count}
use Rattle.cu_reach.proofs.reaching.reach_over.Goals as goal

pub begin-requires-clause-from : goal.begin-requires-clause-from
begin-requires-clause-from g c =
    let long = tree_long c.args.graph.now c.args.tree.now c.requires.tree in
    let from = c.requires.from in
    omega (arith, long, from)

pub begin-requires-clause-path : goal.begin-requires-clause-path
begin-requires-clause-path g c =
    subst (λ (n : ℕ). All (λ rank. rank < n) c.args.path.now) (sym (tree_long c.args.graph.now c.args.tree.now c.requires.tree)) c.requires.path.below

pub begin-requires-clause-nodes : goal.begin-requires-clause-nodes
begin-requires-clause-nodes g c =
    sym (labels_count c.desk.inside.labels) ∙ ap length c.desk.view_is ∙ c.requires.desk ∙ sym (tree_long c.args.graph.now c.args.tree.now c.requires.tree)

pub sweep_up-none-requires-clause-nodes : goal.sweep_up-none-requires-clause-nodes
sweep_up-none-requires-clause-nodes g c =
    c.begin.ensures.nodes ∙ sym (labels_count c.desk.inside.labels) ∙ ap length c.desk.view_is ∙ c.requires.desk

pub sweep_down-none-requires-clause-nodes : goal.sweep_down-none-requires-clause-nodes
sweep_down-none-requires-clause-nodes g c =
    c.sweep_up-none.ensures.nodes ∙ c.begin.ensures.nodes ∙ sym (labels_count c.desk.inside.labels) ∙ ap length c.desk.view_is ∙ c.requires.desk

pub returns-clause-reached : goal.returns-clause-reached
returns-clause-reached g c =
    let h = g.R.Relaxer.hierarchy c.args.relaxer.now in
    ap reached_by (none_long h c.requires.short (reach_calls h c.args.start.from c.args.start.second))

pub returns-clause-told : goal.returns-clause-told
returns-clause-told g c =
    let h = g.R.Relaxer.hierarchy c.args.relaxer.now in
    let from = c.args.start.from in
    let second = c.args.start.second in
    let path = c.args.path.now in
    let a = g.R.Relaxer.calls c.args.relaxer.now in
    let b = g.R.Relaxer.calls c.sweep_up-none.new.relaxer in
    let d = g.R.Relaxer.calls c.sweep_down-none.new.relaxer in
    let before = c.sweep_up-none.new.self in
    let now = c.sweep_down-none.new.self in
    let q : Sweep = record { from = from; second = second; path = path } in
    let begun = c.begin.ensures.begun h (c.requires.tree ∙ ap parents_in c.requires.graph.0) in
    let up = c.sweep_up-none.ensures.makes q refl begun in
    let none : c.sweep_up-none.result ≡ None = up.ended ∙ none_long h c.requires.short (up_calls h from second) in
    let swept = c.sweep_up-none.ensures.swept q refl begun none in
    let makes = subst (λ (v : HierarchyValue). (r : Sweep) → r.path ≡ path → IsSweptUp v r before → Makes v (path_calls v r) b d c.sweep_down-none.result)
    c.sweep_up-none.ensures.stays c.sweep_down-none.ensures.makes in
    let down = makes q refl swept in
    let first = up_calls h from second in
    let last = path_calls h q in
    let made = makes_then h a b first last d c.sweep_down-none.result (subst (λ (o : Option Call). Makes h first a b o) none up) down in
    subst (AddsAll a d) (until_none h (first ++ last) (none_long h c.requires.short (first ++ last))) made.told

pub returns-clause-holds : goal.returns-clause-holds
returns-clause-holds g c =
    let h = g.R.Relaxer.hierarchy c.args.relaxer.now in
    let from = c.args.start.from in
    let second = c.args.start.second in
    let path = c.args.path.now in
    let a = g.R.Relaxer.calls c.args.relaxer.now in
    let b = g.R.Relaxer.calls c.sweep_up-none.new.relaxer in
    let d = g.R.Relaxer.calls c.sweep_down-none.new.relaxer in
    let before = c.sweep_up-none.new.self in
    let now = c.sweep_down-none.new.self in
    let q : Sweep = record { from = from; second = second; path = path } in
    let begun = c.begin.ensures.begun h (c.requires.tree ∙ ap parents_in c.requires.graph.0) in
    let up = c.sweep_up-none.ensures.makes q refl begun in
    let none : c.sweep_up-none.result ≡ None = up.ended ∙ none_long h c.requires.short (up_calls h from second) in
    let swept = c.sweep_up-none.ensures.swept q refl begun none in
    let makes = subst (λ (v : HierarchyValue). (r : Sweep) → r.path ≡ path → IsSweptUp v r before → Makes v (path_calls v r) b d c.sweep_down-none.result)
    c.sweep_up-none.ensures.stays c.sweep_down-none.ensures.makes in
    let down = makes q refl swept in
    let falls = subst (λ (v : HierarchyValue). (r : Sweep) → r.path ≡ path → IsSweptUp v r before → c.sweep_down-none.result ≡ None → IsSweptDown v r now)
    c.sweep_up-none.ensures.stays c.sweep_down-none.ensures.swept in
    let nodes : c.args.graph.now.ranks ≡ h.network.nodes = ap (λ (v : ChordalValue). v.ranks) c.requires.graph.0 in
    let long = c.sweep_down-none.ensures.nodes ∙ c.sweep_up-none.ensures.nodes ∙ c.begin.ensures.nodes ∙ sym (labels_count c.desk.inside.labels) ∙ ap length c.desk.view_is ∙ c.requires.desk ∙ nodes in
    holds_over h q now long (subst (λ (n : ℕ). All (λ rank. rank < n) path) nodes c.requires.path.below)
    (falls q refl swept (down.ended ∙ none_long h c.requires.short (path_calls h q)))
