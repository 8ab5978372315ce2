use Rattle.std.proofs.Common.{◌≡◌, ◌<◌, ◌∙◌, ◌++◌, ℕ, List, Option, ap, drop, length, rules, subst, sym, take}
use Rattle.std.specs.Prelude.{All}
use Rattle.cu_chordal.specs.Graphs.{ChordalValue}
use Rattle.cu_elimtree.specs.SweepArcs.{ancestors_in, parents_in}
use Rattle.cu_elimtree.specs.Trees.{ancestors_of}
use Rattle.cu_links.proofs.Setting.{whole_back}
use Rattle.cu_sweep.specs.Swept.{IsBegun, LabelsValue}
use Rattle.cu_sweep.specs.Steps.Made.{IsMadeUp, sweep_of}
use Rattle.cu_sweep.proofs.Held.{swept_up, up_over}
use Rattle.cu_sweep.proofs.Passing.{tree_long}
use Rattle.cu_sweep.proofs.labels.Labels.rise.Goals as goal

-- the ancestors that the pass goes over
all_of : (start from : ℕ) (tree : List (Option ℕ)) (graph : ChordalValue) (ancestors : List ℕ) → start ≡ from → tree ≡ parents_in graph → ancestors ≡ ancestors_of tree from
    → ancestors_in graph start ≡ ancestors
all_of start from tree graph ancestors same parents left = ap (ancestors_in graph) same ∙ ap (λ (ps : List (Option ℕ)). ancestors_of ps from) (sym parents) ∙ sym left

pub ancestors-requires : goal.ancestors-requires
ancestors-requires g c = subst (λ (n : ℕ). c.args.from < n) (sym (tree_long c.args.graph.now c.args.tree.now c.requires.tree)) c.requires.from

pub pass_up-requires-clause-ancestors : goal.pass_up-requires-clause-ancestors
pass_up-requires-clause-ancestors g c =
    subst (All (λ rank. rank < c.args.graph.now.ranks)) (sym c.ancestors.ensures.left)
    (subst (λ (n : ℕ). All (λ rank. rank < n) (ancestors_of c.args.tree.now c.args.from)) (tree_long c.args.graph.now c.args.tree.now c.requires.tree) c.ancestors.ensures.below)

pub returns-clause-makes : goal.returns-clause-makes
returns-clause-makes g c q same al begun =
    let h = g.R.Relaxer.hierarchy c.args.relaxer.now in
    let a = g.R.Relaxer.calls c.args.relaxer.now in
    let b = g.R.Relaxer.calls c.pass_up.new.relaxer in
    let inside = c.self.inside in
    let before : LabelsValue = record { nodes = inside.nodes; seconds = inside.seconds.items; links = g.K.Linking.links inside.chain; turned = g.K.Linking.turned inside.chain } in
    let over = up_over h q c.args.graph.now c.ancestors.result a b before c.deref_mut.result.now c.pass_up.new.labels (g.K.Linking.links c.pass_up.new.chain) c.pass_up.result
    c.requires.graph.0 (all_of q.from c.args.from c.args.tree.now c.args.graph.now c.ancestors.result same c.requires.tree c.ancestors.ensures.left) c.deref_mut.ensures.value (subst (IsBegun h (sweep_of q)) (sym c.self.view_is) begun) (g.L.Limits.allows c.args.limits.now) al c.pass_up.ensures.over in
    record { ended = over.ended; told = over.told }

pub returns-clause-swept : goal.returns-clause-swept
returns-clause-swept g c q same al begun none =
    let h = g.R.Relaxer.hierarchy c.args.relaxer.now in
    let a = g.R.Relaxer.calls c.args.relaxer.now in
    let b = g.R.Relaxer.calls c.pass_up.new.relaxer in
    let inside = c.self.inside in
    let before : LabelsValue = record { nodes = inside.nodes; seconds = inside.seconds.items; links = g.K.Linking.links inside.chain; turned = g.K.Linking.turned inside.chain } in
    let labels = c.pass_up.new.labels in
    let long : inside.seconds.len ≡ length labels = search rules in
    let whole : take inside.seconds.len (labels ++ drop (length labels) inside.seconds.items) ≡ labels =
    whole_back inside.seconds.len labels (drop (length labels) inside.seconds.items) long in
    let chain = c.pass_up.new.chain in
    let now : LabelsValue = record { nodes = inside.nodes; seconds = labels; links = g.K.Linking.links chain; turned = g.K.Linking.turned chain } in
    let over = up_over h q c.args.graph.now c.ancestors.result a b before c.deref_mut.result.now labels (g.K.Linking.links chain) c.pass_up.result
    c.requires.graph.0 (all_of q.from c.args.from c.args.tree.now c.args.graph.now c.ancestors.result same c.requires.tree c.ancestors.ensures.left) c.deref_mut.ensures.value (subst (IsBegun h (sweep_of q)) (sym c.self.view_is) begun) (g.L.Limits.allows c.args.limits.now) al c.pass_up.ensures.over in
    subst (λ (xs : List (Option ℕ)). IsMadeUp h q (record { nodes = inside.nodes; seconds = xs; links = g.K.Linking.links chain; turned = g.K.Linking.turned chain })) (sym whole)
    (swept_up h c.requires.graph.1 q now (over.swept none))
