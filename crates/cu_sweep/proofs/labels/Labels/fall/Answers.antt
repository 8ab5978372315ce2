use Rattle.std.proofs.Common.{◌≡◌, ◌<◌, ◌++◌, ◌∙◌, ℕ, List, Option, ap, drop, length, rules, subst, sym, take}
use Rattle.std.specs.Prelude.{All}
use Rattle.std.specs.List.{Contains}
use Rattle.cu_links.proofs.Setting.{whole_back}
use Rattle.cu_chordal.specs.declared.graph.Ends.{Ends}
use Rattle.cu_chordal.specs.Graphs.{ChordalValue, HasEdge}
use Rattle.cu_sweep.specs.Swept.{IsClosed, LabelsValue}
use Rattle.cu_sweep.specs.Steps.Made.{IsMadeDown, IsMadeUp}
use Rattle.cu_sweep.specs.Steps.Ready.{Rises}
use Rattle.cu_sweep.proofs.Held.{down_over, swept_down}
use Rattle.cu_sweep.proofs.labels.Labels.fall.Goals as goal

pub returns-clause-makes : goal.returns-clause-makes
returns-clause-makes g c q same al up =
    let h = g.R.Relaxer.hierarchy c.args.relaxer.now in
    let a = g.R.Relaxer.calls c.args.relaxer.now in
    let b = g.R.Relaxer.calls c.pass_down.new.relaxer in
    let inside = c.self.inside in
    let before : LabelsValue = record { nodes = inside.nodes; seconds = inside.seconds.items; links = g.K.Linking.links inside.chain; turned = g.K.Linking.turned inside.chain } in
    let over = down_over h q c.args.path.now a b before c.deref_mut.result.now c.pass_down.new.labels (g.K.Linking.links c.pass_down.new.chain) c.pass_down.result
    same c.deref_mut.ensures.value (subst (IsMadeUp h q) (sym c.self.view_is) up) (g.L.Limits.allows c.args.limits.now) al c.pass_down.ensures.over in
    record { ended = over.ended; told = over.told }

pub returns-clause-swept : goal.returns-clause-swept
returns-clause-swept g c q same al up none =
    let h = g.R.Relaxer.hierarchy c.args.relaxer.now in
    let a = g.R.Relaxer.calls c.args.relaxer.now in
    let b = g.R.Relaxer.calls c.pass_down.new.relaxer in
    let graph = c.args.graph.now in
    let inside = c.self.inside in
    let before : LabelsValue = record { nodes = inside.nodes; seconds = inside.seconds.items; links = g.K.Linking.links inside.chain; turned = g.K.Linking.turned inside.chain } in
    let labels = c.pass_down.new.labels in
    let long : inside.seconds.len ≡ length labels = search rules in
    let whole : take inside.seconds.len (labels ++ drop (length labels) inside.seconds.items) ≡ labels =
    whole_back inside.seconds.len labels (drop (length labels) inside.seconds.items) long in
    let chain = c.pass_down.new.chain in
    let now : LabelsValue = record { nodes = inside.nodes; seconds = labels; links = g.K.Linking.links chain; turned = g.K.Linking.turned chain } in
    let over = down_over h q c.args.path.now a b before c.deref_mut.result.now labels (g.K.Linking.links chain) c.pass_down.result
    same c.deref_mut.ensures.value (subst (IsMadeUp h q) (sym c.self.view_is) up) (g.L.Limits.allows c.args.limits.now) al c.pass_down.ensures.over in
    let ranks : graph.ranks ≡ h.network.nodes = ap (λ (v : ChordalValue). v.ranks) c.requires.graph.0 in
    let edges : graph.edges ≡ h.edges = ap (λ (v : ChordalValue). v.edges) c.requires.graph.0 in
    let nodes : inside.nodes ≡ h.network.nodes = ap (λ (v : LabelsValue). v.nodes) c.self.view_is ∙ c.requires.nodes ∙ ranks in
    let closed : IsClosed h q.path =
    subst (IsClosed h) (sym same)
    (subst (λ (es : List Ends). (low high : ℕ) → Contains c.args.path.now low → HasEdge es low high → Contains c.args.path.now high) edges c.requires.upwards) in
    let below = subst (All (λ rank. rank < h.network.nodes)) (sym same)
    (subst (λ (n : ℕ). All (λ rank. rank < n) c.args.path.now) ranks c.requires.path) in
    let rises = subst (λ (n : ℕ). Rises n (g.K.Linking.links chain)) ranks (c.pass_down.ensures.ready.rises c.pass_down.ensures.unturned) in
    subst (λ (xs : List (Option ℕ)). IsMadeDown h q (record { nodes = inside.nodes; seconds = xs; links = g.K.Linking.links chain; turned = g.K.Linking.turned chain })) (sym whole)
    (swept_down h q now nodes closed below rises (over.swept none))
