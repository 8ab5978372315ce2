use Rattle.std.proofs.Common.{◌≡◌, ◌++◌, ℕ, List, Option, drop, length, rules, subst, sym, take}
use Rattle.cu_links.proofs.Setting.{whole_back}
use Rattle.cu_sweep.specs.Swept.{IsBegun, Sweep}
use Rattle.cu_sweep.proofs.Held.{has_begun}
use Rattle.cu_sweep.proofs.labels.Labels.begin.Goals as goal

pub returns-clause-begun : goal.returns-clause-begun
returns-clause-begun g c h same =
    let labels = c.begin_in.new.labels in
    let inside = c.self.inside in
    let long : inside.seconds.len ≡ length labels = search rules in
    let whole : take inside.seconds.len (labels ++ drop (length labels) inside.seconds.items) ≡ labels =
    whole_back inside.seconds.len labels (drop (length labels) inside.seconds.items) long in
    let q : Sweep = record { from = c.args.from; second = c.args.second; path = c.args.path.now } in
    let chain = c.begin_in.new.chain in
    subst (λ (xs : List (Option ℕ)). IsBegun h q (record { nodes = inside.nodes; seconds = xs; links = g.K.Linking.links chain; turned = g.K.Linking.turned chain })) (sym whole)
    (has_begun h q c.args.tree.now (record { nodes = inside.nodes; seconds = labels; links = g.K.Linking.links chain; turned = g.K.Linking.turned chain }) same
    c.begin_in.ensures.begins c.begin_in.ensures.unlinked)
