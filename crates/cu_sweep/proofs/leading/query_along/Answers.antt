use Rattle.std.proofs.Common.{◌≡◌, ◌∙◌, ℕ, List, ap, arith, length, subst}
use Rattle.cu_interval.specs.Hierarchies.{HierarchyValue}
use Rattle.cu_sweep.specs.Answers.{IsLeastWhereBuilt}
use Rattle.cu_sweep.specs.Desks.{DeskValue}
use Rattle.cu_sweep.specs.Sweeps.{AddsAll, sweep_calls, until_long}
use Rattle.cu_sweep.specs.Steps.Driving.{AddsLimited}
use Rattle.cu_sweep.proofs.Driven.{led_over, led_within}
use Rattle.cu_sweep.proofs.Passing.{tree_long}
use Rattle.cu_sweep.proofs.leading.query_along.Goals as goal

pub returns-in_default-clause-least : goal.returns-in_default-clause-least
returns-in_default-clause-least g c =
    let p = c.args.question in
    subst (λ (v : HierarchyValue). IsLeastWhereBuilt v p.from p.to p.second c.query.result) c.in_default.ensures.stays c.query.ensures.least

pub query_until-requires-clause-places : goal.query_until-requires-clause-places
query_until-requires-clause-places g c = c.within-limits.ensures.places ∙ c.requires.outlook

pub returns-clause-least : goal.returns-clause-least
returns-clause-least g c =
    let p = c.args.question in
    subst (λ (v : HierarchyValue). IsLeastWhereBuilt v p.from p.to p.second c.query_until.result) c.in-Some.ensures.stays c.query_until.ensures.least

pub returns-in_default-clause-told : goal.returns-in_default-clause-told
returns-in_default-clause-told g c =
    let p = c.args.question in
    let h = g.R.Relaxer.hierarchy c.args.relaxer.now in
    let before = g.R.Relaxer.calls c.drive_way.new.relaxer in
    let now = g.R.Relaxer.calls c.query.new.relaxer in
    let made = subst (λ (v : HierarchyValue). AddsAll before now (until_long v (sweep_calls v p.from p.to p.second))) c.in_default.ensures.stays c.query.ensures.told in
    led_over h p.from p.to (g.R.Relaxer.calls c.args.relaxer.now) before now p.second c.in_default.ensures.told made

pub returns-clause-told : goal.returns-clause-told
returns-clause-told g c =
    let p = c.args.question in
    let h = g.R.Relaxer.hierarchy c.args.relaxer.now in
    let before = g.R.Relaxer.calls c.drive_way.new.relaxer in
    let now = g.R.Relaxer.calls c.query_until.new.relaxer in
    let limited = subst (λ (v : HierarchyValue). AddsLimited v p.from p.to p.second before now) c.in-Some.ensures.stays c.query_until.ensures.told in
    led_within h p.from p.to (g.R.Relaxer.calls c.args.relaxer.now) before now p.second c.in-Some.ensures.told limited

pub climb-count-requires-clause-rank : goal.climb-count-requires-clause-rank
climb-count-requires-clause-rank g c =
    let long = tree_long c.args.ground.graph.now c.args.ground.tree.now c.requires.tree in
    let to = c.requires.ranks.1 in
    omega (arith, long, to)

pub climb-count-requires-clause-places : goal.climb-count-requires-clause-places
climb-count-requires-clause-places g c =
    let long = tree_long c.args.ground.graph.now c.args.ground.tree.now c.requires.tree in
    let nodes : c.desk.inside.labels.nodes ≡ c.args.ground.graph.now.ranks = ap (λ (v : DeskValue). v.nodes) c.desk.view_is ∙ c.requires.desk in
    let path : length c.deref_mut.result.now ≡ length c.desk.inside.path.items = ap (λ (xs : List ℕ). length xs) c.deref_mut.ensures.value in
    let room = c.desk.invariant.0 in
    omega (arith, long, nodes, path, room)
