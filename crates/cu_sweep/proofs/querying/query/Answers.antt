use Rattle.std.proofs.Common.{◌≡◌, ◌+◌, ◌∙◌, ℕ, List, ap, arith, length, subst, sym}
use Rattle.cu_chordal.specs.Graphs.{ChordalValue}
use Rattle.cu_sweep.specs.Answers.{IsLeastWhereBuilt, IsReal}
use Rattle.cu_sweep.specs.Desks.{DeskValue}
use Rattle.cu_sweep.specs.Places.{calls_found}
use Rattle.cu_sweep.specs.Swept.{desk_of}
use Rattle.cu_sweep.proofs.Answering.{found_least, label_real}
use Rattle.cu_sweep.proofs.Ending.{real_found}
use Rattle.cu_sweep.proofs.Passing.{tree_long}
use Rattle.cu_sweep.proofs.querying.query.Goals as goal

pub climb-count-requires-clause-rank : goal.climb-count-requires-clause-rank
climb-count-requires-clause-rank g c =
    let long = tree_long c.args.graph.now c.args.tree.now c.requires.tree in
    let to = c.requires.ranks.1 in
    omega (arith, long, to)

pub climb-count-requires-clause-places : goal.climb-count-requires-clause-places
climb-count-requires-clause-places g c =
    let long = tree_long c.args.graph.now c.args.tree.now c.requires.tree in
    let nodes : c.desk.inside.labels.nodes ≡ c.args.graph.now.ranks = ap (λ (v : DeskValue). v.nodes) c.desk.view_is ∙ c.requires.desk in
    let path : length c.deref_mut.result.now ≡ length c.desk.inside.path.items = ap (λ (xs : List ℕ). length xs) c.deref_mut.ensures.value in
    let room = c.desk.invariant.0 in
    omega (arith, long, nodes, path, room)

pub returns-clause-least : goal.returns-clause-least
returns-clause-least g c =
    let h = g.R.Relaxer.hierarchy c.args.relaxer.now in
    let ranks : c.args.graph.now.ranks ≡ h.network.nodes = ap (λ (v : ChordalValue). v.ranks) c.requires.graph.0 in
    let (from, to) = c.requires.ranks in
    subst (IsLeastWhereBuilt h c.args.from c.args.to c.args.second) (sym c.sweep-found.ensures.found)
    (found_least h c.requires.graph.1 c.args.from c.args.to c.args.second (omega (arith, from, ranks)) (omega (arith, to, ranks)) c.requires.second)

pub returns-clause-real : goal.returns-clause-real
returns-clause-real g c =
    let h = g.R.Relaxer.hierarchy c.args.relaxer.now in
    let ranks : c.args.graph.now.ranks ≡ h.network.nodes = ap (λ (v : ChordalValue). v.ranks) c.requires.graph.0 in
    let (from, to) = c.requires.ranks in
    let labels = c.sweep-found.new.labels in
    let result = c.sweep-found.result in
    let label = label_real h c.requires.graph.1 c.args.from c.args.to c.args.second (omega (arith, from, ranks)) (omega (arith, to, ranks)) c.requires.second in
    let real = real_found h c.args.from c.args.to c.args.second (desk_of labels (labels.nodes + c.args.to)) result label c.sweep-found.ensures.found
    c.sweep-found.ensures.holds in
    subst (λ (n : ℕ). IsReal h c.args.from c.args.to c.args.second (calls_found labels.nodes labels.seconds labels.links (n + c.args.to)) result)
    (sym c.nodes.ensures.count) real
