use Rattle.std.proofs.Common.{◌≡◌, ◌∙◌, ℕ, List, ap, arith, length}
use Rattle.cu_sweep.specs.Desks.{DeskValue}
use Rattle.cu_sweep.proofs.Passing.{tree_long}
use Rattle.cu_sweep.proofs.leading.query_in_time.Goals as goal

pub climb-count-requires-clause-rank : goal.climb-count-requires-clause-rank
climb-count-requires-clause-rank g c =
    let long = tree_long c.args.graph.now c.args.tree.now c.requires.tree in
    let to = c.requires.ranks.1 in
    omega (arith, long, to)

pub climb-count-requires-clause-places : goal.climb-count-requires-clause-places
climb-count-requires-clause-places g c =
    let long = tree_long c.args.graph.now c.args.tree.now c.requires.tree in
    let nodes : c.desk.inside.labels.nodes ≡ c.args.graph.now.ranks = ap (λ (v : DeskValue). v.nodes) c.desk.view_is ∙ c.requires.desk in
    let path : length c.deref_mut.result.now ≡ length c.desk.inside.path.items = ap (λ (xs : List ℕ). length xs) c.deref_mut.ensures.value in
    let room = c.desk.invariant.0 in
    omega (arith, long, nodes, path, room)
