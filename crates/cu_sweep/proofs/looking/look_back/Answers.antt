use Rattle.std.proofs.Common.{arith}
use Rattle.cu_sweep.proofs.Passing.{tree_long}
use Rattle.cu_sweep.proofs.looking.look_back.Goals as goal

pub set_far-requires-clause-rank : goal.set_far-requires-clause-rank
set_far-requires-clause-rank g c = let long = tree_long c.args.graph.now c.args.tree.now c.requires.tree in let lt = c.requires.ranks.0 in omega (arith, long, lt)

pub set_far-requires-clause-places : goal.set_far-requires-clause-places
set_far-requires-clause-places g c = let long = tree_long c.args.graph.now c.args.tree.now c.requires.tree in let is = c.requires.places in omega (arith, long, is)

pub set_far-requires-2-clause-rank : goal.set_far-requires-2-clause-rank
set_far-requires-2-clause-rank g c = let long = tree_long c.args.graph.now c.args.tree.now c.requires.tree in let lt = c.requires.ranks.1 in omega (arith, long, lt)

pub set_far-requires-2-clause-places : goal.set_far-requires-2-clause-places
set_far-requires-2-clause-places g c =
    let long = tree_long c.args.graph.now c.args.tree.now c.requires.tree in
    let is = c.requires.places in
    let first = c.set_far.ensures.places in
    omega (arith, long, is, first)
