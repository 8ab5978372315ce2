use Rattle.std.proofs.Common.{ap, arith, get_or, length}
use Rattle.std.proofs.lemmas.Option.{slice_get_within}
use Rattle.cu_edits.proofs.LettingGo.{down_below}
use Rattle.cu_edits.proofs.letting_go.let_go_of_rank.Goals as goal

pub edge-requires : goal.edge-requires
edge-requires c =
    let below = down_below c.args.graph.now c.down-low-items.ensures.sound c.args.rank c.down-low-items.result.now c.down-low-items.ensures.members c.loop-low.low-index c.loop-low-test.true in
    let rank = c.requires.rank in
    omega (arith, below, rank)

pub let_go-requires : goal.let_go-requires
let_go-requires c =
    let inside = slice_get_within c.args.graph.now.edges c.in-Some.edge (record { low = get_or c.down-low-items.result.now c.loop-low.low-index 0; high = c.args.rank }) c.in-Some.ensures.found in
    let long = ap length c.loop-low.invariant.moved.places in
    let places = c.requires.places in
    omega (arith, inside, long, places)

pub forget-requires-clause-edge : goal.forget-requires-clause-edge
forget-requires-clause-edge c =
    let inside = slice_get_within c.args.graph.now.edges c.in-Some.edge (record { low = get_or c.down-low-items.result.now c.loop-low.low-index 0; high = c.args.rank }) c.in-Some.ensures.found in
    let long = c.loop-low.invariant.spared.known in
    let known = c.requires.functions.known in
    omega (arith, inside, long, known)
