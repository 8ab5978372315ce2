use Rattle.std.proofs.Common.{◌≡◌, ◌+◌, ℕ, List, Option, arith, get_or, length, subst, sym}
use Rattle.cu_arrival.specs.declared.runs.Run.{Run}
use Rattle.cu_chordal.specs.Graphs.{first_edge_of}
use Rattle.cu_customize.specs.Steps.Kept.{Keeps}
use Rattle.cu_customize.proofs.Dropped.{AreDroppedTo, dropped_all, dropped_more, keeps_dropped, number_before}
use Rattle.cu_customize.proofs.Loops.{lower_below}
use Rattle.cu_customize.proofs.dropping.drop_edges_to.Goals as goal
use Rattle.cu_customize.proofs.dropping.drop_edges_to.Goals.{in-Some, in_default}

pub edge-requires : goal.edge-requires
edge-requires c =
    let downs = c.down-middle-items.result.now in
    let inside = c.loop-middle-test.true in
    let below = (lower_below c.args.graph.now c.down-middle-items.ensures.sound c.args.rank downs c.down-middle-items.ensures.members c.loop-middle.middle-index inside).1 in
    let rank = c.requires.rank in
    omega (arith, below, rank)

pub drop_edge-requires : goal.drop_edge-requires
drop_edge-requires c =
    let edges = c.args.graph.now.edges in
    let downs = c.down-middle-items.result.now in
    let middle = get_or downs c.loop-middle.middle-index 0 in
    let inside = c.loop-middle-test.true in
    let below = (lower_below c.args.graph.now c.down-middle-items.ensures.sound c.args.rank downs c.down-middle-items.ensures.members c.loop-middle.middle-index inside).1 in
    let before = number_before edges c.down-middle-items.ensures.sound.rising c.in-Some.edge (c.args.rank + 1) (record { low = middle; high = c.args.rank }) c.in-Some.ensures.found
    (omega (arith, below)) in
    let settled = c.requires.settled in
    let long = c.loop-middle.auto.functions in
    omega (arith, before, settled, long)

pub loop-middle-preserved : goal.loop-middle-preserved
loop-middle-preserved c =
    let edges = c.args.graph.now.edges in
    let first = first_edge_of edges (c.args.rank + 1) in
    let downs = c.down-middle-items.result.now in
    let rising = c.down-middle-items.ensures.sound.rising in
    let index = c.loop-middle.middle-index in
    let middle = get_or downs index 0 in
    let old = c.loop-middle.functions in
    elim c.match-edge.branch [
      | in-Some w ↦
          let found = w.in-Some.ensures.found in
          let dropped = w.drop_edge.ensures in
          record {
            keeps = λ whole keeps.
                subst (λ (fs : List (Option (List Run))). Keeps edges first whole fs) (sym w.functions-is)
                (keeps_dropped edges rising w.in-Some.edge middle c.args.rank whole old w.drop_edge.new.functions found w.drop_edge.auto.functions dropped
                (c.loop-middle.invariant.keeps whole keeps));
            dropped = subst (λ (fs : List (Option (List Run))). AreDroppedTo edges c.args.rank downs (index + 1) fs) (sym w.functions-is)
                (dropped_more edges rising c.args.rank downs index w.in-Some.edge old w.drop_edge.new.functions found dropped c.loop-middle.invariant.dropped);
          }
      | in_default w ↦
          absurd (w.in_default.ensures.found (lower_below c.args.graph.now c.down-middle-items.ensures.sound c.args.rank downs c.down-middle-items.ensures.members index c.loop-middle-test.true).0)
    ]

pub returns-clause-keeps : goal.returns-clause-keeps
returns-clause-keeps c = c.loop-middle.invariant.keeps

pub returns-clause-dropped : goal.returns-clause-dropped
returns-clause-dropped c =
    let downs = c.down-middle-items.result.now in
    let all : c.loop-middle.middle-index ≡ length downs = omega arith in
    dropped_all c.args.graph.now.edges c.args.rank downs c.loop-middle.functions c.down-middle-items.ensures.members
    (subst (λ (n : ℕ). AreDroppedTo c.args.graph.now.edges c.args.rank downs n c.loop-middle.functions) all c.loop-middle.invariant.dropped)
