use Rattle.std.proofs.Common.{arith}
use Rattle.cu_interval.specs.declared.ways.Dir.TheVariants.{Up, Down}
use Rattle.cu_edits.proofs.TakenLists.{size_stays, taken_more, taken_none}
use Rattle.cu_edits.proofs.learned.take_moved.Goals as goal

pub loop-edge-init : goal.loop-edge-init
loop-edge-init c = record { taken = taken_none c.args.moved.now c.args.functions.now; size = c.requires.size }

pub take_list-requires-clause-known : goal.take_list-requires-clause-known
take_list-requires-clause-known c = let long = c.loop-edge.invariant.size.known in omega (arith, long, c.loop-edge-test.true)

pub take_list-requires-clause-functions : goal.take_list-requires-clause-functions
take_list-requires-clause-functions c = let long = c.loop-edge.invariant.size.functions in omega (arith, long, c.loop-edge-test.true)

pub loop-edge-preserved : goal.loop-edge-preserved
loop-edge-preserved c =
    let moved = c.args.moved.now in
    let before = c.args.functions.now in
    let now = c.loop-edge.functions in
    let up = c.take_list.new.functions in
    let down = c.take_list-in-loop-edge.new.functions in
    let edge = c.loop-edge.edge in
    let inside = c.loop-edge.invariant.size in
    let known = inside.known in
    let functions = inside.functions in
    record {
      taken = taken_more moved before now up down edge c.loop-edge.invariant.taken (omega (arith, known, c.loop-edge-test.true)) (omega (arith, functions, c.loop-edge-test.true))
          c.in_ok-take_list.ensures c.in_ok-take_list-2.ensures;
      size = size_stays moved before up down edge Down c.in_ok-take_list-2.ensures c.args.edges
          (size_stays moved before now up edge Up c.in_ok-take_list.ensures c.args.edges inside);
    }
