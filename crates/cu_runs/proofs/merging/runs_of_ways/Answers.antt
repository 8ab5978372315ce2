use Rattle.std.proofs.Common.{arith, ◌<◌, ◌+◌, length}
use Rattle.cu_runs.proofs.DayLists.{two_packed}
use Rattle.cu_runs.proofs.ReadLaws.{ways_none, ways_more, ways_all}
use Rattle.cu_runs.proofs.merging.runs_of_ways.Goals as goal

pub runs-init : goal.runs-init
runs-init c =
    let two = two_packed c.args.least.now.packed.items c.requires.over_day in
    record { inside = omega (arith, two); grown = ways_none c.args.least.now c.in_ok-runs.runs.items c.requires c.in_ok-runs.ensures.items }

pub runs-preserved : goal.runs-preserved
runs-preserved c =
    let inside : c.runs.index + 1 < length c.args.least.now.packed.items = omega arith in
    record {
      inside = inside;
      grown = ways_more c.args.least.now c.runs.runs.items c.push_way.new.runs.items c.runs.index c.index.result.now record
          { from = c.from.result; way = c.index-in-runs.result.now } c.requires inside c.index.ensures
          c.index-in-runs.ensures c.from.ensures.from c.in_ok-push_way.ensures c.runs.invariant.grown;
    }

pub returns : goal.returns
returns c = ways_all c.args.least.now c.runs.runs.items c.runs.index c.requires (omega (arith, c.runs.invariant.inside)) c.runs.invariant.grown
