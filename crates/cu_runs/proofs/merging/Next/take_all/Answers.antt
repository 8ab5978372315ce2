use Rattle.std.proofs.Common.{arith, ◌<◌, ◌+◌, length, ◌∙◌}
use Rattle.cu_runs.proofs.FirstLaws.{taken_all, taken_more}
use Rattle.cu_runs.proofs.merging.Next.take_all.Goals as goal

pub runs-preserved : goal.runs-preserved
runs-preserved c =
    let packed = c.args.packed.now in
    let inside : c.runs.index + 1 < length packed = omega arith in
    record {
      inside = inside;
      even = c.in_ok-put.ensures.even;
      same = c.put.ensures.index ∙ c.runs.invariant.same;
      taken = taken_more packed c.args.way c.runs.self c.put.new.self c.runs.index c.index-packed-index.result c.requires.over_day inside
          c.index-packed-index.is c.in_ok-put.ensures.put c.runs.invariant.taken;
    }

pub returns-clause-alone : goal.returns-clause-alone
returns-clause-alone c =
    let inside = c.runs.invariant.inside in
    taken_all c.args.packed.now c.args.way c.runs.self c.runs.index c.requires.over_day (omega (arith, inside, c.runs-test.false)) c.runs.invariant.taken
