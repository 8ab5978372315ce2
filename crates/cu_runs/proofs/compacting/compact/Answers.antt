use Rattle.std.proofs.Common.{arith, ◌<◌, ◌+◌, length}
use Rattle.cu_runs.proofs.DayLists.{two_packed}
use Rattle.cu_runs.proofs.ReadLaws.{rules_none, rules_more, rules_all}
use Rattle.cu_runs.proofs.compacting.compact.Goals as goal

pub runs-init : goal.runs-init
runs-init c =
    let two = two_packed c.args.packed.now c.requires in
    record { inside = omega (arith, two); grown = rules_none c.args.packed.now c.in_ok-list.list.items c.requires c.in_ok-list.ensures.items }

pub runs-preserved : goal.runs-preserved
runs-preserved c =
    let inside : c.runs.index + 1 < length c.args.packed.now = omega arith in
    record {
      inside = inside;
      grown = rules_more c.args.packed.now c.runs.list.items c.push_run.new.list.items c.runs.index c.index-packed-index.result c.requires inside
          c.index-packed-index.is c.in_ok-push_run.ensures c.runs.invariant.grown;
    }

pub returns-clause-over_day : goal.returns-clause-over_day
returns-clause-over_day c =
    (rules_all c.args.packed.now c.runs.list.items c.push.new.self.items c.runs.index c.end.result c.requires (omega (arith, c.runs.invariant.inside))
    c.end.ensures c.in_ok-push.ensures.items c.runs.invariant.grown).over_day

pub returns-clause-value : goal.returns-clause-value
returns-clause-value c =
    (rules_all c.args.packed.now c.runs.list.items c.push.new.self.items c.runs.index c.end.result c.requires (omega (arith, c.runs.invariant.inside))
    c.end.ensures c.in_ok-push.ensures.items c.runs.invariant.grown).value

pub returns-clause-compact : goal.returns-clause-compact
returns-clause-compact c =
    (rules_all c.args.packed.now c.runs.list.items c.push.new.self.items c.runs.index c.end.result c.requires (omega (arith, c.runs.invariant.inside))
    c.end.ensures c.in_ok-push.ensures.items c.runs.invariant.grown).compact

pub returns-clause-end : goal.returns-clause-end
returns-clause-end c =
    (rules_all c.args.packed.now c.runs.list.items c.push.new.self.items c.runs.index c.end.result c.requires (omega (arith, c.runs.invariant.inside))
    c.end.ensures c.in_ok-push.ensures.items c.runs.invariant.grown).end
