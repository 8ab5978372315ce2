use Rattle.std.proofs.Common.{arith, subst, ℕ, ◌<◌}
use Rattle.cu_model.specs.Days.{day}
use Rattle.cu_runs.specs.Steps.Linking.{IsReached}
use Rattle.cu_runs.proofs.CompareLaws.{at_found}
use Rattle.cu_runs.proofs.RangeLaws.{linking_closed, linking_more, linking_next, linking_none, linking_order, linking_place}
use Rattle.cu_runs.proofs.linking.link_between.Goals as goal

pub stretch-init : goal.stretch-init
stretch-init c =
    let before : c.args.from < day = omega (arith, c.requires.some, c.requires.in_day) in
    linking_none c.args.first.now c.args.second.now c.requires.first c.args.from c.args.until c.requires.some c.requires.in_day c.begin.new.linked.items c.place_at-place.result c.index_at-index.result
    c.index-first-index.result c.in_ok-begin.ensures
    (at_found c.args.first.now c.index_at-index.result c.args.from before c.index_at-index.ensures.begun c.index_at-index.ensures.lasts) c.index-first-index.is
    (subst (λ (t : ℕ). IsReached c.args.second.now c.place_at-place.result t) c.arrives.ensures c.place_at-place.ensures)

pub bounds-first-index-in-stretch : goal.bounds-first-index-in-stretch
bounds-first-index-in-stretch c =
    let more = linking_next c.args.first.now c.args.second.now c.requires.first c.args.from c.args.until c.requires.some c.requires.in_day c.stretch.linked.items c.stretch.place c.stretch.index
    c.stretch.at c.stretch.invariant c.stretch-test.true in
    omega (arith, more)

pub bounds-first-index-in-stretch-2 : goal.bounds-first-index-in-stretch-2
bounds-first-index-in-stretch-2 c =
    linking_next c.args.first.now c.args.second.now c.requires.first c.args.from c.args.until c.requires.some c.requires.in_day c.stretch.linked.items c.stretch.place c.stretch.index c.stretch.at
    c.stretch.invariant c.stretch-test.true

pub link_run-requires-clause-some : goal.link_run-requires-clause-some
link_run-requires-clause-some c =
    (linking_order c.args.first.now c.args.second.now c.requires.first c.args.from c.args.until c.requires.some c.requires.in_day c.stretch.linked.items c.stretch.place c.stretch.index
    c.stretch.at c.stretch.invariant c.stretch-test.true
    c.index-first-index-in-stretch.result c.index-first-index-in-stretch-2.result c.min-end.result c.index-first-index-in-stretch.is c.index-first-index-in-stretch-2.is
    (omega (arith, c.min-end.ensures, c.from.ensures.from))).0

pub link_run-requires-clause-place : goal.link_run-requires-clause-place
link_run-requires-clause-place c =
    linking_place c.args.first.now c.args.second.now c.requires.first c.args.from c.args.until c.requires.some c.requires.in_day c.stretch.linked.items c.stretch.place c.stretch.index
    c.stretch.at c.stretch.invariant c.stretch-test.true
    c.index-first-index-in-stretch.result c.index-first-index-in-stretch-2.result c.min-end.result c.index-first-index-in-stretch.is c.index-first-index-in-stretch-2.is
    (omega (arith, c.min-end.ensures, c.from.ensures.from))

pub stretch-smaller : goal.stretch-smaller
stretch-smaller c =
    let order = linking_order c.args.first.now c.args.second.now c.requires.first c.args.from c.args.until c.requires.some c.requires.in_day c.stretch.linked.items c.stretch.place c.stretch.index
    c.stretch.at c.stretch.invariant c.stretch-test.true
    c.index-first-index-in-stretch.result c.index-first-index-in-stretch-2.result c.min-end.result c.index-first-index-in-stretch.is c.index-first-index-in-stretch-2.is
    (omega (arith, c.min-end.ensures, c.from.ensures.from)) in
    omega (arith, order.0, order.1)

pub stretch-preserved : goal.stretch-preserved
stretch-preserved c =
    linking_more c.args.first.now c.args.second.now c.requires.first c.args.from c.args.until c.requires.some c.requires.in_day c.stretch.linked.items c.stretch.place c.stretch.index c.stretch.at
    c.stretch.invariant c.stretch-test.true
    c.index-first-index-in-stretch.result c.index-first-index-in-stretch-2.result c.min-end.result c.index-first-index-in-stretch.is c.index-first-index-in-stretch-2.is
    (omega (arith, c.min-end.ensures, c.from.ensures.from))
    c.link_run.new.linked.items c.in_ok-place.place c.in_ok-place.ensures.place c.in_ok-place.ensures.linked

pub returns-clause-over_day : goal.returns-clause-over_day
returns-clause-over_day c =
    (linking_closed c.args.first.now c.args.second.now c.requires.first c.args.from c.args.until c.requires.some c.requires.in_day c.stretch.linked.items c.stretch.place c.stretch.index
    c.stretch.at c.stretch.invariant
    c.push.new.self.items c.end.result (omega (arith, c.stretch-test.false)) c.end.ensures c.in_ok-push.ensures.items).0

pub returns-clause-value : goal.returns-clause-value
returns-clause-value c =
    (linking_closed c.args.first.now c.args.second.now c.requires.first c.args.from c.args.until c.requires.some c.requires.in_day c.stretch.linked.items c.stretch.place c.stretch.index
    c.stretch.at c.stretch.invariant
    c.push.new.self.items c.end.result (omega (arith, c.stretch-test.false)) c.end.ensures c.in_ok-push.ensures.items).1
