use Rattle.std.proofs.Common.{arith, ◌∙◌, ◌≡◌, ◌-◌, ℕ, ap, max, sym}
use Rattle.cu_arrival.specs.Runs.{arrives}
use Rattle.cu_runs.proofs.WindowLaws.{travelling_done, travelling_more, travelling_next, travelling_none, travelling_order}
use Rattle.cu_runs.proofs.windows.travels_between.Goals as goal

pub stretch-init : goal.stretch-init
stretch-init c = travelling_none c.args.packed.now c.args.from c.args.until c.args.first _ _ c.requires.order c.requires.first

pub bounds-packed-index-in-stretch : goal.bounds-packed-index-in-stretch
bounds-packed-index-in-stretch c =
    travelling_next c.args.packed.now c.requires.over_day c.args.from c.args.until c.stretch.index c.stretch.at c.stretch.least c.stretch.most c.requires.in_day c.stretch.invariant c.stretch-test.true

pub stretch-smaller : goal.stretch-smaller
stretch-smaller c =
    let order = travelling_order c.args.packed.now c.requires.over_day c.args.from c.args.until c.stretch.index c.stretch.at c.stretch.least c.stretch.most
    c.requires.in_day c.stretch.invariant c.stretch-test.true
    c.index-packed-index.result c.index-packed-index-in-stretch.result c.min-end.result c.index-packed-index.is c.index-packed-index-in-stretch.is
    (omega (arith, c.min-end.ensures, c.from-run_end.ensures.from)) in
    omega (arith, order.0, order.1)

pub stretch-preserved : goal.stretch-preserved
stretch-preserved c =
    let taken : c.saturating_sub-in-stretch.result ≡ arrives c.index-packed-index.result.rule c.stretch.at - c.stretch.at =
    omega (arith, c.saturating_sub-in-stretch.ensures, c.arrives-in-stretch.ensures) in
    travelling_more c.args.packed.now c.requires.over_day c.args.from c.args.until c.stretch.index c.stretch.at c.stretch.least c.stretch.most c.requires.in_day c.stretch.invariant c.stretch-test.true
    c.index-packed-index.result c.index-packed-index-in-stretch.result c.min-end.result c.index-packed-index.is c.index-packed-index-in-stretch.is
    (omega (arith, c.min-end.ensures, c.from-run_end.ensures.from))
    c.stepped-index.result c.min-least.result c.max-most.result (omega (arith, c.min-least.ensures, c.saturating_sub.ensures, c.arrives.ensures))
    (c.max-most.ensures ∙ ap (λ (n : ℕ). max c.stretch.most n) taken)
    (λ e. c.stepped-index.ensures.ended (c.from-run_end.ensures.from ∙ e)) (λ ne. c.stepped-index.ensures.lasts (λ e. ne (sym c.from-run_end.ensures.from ∙ e)))

pub returns-clause-index : goal.returns-clause-index
returns-clause-index c =
    (travelling_done c.args.packed.now c.args.from c.args.until c.stretch.index c.stretch.at c.stretch.least c.stretch.most c.stretch.invariant (omega (arith, c.stretch-test.false))).0

pub returns-clause-least : goal.returns-clause-least
returns-clause-least c =
    (travelling_done c.args.packed.now c.args.from c.args.until c.stretch.index c.stretch.at c.stretch.least c.stretch.most c.stretch.invariant (omega (arith, c.stretch-test.false))).1

pub returns-clause-most : goal.returns-clause-most
returns-clause-most c =
    (travelling_done c.args.packed.now c.args.from c.args.until c.stretch.index c.stretch.at c.stretch.least c.stretch.most c.stretch.invariant (omega (arith, c.stretch-test.false))).2
