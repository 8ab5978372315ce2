use Rattle.cu_runs.proofs.ReadLaws.{least_read}
use Rattle.cu_runs.proofs.merging.PartMerger.least_runs.Goals as goal

pub returns-clause-function : goal.returns-clause-function
returns-clause-function c =
    (least_read c.self.inside.least c.args.self.now c.in_ok-packed.packed.items c.deref.result.now c.self.invariant c.requires.order c.self.view_is c.deref.ensures.value
    record { over_day = c.in_ok-packed.ensures.over_day; value = c.in_ok-packed.ensures.value; compact = c.in_ok-packed.ensures.compact; end = c.in_ok-packed.ensures.end } c.requires.limit).0

pub returns-clause-value : goal.returns-clause-value
returns-clause-value c =
    (least_read c.self.inside.least c.args.self.now c.in_ok-packed.packed.items c.deref.result.now c.self.invariant c.requires.order c.self.view_is c.deref.ensures.value
    record { over_day = c.in_ok-packed.ensures.over_day; value = c.in_ok-packed.ensures.value; compact = c.in_ok-packed.ensures.compact; end = c.in_ok-packed.ensures.end } c.requires.limit).1
