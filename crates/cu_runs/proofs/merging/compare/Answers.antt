use Rattle.std.proofs.Common.{arith, ◌∙◌, ◌≡◌, ◌<◌, ℕ, List, subst, sym}
use Rattle.cu_arrival.specs.declared.runs.Run.{Run}
use Rattle.cu_arrival.specs.Runs.{arrival_value}
use Rattle.cu_runs.specs.Steps.Merging.{Merges}
use Rattle.cu_runs.specs.Steps.Bounded.{IsAt}
use Rattle.cu_model.specs.Days.{day}
use Rattle.cu_runs.proofs.DayLists.{item_from}
use Rattle.cu_runs.proofs.CompareLaws.{at_found, comparing_none, more_runs, stretch_order, stretch_held, stretch_next, stretch_tie}
use Rattle.cu_runs.proofs.merging.compare.Goals as goal

pub stretch-init : goal.stretch-init
stretch-init c =
    let before : c.args.from < day = omega (arith, c.requires.some, c.requires.in_day) in
    comparing_none c.args.least.now c.args.candidate.now c.args.way c.args.next.now c.args.from c.args.until c.in_force-index.result c.index_at-other.result c.requires.next c.requires.order
    c.requires.some
    (at_found c.args.candidate.now c.in_force-index.result c.args.from before c.in_force-index.ensures.begun
    (λ next there.
    let (run, is, later) = c.in_force-index.ensures.next in
    let same : run ≡ next = cc (is, there) in
    subst (λ (r : Run). c.args.from < r.from) same later))
    (subst (λ (packed : List Run). IsAt packed c.index_at-other.result c.args.from) c.deref.ensures.value
    (at_found c.deref.result.now c.index_at-other.result c.args.from before c.index_at-other.ensures.begun c.index_at-other.ensures.lasts))

pub in_force-index-requires-clause-begun : goal.in_force-index-requires-clause-begun
in_force-index-requires-clause-begun c =
    let (run, there, starts) = item_from (λ (r : Run). r.from) c.args.candidate.now 0 0 c.requires.candidate.starts in
    (run, there, omega (arith, starts))

pub compare_runs-requires-clause-order : goal.compare_runs-requires-clause-order
compare_runs-requires-clause-order c = c.stretch.invariant.done

pub compare_runs-requires-clause-held : goal.compare_runs-requires-clause-held
compare_runs-requires-clause-held c =
    stretch_held c.args.least.now c.args.candidate.now c.args.way c.args.next.now c.stretch.next c.args.from c.args.until c.stretch.index c.stretch.other c.stretch.at c.min-end.result
    c.index-candidate-index-in-stretch.result c.index-candidate-index.result c.index-in-stretch-2.result.now c.index.result.now c.requires.least c.requires.candidate c.requires.in_day
    c.stretch.invariant c.stretch-test.true
    c.index-candidate-index-in-stretch.is c.index-candidate-index.is c.index-in-stretch-2.ensures c.index.ensures
    (omega (arith, c.min-end.ensures, c.min-both_end.ensures, c.from-run_end.ensures.from, c.from-held_end.ensures.from))

pub compare_runs-requires-clause-tie : goal.compare_runs-requires-clause-tie
compare_runs-requires-clause-tie c =
    stretch_tie c.args.least.now c.args.candidate.now c.args.way c.args.next.now c.stretch.next c.args.from c.args.until c.stretch.index c.stretch.other c.stretch.at c.min-end.result
    c.index-candidate-index-in-stretch.result c.index-candidate-index.result c.index-in-stretch-2.result.now c.index.result.now c.requires.least c.requires.candidate c.requires.in_day
    c.stretch.invariant c.stretch-test.true
    c.index-candidate-index-in-stretch.is c.index-candidate-index.is c.index-in-stretch-2.ensures c.index.ensures
    (omega (arith, c.min-end.ensures, c.min-both_end.ensures, c.from-run_end.ensures.from, c.from-held_end.ensures.from))
    c.index-in-stretch.result.now c.tie_between-tie.result c.index-in-stretch.ensures c.tie_between-tie.ensures.tie

pub stepped-index-requires : goal.stepped-index-requires
stepped-index-requires c =
    let more = more_runs c.args.least.now c.args.candidate.now c.args.way c.args.next.now c.stretch.next c.args.from c.args.until c.stretch.index c.stretch.other c.stretch.at c.min-end.result
    c.index-candidate-index-in-stretch.result c.index-candidate-index.result c.index-in-stretch-2.result.now c.index.result.now c.requires.least c.requires.candidate c.requires.in_day
    c.stretch.invariant c.stretch-test.true
    c.index-candidate-index-in-stretch.is c.index-candidate-index.is c.index-in-stretch-2.ensures c.index.ensures
    (omega (arith, c.min-end.ensures, c.min-both_end.ensures, c.from-run_end.ensures.from, c.from-held_end.ensures.from)) in
    omega (arith, more.0)

pub stepped-other-requires : goal.stepped-other-requires
stepped-other-requires c =
    let more = more_runs c.args.least.now c.args.candidate.now c.args.way c.args.next.now c.stretch.next c.args.from c.args.until c.stretch.index c.stretch.other c.stretch.at c.min-end.result
    c.index-candidate-index-in-stretch.result c.index-candidate-index.result c.index-in-stretch-2.result.now c.index.result.now c.requires.least c.requires.candidate c.requires.in_day
    c.stretch.invariant c.stretch-test.true
    c.index-candidate-index-in-stretch.is c.index-candidate-index.is c.index-in-stretch-2.ensures c.index.ensures
    (omega (arith, c.min-end.ensures, c.min-both_end.ensures, c.from-run_end.ensures.from, c.from-held_end.ensures.from)) in
    omega (arith, more.1)

pub stretch-smaller : goal.stretch-smaller
stretch-smaller c =
    let order = stretch_order c.args.least.now c.args.candidate.now c.args.way c.args.next.now c.stretch.next c.args.from c.args.until c.stretch.index c.stretch.other c.stretch.at c.min-end.result
    c.index-candidate-index-in-stretch.result c.index-candidate-index.result c.index-in-stretch-2.result.now c.index.result.now c.requires.least c.requires.candidate c.requires.in_day
    c.stretch.invariant c.stretch-test.true
    c.index-candidate-index-in-stretch.is c.index-candidate-index.is c.index-in-stretch-2.ensures c.index.ensures
    (omega (arith, c.min-end.ensures, c.min-both_end.ensures, c.from-run_end.ensures.from, c.from-held_end.ensures.from)) in
    omega (arith, order.0, order.1)

pub stretch-preserved : goal.stretch-preserved
stretch-preserved c =
    stretch_next c.args.least.now c.args.candidate.now c.args.way c.args.next.now c.stretch.next c.args.from c.args.until c.stretch.index c.stretch.other c.stretch.at c.min-end.result
    c.index-candidate-index-in-stretch.result c.index-candidate-index.result c.index-in-stretch-2.result.now c.index.result.now c.requires.least c.requires.candidate c.requires.in_day
    c.stretch.invariant c.stretch-test.true
    c.index-candidate-index-in-stretch.is c.index-candidate-index.is c.index-in-stretch-2.ensures c.index.ensures
    (omega (arith, c.min-end.ensures, c.min-both_end.ensures, c.from-run_end.ensures.from, c.from-held_end.ensures.from))
    c.compare_runs.new.next c.stepped-index.result c.stepped-other.result c.in_ok-compare_runs.ensures.next c.in_ok-compare_runs.ensures.order c.in_ok-compare_runs.ensures.merged
    (λ e. c.stepped-index.ensures.ended (c.from-run_end.ensures.from ∙ e)) (λ ne. c.stepped-index.ensures.lasts (λ e. ne (sym c.from-run_end.ensures.from ∙ e)))
    (λ e. c.stepped-other.ensures.ended (c.from-held_end.ensures.from ∙ e)) (λ ne. c.stepped-other.ensures.lasts (λ e. ne (sym c.from-held_end.ensures.from ∙ e)))

pub returns-clause-merged : goal.returns-clause-merged
returns-clause-merged c =
    let end : c.stretch.at ≡ c.args.until = let order = c.stretch.invariant.order.1 in omega (arith, order, c.stretch-test.false) in
    subst (λ (t : ℕ). Merges c.args.least.now c.args.from t (arrival_value c.args.candidate.now) c.args.way c.args.next.now c.stretch.next) end c.stretch.invariant.merging
