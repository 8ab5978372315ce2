use Rattle.std.proofs.Common.{arith, ◌<◌, ◌+◌, ◌-◌, ℕ, length, subst, sym, ap}
use Rattle.cu_arrival.specs.Runs.{arrival_value, arrives}
use Rattle.cu_runs.proofs.DayLists.{two_packed}
use Rattle.cu_runs.proofs.TravelLaws.{IsLeastBefore, begin_of, begin_read, begin_next, begin_end, run_onward, least_first, least_more}
use Rattle.cu_runs.proofs.packed_runs.least_travel.Goals as goal

pub runs-init : goal.runs-init
runs-init c =
    let packed = c.args.packed.now in
    let two = two_packed packed c.requires.over_day in
    let first = least_first packed c.requires.over_day c.requires.onward c.index-packed-0.result c.index-packed-0.is in
    record {
      inside = omega (arith, two);
      least = subst (λ (n : ℕ). IsLeastBefore (arrival_value packed) n (begin_of packed 0)) (sym c.arrives-least.ensures) first;
    }

pub overflow_sub-arrives : goal.overflow_sub-arrives
overflow_sub-arrives c =
    let packed = c.args.packed.now in
    let read = c.index-packed-index-in-runs.result in
    let inside : c.runs.index + 1 < length packed = omega arith in
    let until = begin_read packed c.requires.over_day (c.runs.index + 1) c.index-packed-index.result inside c.index-packed-index.is in
    let order = begin_next packed c.requires.over_day c.runs.index inside in
    let after = run_onward packed c.requires.over_day c.requires.onward c.runs.index (c.from-last.result - 1) read inside c.index-packed-index-in-runs.is
    (omega (arith, until, order.0, c.from-last.ensures.from)) (omega (arith, until, order.0, c.from-last.ensures.from)) in
    omega (arith, after, c.arrives.ensures)

pub runs-preserved : goal.runs-preserved
runs-preserved c =
    let packed = c.args.packed.now in
    let read = c.index-packed-index-in-runs.result in
    let inside : c.runs.index + 1 < length packed = omega arith in
    let next = c.index-packed-index.result in
    let more = least_more packed c.requires.over_day c.requires.onward c.runs.index c.runs.least read next inside c.index-packed-index-in-runs.is c.index-packed-index.is c.runs.invariant.least in
    record {
      inside = inside;
      least = subst (λ (n : ℕ). IsLeastBefore (arrival_value packed) n (begin_of packed (c.runs.index + 1)))
          (omega (arith, c.min-least.ensures, c.arrives.ensures, ap (λ (l : ℕ). arrives read.rule (l - 1)) c.from-last.ensures.from, c.from-last.ensures.from)) more;
    }

pub returns-clause-least : goal.returns-clause-least
returns-clause-least c t h =
    let end = begin_end c.args.packed.now c.requires.over_day c.runs.index (omega (arith, c.runs.invariant.inside)) in
    c.runs.invariant.least.below t (omega (arith, end, h))
