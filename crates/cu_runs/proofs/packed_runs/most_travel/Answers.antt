use Rattle.std.proofs.Common.{arith, ◌≡◌, ◌<◌, ◌+◌, ℕ, length, subst, sym, ap}
use Rattle.cu_arrival.specs.Runs.{arrival_value, arrives}
use Rattle.cu_runs.proofs.DayLists.{two_packed}
use Rattle.cu_runs.proofs.TravelLaws.{IsMostBefore, begin_of, begin_read, begin_next, begin_end, run_onward, most_first, most_more}
use Rattle.cu_runs.proofs.packed_runs.most_travel.Goals as goal

pub runs-init : goal.runs-init
runs-init c =
    let packed = c.args.packed.now in
    let two = two_packed packed c.requires.over_day in
    let first = most_first packed c.requires.over_day c.requires.onward c.index-packed-0.result c.index-packed-0.is in
    record {
      inside = omega (arith, two);
      most = subst (λ (n : ℕ). IsMostBefore (arrival_value packed) n (begin_of packed 0)) (sym c.arrives-most.ensures) first;
    }

pub overflow_sub-arrives : goal.overflow_sub-arrives
overflow_sub-arrives c =
    let packed = c.args.packed.now in
    let read = c.index-packed-index-in-runs.result in
    let inside : c.runs.index + 1 < length packed = omega arith in
    let begins = begin_read packed c.requires.over_day c.runs.index c.index-packed-index.result (omega (arith, inside)) c.index-packed-index.is in
    let order = begin_next packed c.requires.over_day c.runs.index inside in
    let after = run_onward packed c.requires.over_day c.requires.onward c.runs.index c.from-from.result read inside c.index-packed-index-in-runs.is
    (omega (arith, begins, c.from-from.ensures.from)) (omega (arith, begins, order.0, c.from-from.ensures.from)) in
    omega (arith, after, c.arrives.ensures)

pub runs-preserved : goal.runs-preserved
runs-preserved c =
    let packed = c.args.packed.now in
    let read = c.index-packed-index-in-runs.result in
    let inside : c.runs.index + 1 < length packed = omega arith in
    let begins = begin_read packed c.requires.over_day c.runs.index c.index-packed-index.result (omega (arith, inside)) c.index-packed-index.is in
    let same = begin_read packed c.requires.over_day c.runs.index read (omega (arith, inside)) c.index-packed-index-in-runs.is in
    let from : c.from-from.result ≡ read.from = omega (arith, begins, same, c.from-from.ensures.from) in
    let more = most_more packed c.requires.over_day c.requires.onward c.runs.index c.runs.most read inside c.index-packed-index-in-runs.is c.runs.invariant.most in
    record {
      inside = inside;
      most = subst (λ (n : ℕ). IsMostBefore (arrival_value packed) n (begin_of packed (c.runs.index + 1)))
          (omega (arith, c.max-most.ensures, c.arrives.ensures, ap (λ (l : ℕ). arrives read.rule l) from, from)) more;
    }

pub returns-clause-most : goal.returns-clause-most
returns-clause-most c t h =
    let end = begin_end c.args.packed.now c.requires.over_day c.runs.index (omega (arith, c.runs.invariant.inside)) in
    c.runs.invariant.most.above t (omega (arith, end, h))
