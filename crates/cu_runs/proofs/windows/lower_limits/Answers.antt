use Rattle.std.proofs.Common.{◌≡◌, ◌<◌, ◌+◌, ℕ, arith, get_or, inl, inr, length, rules, subst}
use Rattle.std.proofs.lemmas.Bool.{cases_lt}
use Rattle.cu_arrival.specs.Runs.{arrival_value}
use Rattle.cu_runs.specs.Steps.Bounded.{IsAt}
use Rattle.cu_runs.specs.Windows.{IsLowered, TakesUpToBetween, window_start}
use Rattle.cu_runs.proofs.BoundLaws.{ahead_set, each_set}
use Rattle.cu_runs.proofs.WindowLaws.{starts_in_day, starts_rise}
use Rattle.cu_runs.proofs.windows.lower_limits.Goals as goal

pub travels_between-travels-requires-clause-order : goal.travels_between-travels-requires-clause-order
travels_between-travels-requires-clause-order c =
    let from = c.start_in-from.ensures c.args.windows c.starts-starts.ensures in
    let until = c.start_in-until.ensures c.args.windows c.starts-starts.ensures in
    let rise = starts_rise c.args.windows c.windows.window in
    omega (arith, from, until, rise)

pub travels_between-travels-requires-clause-in_day : goal.travels_between-travels-requires-clause-in_day
travels_between-travels-requires-clause-in_day c =
    let until = c.start_in-until.ensures c.args.windows c.starts-starts.ensures in
    let in_day = starts_in_day c.args.windows (c.windows.window + 1) in
    omega (arith, until, in_day)

pub windows-preserved : goal.windows-preserved
windows-preserved c =
    let packed = c.args.packed.now in
    let f = arrival_value packed in
    let windows = c.args.windows in
    let window = c.windows.window in
    let travels = c.travels_between-travels in
    let from = c.start_in-from.ensures windows c.starts-starts.ensures in
    let until = c.start_in-until.ensures windows c.starts-starts.ensures in
    let inside : window < length c.windows.limits = search rules in
    let before : get_or c.windows.limits window 0 ≡ get_or c.args.limits.now window 0 = c.windows.invariant.ahead window (omega arith) in
    let takes : TakesUpToBetween f (window_start windows window) (window_start windows (window + 1)) travels.result.most =
    subst (λ (t : ℕ). TakesUpToBetween f t (window_start windows (window + 1)) travels.result.most) from
    (subst (λ (t : ℕ). TakesUpToBetween f c.start_in-from.result t travels.result.most) until travels.ensures.most) in
    let here : IsLowered f (window_start windows window) (window_start windows (window + 1)) (get_or c.args.limits.now window 0) c.lesser.result =
    elim (cases_lt travels.result.most (get_or c.windows.limits window 0)) [
      | inl lt ↦ inr (λ t late early. let bound = takes t late early in omega (arith, bound, lt, c.lesser.ensures))
      | inr ge ↦ inl (omega (arith, ge, before, c.lesser.ensures))
    ] in
    record {
      held = subst (λ (t : ℕ). IsAt packed travels.result.index t) until travels.ensures.index;
      lowered = each_set (λ window limit. IsLowered f (window_start windows window) (window_start windows (window + 1)) (get_or c.args.limits.now window 0) limit)
          c.windows.limits window c.lesser.result inside
          c.windows.invariant.lowered here;
      ahead = ahead_set c.windows.limits c.args.limits.now window c.lesser.result c.windows.invariant.ahead;
    }
