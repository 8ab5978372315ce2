use Rattle.std.proofs.Common.{◌≡◌, ◌<◌, ◌+◌, ◌∙◌, ◌^◌, ℕ, ap, arith, get_or, length, min, rules, subst}
use Rattle.cu_runs.specs.declared.windows.TheConstants.{WINDOWS}
use Rattle.cu_runs.specs.declared.windows.Windows.{Windows}
use Rattle.cu_runs.specs.Steps.Bounded.{IsUpper}
use Rattle.cu_runs.specs.Windows.{AreEach, IsLowered, TakesBetween, window_start}
use Rattle.cu_runs.specs.PackedRuns.{composed}
use Rattle.cu_runs.proofs.BoundLaws.{ahead_set, each_set}
use Rattle.cu_runs.proofs.WindowLaws.{lowered_one, starts_in_day}
use Rattle.cu_runs.proofs.day_function.DayFunction.bound_with.Goals as goal

pub windows-preserved : goal.windows-preserved
windows-preserved c =
    let f = composed c.args.self.now c.args.second.now in
    let windows = c.args.windows in
    let window = c.windows.window in
    let from = window_start windows window in
    let until = window_start windows (window + 1) in
    let both = c.in-Some-Some in
    let least = c.least_with in
    let most = c.most_with in
    let old = get_or c.args.limits.now window 0 in
    let in_lower : window < length c.windows.lower = search rules in
    let in_limits : window < length c.windows.limits = search rules in
    let takes : TakesBetween f from until least.result =
    subst (λ (ws : Windows). TakesBetween f (window_start ws window) (window_start ws (window + 1)) least.result) both.ensures.windows
    (least.ensures c.args.self.now c.args.second.now both.ensures'.function both.ensures.known both.ensures'.known) in
    let upper : IsUpper f from until most.result =
    subst (λ (ws : Windows). IsUpper f (window_start ws window) (window_start ws (window + 1)) most.result) both.ensures.windows
    (most.ensures c.args.self.now c.args.second.now both.ensures'.function both.ensures.known both.ensures'.known) in
    let before : get_or c.windows.limits window 0 ≡ old = c.windows.invariant.ahead window (omega arith) in
    let fits : old < 2 ^ 32 = search rules in
    let same : c.min.result ≡ min old most.result = c.min.ensures ∙ ap (λ (n : ℕ). min n most.result) before in
    let lowered : IsLowered f from until old c.min.result = lowered_one f from until old most.result c.min.result upper fits same in
    record {
      lower = each_set (λ window bound. TakesBetween f (window_start windows window) (window_start windows (window + 1)) bound) c.windows.lower window
          least.result in_lower c.windows.invariant.lower takes;
      lowered = each_set (λ window limit. IsLowered f (window_start windows window) (window_start windows (window + 1)) (get_or c.args.limits.now window 0) limit)
          c.windows.limits window c.min.result in_limits
          c.windows.invariant.lowered lowered;
      ahead = ahead_set c.windows.limits c.args.limits.now window c.min.result c.windows.invariant.ahead;
    }

pub returns-clause-lower : goal.returns-clause-lower
returns-clause-lower c =
    let all : c.windows.window ≡ WINDOWS = omega arith in
    let f = composed c.args.self.now c.args.second.now in
    let windows = c.args.windows in
    subst (λ (n : ℕ). AreEach (λ window bound. TakesBetween f (window_start windows window) (window_start windows (window + 1)) bound) c.windows.lower n) all c.windows.invariant.lower

pub returns-in_default-clause-lower : goal.returns-in_default-clause-lower
returns-in_default-clause-lower c window inside t late early =
    let same = c.fill.ensures window inside in
    let in_day = starts_in_day c.args.windows (window + 1) in
    let takes = c.day_least_with.ensures t (omega arith) (omega (arith, early, in_day)) in
    omega (arith, same, takes)
