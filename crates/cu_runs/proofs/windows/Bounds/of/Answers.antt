use Rattle.std.proofs.Common.{◌≡◌, ◌<◌, ◌+◌, ◌∙◌, ℕ, arith, length, length-set, subst, sym}
use Rattle.cu_arrival.specs.Runs.{arrival_value}
use Rattle.cu_runs.specs.declared.windows.TheConstants.{WINDOWS}
use Rattle.cu_runs.specs.declared.windows.Windows.{Windows}
use Rattle.cu_runs.specs.Steps.Bounded.{AreReaches, AreWindows, IsAt}
use Rattle.cu_runs.proofs.BoundLaws.{windows_set}
use Rattle.cu_runs.proofs.WindowLaws.{starts_in_day, starts_rise}
use Rattle.cu_runs.proofs.windows.Bounds.of.Goals as goal

pub travels_between-travels-requires-clause-order : goal.travels_between-travels-requires-clause-order
travels_between-travels-requires-clause-order c =
    let from = c.start_in-from.ensures c.args.windows c.starts-starts.ensures in
    let until = c.start_in-until.ensures c.args.windows c.starts-starts.ensures in
    let rise = starts_rise c.args.windows c.windows.window in
    omega (arith, from, until, rise)

pub travels_between-travels-requires-clause-in_day : goal.travels_between-travels-requires-clause-in_day
travels_between-travels-requires-clause-in_day c =
    let until = c.start_in-until.ensures c.args.windows c.starts-starts.ensures in
    let in_day = starts_in_day c.args.windows (c.windows.window + 1) in
    omega (arith, until, in_day)

pub windows-preserved : goal.windows-preserved
windows-preserved c =
    let packed = c.args.packed.now in
    let bounds = c.windows.bounds in
    let travels = c.travels_between-travels in
    let window = c.windows.window in
    let own_long = c.windows.invariant.own_long in
    let reach_long = c.windows.invariant.reach_long in
    let one : window < length bounds.own = omega (arith, own_long) in
    let two : window < length bounds.reach = omega (arith, reach_long) in
    let from = c.start_in-from.ensures c.args.windows c.starts-starts.ensures in
    let until = c.start_in-until.ensures c.args.windows c.starts-starts.ensures in
    record {
      held = subst (λ (t : ℕ). IsAt packed travels.result.index t) until travels.ensures.index;
      known = windows_set c.args.windows (arrival_value packed) bounds window c.window_of-known.result one two c.windows.invariant.known
          (c.window_of-known.ensures c.args.windows c.starts-starts.ensures (arrival_value packed) window from until (travels.ensures.least c.requires.onward) travels.ensures.most);
      own_long = length-set bounds.own window c.window_of-known.result.span ∙ own_long;
      reach_long = length-set bounds.reach window c.window_of-known.result.reach ∙ reach_long;
      windows = c.windows.invariant.windows;
    }

pub returns-clause-windows : goal.returns-clause-windows
returns-clause-windows c = c.windows.invariant.windows

pub returns-clause-bounds : goal.returns-clause-bounds
returns-clause-bounds c =
    let all : c.windows.window ≡ WINDOWS = omega arith in
    let f = arrival_value c.args.packed.now in
    let windows = c.args.windows in
    let bounds = c.windows.bounds in
    let same : windows ≡ bounds.windows = sym c.windows.invariant.windows in
    let known : AreWindows windows f bounds WINDOWS = subst (λ (n : ℕ). AreWindows windows f bounds n) all c.windows.invariant.known in
    let over = c.by_reach-bounds in
    let whole = c.span_of-whole.ensures f 0 86400 (λ t late early. c.requires.least t early) (λ t late early. c.requires.most t early) in
    record {
      windows = subst (λ (ws : Windows). AreWindows ws f bounds WINDOWS) same known;
      over = subst (λ (ws : Windows). AreReaches ws f over.result) same (over.ensures windows f (λ i inside. (known i inside).span) whole);
    }
