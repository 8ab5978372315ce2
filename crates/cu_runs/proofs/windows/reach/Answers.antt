use Rattle.std.proofs.Common.{◌/◌, arith}
use Rattle.cu_model.specs.Days.{day}
use Rattle.cu_runs.proofs.WindowLaws.{four_reached, two_reached}
use Rattle.cu_runs.proofs.windows.reach.Goals as goal

pub returns-then-last-saturating_add-clause-reach : goal.returns-then-last-saturating_add-clause-reach
returns-then-last-saturating_add-clause-reach c windows are =
    let inside = c.window_at-window.ensures in
    let (start, end) = two_reached windows c.window_at-window.result inside in
    let low = c.start_in.ensures windows are in
    let below = c.if-start_in-second.false in
    let high = c.start_in-2.ensures windows are in
    let sum = c.saturating_add.ensures in
    let above = c.if-last-saturating_add.true in
    (omega (arith, inside), λ within. (omega (arith, sum, above), (c.args.first / day, omega (arith, start, low, below), omega (arith, end, high, sum, above))))

pub returns-then-last-saturating_add-2-clause-reach : goal.returns-then-last-saturating_add-2-clause-reach
returns-then-last-saturating_add-2-clause-reach c windows are =
    let inside = c.window_at-window.ensures in
    let (start, end) = four_reached windows c.window_at-window.result inside in
    let low = c.start_in.ensures windows are in
    let below = c.if-start_in-second.false in
    let high = c.start_in-3.ensures windows are in
    let sum = c.saturating_add-2.ensures in
    let above = c.if-last-saturating_add-2.true in
    (omega (arith, inside), λ within. (omega (arith, sum, above), (c.args.first / day, omega (arith, start, low, below), omega (arith, end, high, sum, above))))
