use Rattle.std.proofs.Common.{arith}
use Rattle.cu_arrival.specs.Runs.{arrival_value}
use Rattle.cu_runs.proofs.TravelLaws.{least_always}
use Rattle.cu_runs.proofs.day_function.DayFunction.day_least_with.Goals as goal

pub returns : goal.returns
returns c t late early =
    let first = c.args.self.now in
    let second = c.args.second.now in
    let to = c.least.ensures.least t early in
    let on = least_always second c.least-2.result c.least-2.ensures.function c.least-2.ensures.least (arrival_value first t) in
    omega (arith, to, on, c.saturating_add-least.ensures, c.min.ensures)
