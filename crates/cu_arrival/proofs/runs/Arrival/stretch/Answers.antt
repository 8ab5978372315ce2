use Rattle.std.proofs.Common.{rules, arith}
use Rattle.cu_arrival.specs.Runs.{IsArrivalFunction}
use Rattle.cu_arrival.specs.Steps.Stretches.{IsStretch}
use Rattle.cu_arrival.proofs.StretchLaws.{stretch_day, stretch_limit, stretch_next, stretch_value}
use Rattle.cu_arrival.proofs.runs.Arrival.stretch.Goals as goal

pub returns-clause-kept : goal.returns-clause-kept
returns-clause-kept c =
    let sound : IsArrivalFunction c.args.self.now = search rules in
    let is : IsStretch c.args.self.now c.stretch_at-stretch.result c.args.second = search rules in
    stretch_value c.args.self.now c.stretch_at-stretch.result c.args.second sound is

pub returns-clause-next : goal.returns-clause-next
returns-clause-next c =
    let sound : IsArrivalFunction c.args.self.now = search rules in
    let is : IsStretch c.args.self.now c.stretch_at-stretch.result c.args.second = search rules in
    let midnight = (stretch_day c.args.self.now c.stretch_at-stretch.result c.args.second sound is c.requires).0 in
    stretch_next c.args.self.now c.stretch_at-stretch.result c.args.second sound is midnight

pub returns-clause-limit : goal.returns-clause-limit
returns-clause-limit c =
    let sound : IsArrivalFunction c.args.self.now = search rules in
    let is : IsStretch c.args.self.now c.stretch_at-stretch.result c.args.second = search rules in
    let limit = stretch_limit c.args.self.now c.stretch_at-stretch.result c.args.second sound is in
    let midnight = (stretch_day c.args.self.now c.stretch_at-stretch.result c.args.second sound is c.requires).0 in
    omega (arith, limit, midnight)
