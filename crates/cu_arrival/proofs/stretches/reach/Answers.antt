use Rattle.std.proofs.Common.{arith}
use Rattle.cu_arrival.proofs.StretchLaws.{stretch_value, stretch_near, stretch_day, stretch_limit}
use Rattle.cu_arrival.proofs.stretches.reach.Goals as goal

pub returns-clause-value : goal.returns-clause-value
returns-clause-value c = stretch_value c.args.runs.now c.loop-stretch.stretch c.args.second c.requires.valid c.loop-stretch.invariant c.args.second (omega arith) (omega arith)

pub returns-clause-near : goal.returns-clause-near
returns-clause-near c = (stretch_near c.args.runs.now c.loop-stretch.stretch c.args.second c.requires.valid c.loop-stretch.invariant).1

pub returns-clause-limit : goal.returns-clause-limit
returns-clause-limit c =
    let limit = stretch_limit c.args.runs.now c.loop-stretch.stretch c.args.second c.requires.valid c.loop-stretch.invariant in
    let near = stretch_near c.args.runs.now c.loop-stretch.stretch c.args.second c.requires.valid c.loop-stretch.invariant in
    omega (arith, limit, near.0)

pub returns-clause-day : goal.returns-clause-day
returns-clause-day c first_day = (stretch_day c.args.runs.now c.loop-stretch.stretch c.args.second c.requires.valid c.loop-stretch.invariant first_day).1

pub returns-clause-day_limit : goal.returns-clause-day_limit
returns-clause-day_limit c first_day =
    let limit = stretch_limit c.args.runs.now c.loop-stretch.stretch c.args.second c.requires.valid c.loop-stretch.invariant in
    let midnight = (stretch_day c.args.runs.now c.loop-stretch.stretch c.args.second c.requires.valid c.loop-stretch.invariant first_day).0 in
    omega (arith, limit, midnight)
