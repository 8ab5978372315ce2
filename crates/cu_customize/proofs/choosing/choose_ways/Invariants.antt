use Rattle.std.proofs.Common.{◌-◌}
use Rattle.cu_customize.specs.Steps.Choosing.{IsFront}
use Rattle.cu_customize.proofs.Fronts.{IsChosenTo}
use Rattle.cu_customize.proofs.choosing.choose_ways.Given as goal

abbrev pub invariant-day : goal.invariant-day
invariant-day l = record {
  front : IsFront l.entries l.choices l.front;
  grown : IsChosenTo l.entries l.choices l.way l.merged.items l.front.at;
}

abbrev pub decreases-day : goal.decreases-day
decreases-day l = 86400 - l.front.at
