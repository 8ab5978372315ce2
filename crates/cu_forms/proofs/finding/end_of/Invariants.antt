-- The rule was kept so far, and at its first second it is.
use Rattle.std.proofs.Common.{◌≤◌, ◌-◌}
use Rattle.cu_model.specs.Days.{day}
use Rattle.cu_model.specs.DayForms.{IsKept}
use Rattle.cu_forms.specs.Said.{rule_said}
use Rattle.cu_forms.proofs.finding.end_of.Given as goal

abbrev pub invariant-stretches : goal.invariant-stretches
invariant-stretches g l =
    (l.from ≤ l.end) × (l.end ≤ day) × IsKept (g.F.DayValues.value l.function) (rule_said l.rule) l.from l.end

abbrev pub decreases-stretches : goal.decreases-stretches
decreases-stretches g l = day - l.end
