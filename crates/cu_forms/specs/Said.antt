-- The rule of a profile that a rule of a function says.
use Rattle.std.specs.Prelude.{ℕ}
use Rattle.cu_model.specs.declared.profiles.Rule.{Rule}
use Rattle.cu_model.specs.declared.profiles.Rule.TheVariants as rule
use Rattle.cu_forms.specs.declared.values.DayRule.{DayRule}
use Rattle.cu_forms.specs.declared.values.DayRule.TheVariants.{Travel, Until}

abbrev pub rule_said : DayRule → Rule
rule_said (Travel seconds) = rule.Travel seconds
rule_said (Until arrival) = rule.Until arrival

abbrev pub number_said : DayRule → ℕ
number_said (Travel seconds) = seconds
number_said (Until arrival) = arrival
