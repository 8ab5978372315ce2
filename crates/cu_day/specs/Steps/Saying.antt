-- The rule of a profile that a run's rule says on day 0.
use Rattle.cu_arrival.specs.declared.runs.RunRule.{RunRule}
use Rattle.cu_arrival.specs.declared.runs.RunRule.TheVariants.{Shift, Fixed}
use Rattle.cu_model.specs.declared.profiles.Rule.{Rule}
use Rattle.cu_model.specs.declared.profiles.Rule.TheVariants.{Travel, Until}

abbrev pub said : RunRule → Rule
said (Shift seconds) = Travel seconds
said (Fixed arrival) = Until arrival
