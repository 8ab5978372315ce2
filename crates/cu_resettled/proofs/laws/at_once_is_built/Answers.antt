use Rattle.cu_resettled.proofs.ResettledBuilt.{all_built}
use Rattle.cu_resettled.proofs.laws.at_once_is_built.Goals as goal

pub returns : goal.returns
returns c = record { built = λ old new edits built sound settled. all_built old new edits built sound settled }
