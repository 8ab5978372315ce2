use Rattle.cu_resettled.proofs.ResettledBuilt.{resettled_built}
use Rattle.cu_resettled.proofs.laws.resettled_is_built.Goals as goal

pub returns : goal.returns
returns c = record { built = resettled_built }
