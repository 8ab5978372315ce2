use Rattle.cu_resettled.proofs.ResettledThere.{one_there}
use Rattle.cu_resettled.proofs.laws.resettled_is_there.Goals as goal

pub returns : goal.returns
returns c = record { there = one_there }
