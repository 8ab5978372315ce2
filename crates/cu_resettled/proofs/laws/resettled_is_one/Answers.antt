use Rattle.cu_resettled.proofs.ResettledOnce.{resettled_one}
use Rattle.cu_resettled.proofs.laws.resettled_is_one.Goals as goal

pub returns : goal.returns
returns c = record { one = λ old a b edit sound one two first second. resettled_one old a b edit first second sound one two }
