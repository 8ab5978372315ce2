use Rattle.cu_resettled.proofs.ResettledOnce.{all_one}
use Rattle.cu_resettled.proofs.laws.at_once_is_one.Goals as goal

pub returns : goal.returns
returns c = record { one = λ old a b edits sound one two first second. all_one old a b edits first second sound one two }
