use Rattle.cu_unpack.proofs.LeastValues.{rebuilt_least}
use Rattle.cu_unpack.proofs.laws.rebuilt_is_least.Goals as goal

pub returns : goal.returns
returns c = record { least = λ h edge dir ends function built. rebuilt_least h built edge dir ends function }
