use Rattle.cu_unpack.proofs.VisitedOnce.{visited_once}
use Rattle.cu_unpack.proofs.laws.walks_visit_once.Goals as goal

pub returns : goal.returns
returns c = record { once = λ h edge dir second built. visited_once h built edge dir second }
