use Rattle.cu_pack.proofs.Spelled.Accepted.{not_refused_in}
use Rattle.cu_pack.proofs.Spelled.Again.{version_again}
use Rattle.cu_pack.proofs.laws.file_is_read_back.Goals as goal

pub returns-clause-again : goal.returns-clause-again
returns-clause-again c = version_again

pub returns-clause-accepted : goal.returns-clause-accepted
returns-clause-accepted c version h refusal known sound room = not_refused_in version h sound known refusal room
