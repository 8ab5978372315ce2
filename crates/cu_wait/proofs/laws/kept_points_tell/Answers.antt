use Rattle.cu_wait.proofs.KeptLaws.{kept_edited, waits_said}
use Rattle.cu_wait.proofs.laws.kept_points_tell.Goals as goal

pub returns : goal.returns
returns c = record { said = waits_said; edits = kept_edited }
