use Rattle.cu_drive.proofs.DrivenTexts.{entered-append, numbers_said, seconds_said}
use Rattle.cu_drive.proofs.laws.drives_go_on.Goals as goal

pub returns : goal.returns
returns c = record { behind = entered-append; numbers = numbers_said; seconds = seconds_said }
