use Rattle.cu_wait.proofs.WaitingDriveLaws.{drive_answer, waits_arrive, waits_enter}
use Rattle.cu_wait.proofs.laws.waits_serve.Goals as goal

pub returns : goal.returns
returns c = record { arrives = waits_arrive; enters = waits_enter; answers = drive_answer }
