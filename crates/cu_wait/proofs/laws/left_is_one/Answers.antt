use Rattle.cu_wait.proofs.HullLaws.{raw_days}
use Rattle.cu_wait.specs.Measured.{raw_arrival}
use Rattle.cu_wait.proofs.LeftLaws.{left_one, left_soon}
use Rattle.cu_wait.proofs.WaitingDriveLaws.{pieces_left, points_left}
use Rattle.cu_wait.proofs.laws.left_is_one.Goals as goal

pub returns : goal.returns
returns c = record { some = points_left; one = left_one; soon = λ points second left is. left_soon (raw_arrival points) (raw_days points) second left is; pieces = pieces_left }
