use Rattle.cu_reach.proofs.Gathering.{gathered_stops}
use Rattle.cu_reach.specs.ReachTexts.{time_text}
use Rattle.cu_reach.proofs.writing.put_time.Goals as goal

pub returns-in_err-make_room : goal.returns-in_err-make_room
returns-in_err-make_room g c = record { gathered = gathered_stops (time_text c.args.time) c.from_residual.ensures.0 c.in_err-make_room.ensures.gathered }
