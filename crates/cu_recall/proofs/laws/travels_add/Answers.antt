use Rattle.cu_recall.proofs.DayWalks.{takes_on}
use Rattle.cu_recall.proofs.Joining.{joined_walk}
use Rattle.cu_recall.proofs.laws.travels_add.Goals as goal

pub returns-clause-days : goal.returns-clause-days
returns-clause-days c h u v t travel roads sound apart takes = takes_on h sound u v t travel roads apart takes

pub returns-clause-joined : goal.returns-clause-joined
returns-clause-joined c h u m v t first_travel first_roads travel roads sound way first second =
    joined_walk h sound u m v t first_travel first_roads travel roads way first second
