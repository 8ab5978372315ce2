use Rattle.cu_recall.proofs.DownLaws.{no_downs}
use Rattle.cu_recall.proofs.Keeping.{nothing_written}
use Rattle.cu_recall.proofs.room.Room.new.Goals as goal

pub returns-clause-knows : goal.returns-clause-knows
returns-clause-knows c h = nothing_written h _ c.in_ok-with_capacity.field-0.items c.in_ok-with_capacity.ensures.items

pub returns-clause-downs : goal.returns-clause-downs
returns-clause-downs c h = no_downs h _ c.in_ok-with_capacity-2.ensures.items
