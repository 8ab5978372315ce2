use Rattle.cu_recall.proofs.DownLaws.{no_downs}
use Rattle.cu_recall.proofs.Keeping.{nothing_written}
use Rattle.cu_recall.proofs.room.Room.forget.Goals as goal

pub returns-clause-knows : goal.returns-clause-knows
returns-clause-knows c h = nothing_written h c.self.inside.lists c.clear.new.self.items c.clear.ensures.items

pub returns-clause-downs : goal.returns-clause-downs
returns-clause-downs c h = no_downs h _ c.clear-2.ensures.items
