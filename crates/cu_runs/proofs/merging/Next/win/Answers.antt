use Rattle.cu_runs.proofs.MergeLaws.{won}
use Rattle.std.proofs.Common.{refl}
use Rattle.cu_runs.proofs.merging.Next.win.Goals as goal

pub returns-clause-won : goal.returns-clause-won
returns-clause-won c =
    won c.args.least.now c.args.way c.args.self.now c.copy_to.new.self
    record { packed = c.put.new.self.packed; ways = c.put.new.self.ways; index = c.put.new.self.index; done = c.args.until }
    c.args.from c.args.until c.args.run c.begun.result c.requires.some c.requires.earlier c.in_ok-copy_to.ensures.done refl c.begun.ensures.from c.begun.ensures.rule
    c.in_ok-copy_to.ensures.copied c.in_ok-put.ensures.put
