use Rattle.std.proofs.Common.{rules}
use Rattle.cu_runs.proofs.MergeLaws.{put_none, put_one}
use Rattle.cu_runs.proofs.merging.Next.put.Goals as goal

pub returns-then-has_rule_of-clause-put : goal.returns-then-has_rule_of-clause-put
returns-then-has_rule_of-clause-put c =
    put_none c.args.self.now c.args.run c.index-then-index-way.result.now c.args.way c.index.result.now c.len-count.result c.requires.even (search rules) c.if-count-gt0.true
    c.index-then-index-way.ensures c.index.ensures (c.has_rule_of.ensures.0 (search rules)) c.if-index-way.true

pub returns-clause-put : goal.returns-clause-put
returns-clause-put c =
    put_one c.args.self.now record { packed = c.push.new.self; ways = c.push-2.new.self; index = c.args.self.now.index; done = c.args.self.now.done }
    c.args.run c.args.way c.requires.even c.in_ok-push.ensures.items c.in_ok-push-2.ensures.items
