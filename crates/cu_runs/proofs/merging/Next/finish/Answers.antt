use Rattle.cu_runs.proofs.AddLaws.{finished}
use Rattle.cu_runs.proofs.merging.Next.finish.Goals as goal

pub returns : goal.returns
returns c = record {
  merged = λ arrival way merging. finished c.args.least.now arrival way c.copy_to.new.self c.push.new.self.items c.push-2.new.self.items c.end.result 4294967295
      c.in_ok-copy_to.ensures.next.even c.in_ok-copy_to.ensures.done (c.in_ok-copy_to.ensures.copied arrival way merging) c.end.ensures c.in_ok-push.ensures.items c.in_ok-push-2.ensures.items;
}
