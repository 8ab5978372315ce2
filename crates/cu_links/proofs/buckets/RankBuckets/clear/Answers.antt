use Rattle.std.proofs.Common.{rules, length}
use Rattle.cu_links.proofs.Held.{no_buckets}
use Rattle.cu_links.proofs.buckets.RankBuckets.clear.Goals as goal

pub invariant_of-self : goal.invariant_of-self
invariant_of-self c =
    let firsts = c.self.inside.firsts.items in
    let states = c.self.inside.states.items in
    no_buckets c.fill.new.self.items c.self.inside.nexts.items c.fill-2.new.self.items (length firsts) (length states) (search rules) (search rules) c.self.invariant.long
    c.self.invariant.few
