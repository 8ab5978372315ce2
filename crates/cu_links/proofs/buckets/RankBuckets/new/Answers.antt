use Rattle.std.proofs.Common.{rules}
use Rattle.cu_links.proofs.Held.{no_buckets}
use Rattle.cu_links.proofs.buckets.RankBuckets.new.Goals as goal

pub invariant_of-result : goal.invariant_of-result
invariant_of-result c =
    no_buckets c.in_ok-vec.field-0.items c.in_ok-vec-2.field-0.items c.in_ok-vec-3.field-0.items c.args.ranks c.args.edges (search rules) (search rules) (search rules)
    (search rules)
