use Rattle.std.proofs.Common.{arith, refl}
use Rattle.std.proofs.lemmas.Iterator.{YieldsList-from_range, items_from_collect}
use Rattle.cu_reach.proofs.reaching.list_ranks.Goals as goal

pub returns : goal.returns
returns c =
    rw c.in_ok-collect.was at (items_from_collect c.collect.result c.collect.ensures.ran (YieldsList-from_range 0 c.args.nodes c.args.nodes refl (omega arith)))
