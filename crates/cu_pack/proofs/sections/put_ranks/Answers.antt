use Rattle.cu_pack.specs.Spelling.{short}
use Rattle.cu_pack.proofs.Spelled.Putting.{put_more}
use Rattle.cu_pack.proofs.sections.put_ranks.Goals as goal

pub loop-node-preserved : goal.loop-node-preserved
loop-node-preserved c = put_more short c.args.order.now.rank_of c.loop-node.node c.rank.result c.args.bytes.now.items c.loop-node.bytes.items
    c.put_short.new.bytes.items c.rank.ensures.there c.loop-node.invariant c.in_ok-put_short.ensures
