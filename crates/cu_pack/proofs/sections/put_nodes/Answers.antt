use Rattle.cu_pack.specs.Spelling.{short}
use Rattle.cu_pack.proofs.Spelled.Putting.{put_more}
use Rattle.cu_pack.proofs.sections.put_nodes.Goals as goal

pub loop-rank-preserved : goal.loop-rank-preserved
loop-rank-preserved c = put_more short c.args.order.now.node_at c.loop-rank.rank c.node.result c.args.bytes.now.items c.loop-rank.bytes.items
    c.put_short.new.bytes.items c.node.ensures.there c.loop-rank.invariant c.in_ok-put_short.ensures
