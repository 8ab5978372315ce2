use Rattle.std.proofs.Common.{arith}
use Rattle.cu_pack.specs.Spelling.{arc_bytes}
use Rattle.cu_pack.proofs.Spelled.Growing.{grows_all, grows_more}
use Rattle.cu_pack.proofs.sections.put_arcs.Goals as goal

pub loop-arc-init : goal.loop-arc-init
loop-arc-init g c = g.met.T.Target.stays c.args.bytes.now

pub loop-arc-preserved : goal.loop-arc-preserved
loop-arc-preserved g c =
    grows_more g.T.Target.grows g.met.T.Target.more arc_bytes (g.R.Roads.network c.args.roads.now).arcs c.loop-arc.arc c.arc.result
    c.args.bytes.now c.loop-arc.bytes c.put_arc.new.bytes c.arc.ensures.there c.loop-arc.invariant c.in_ok-put_arc.ensures

pub returns : goal.returns
returns g c = grows_all g.T.Target.grows arc_bytes (g.R.Roads.network c.args.roads.now).arcs c.loop-arc.arc c.args.bytes.now c.loop-arc.bytes (omega arith) c.loop-arc.invariant
