use Rattle.cu_model.proofs.Copied.{take_next}
use Rattle.cu_model.proofs.copying.copy_arcs.Goals as goal

pub loop-arc-preserved : goal.loop-arc-preserved
loop-arc-preserved g c =
    take_next (g.N.Roads.network c.args.roads.now).arcs c.loop-arc.arcs.items c.push.new.self.items c.loop-arc.arc c.arc.result c.arc.ensures.there c.loop-arc.invariant c.in_ok-push.ensures.items
