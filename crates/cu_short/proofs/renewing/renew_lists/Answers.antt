use Rattle.std.proofs.Common.{◌<◌, arith, length, refl}
use Rattle.std.proofs.lemmas.Option.{slice_get_read}
use Rattle.cu_model.proofs.RoadLaws.{all_at}
use Rattle.cu_bounds.proofs.Renewed.{edges_rise}
use Rattle.cu_interval.specs.declared.ways.TouchedEdge.{TouchedEdge}
use Rattle.cu_interval.specs.Hierarchies.{HierarchyValue}
use Rattle.cu_short.proofs.Recounting.{counted_before, recounted_all, recounted_more, recounted_none}
use Rattle.cu_short.proofs.renewing.renew_lists.Goals as goal

pub loop-touched-init : goal.loop-touched-init
loop-touched-init g c = recounted_none (g.W.Ways.hierarchy c.args.ways.now) c.args.lists.now c.args.counts.now c.requires.kept

pub renew_edge-requires-clause-right : goal.renew_edge-requires-clause-right
renew_edge-requires-clause-right g c =
    let h : HierarchyValue = g.W.Ways.hierarchy c.args.ways.now in
    let lists = c.args.lists.now in
    let index = c.loop-touched.touched-index in
    let t = c.touched-item.result in
    let there = slice_get_read lists (length lists) index t refl (omega arith) c.touched-item.is in
    counted_before h lists (edges_rise lists c.requires.rising) index t there c.loop-touched.counts c.loop-touched.invariant

pub loop-touched-preserved : goal.loop-touched-preserved
loop-touched-preserved g c =
    let h : HierarchyValue = g.W.Ways.hierarchy c.args.ways.now in
    let lists = c.args.lists.now in
    let index = c.loop-touched.touched-index in
    let t = c.touched-item.result in
    let there = slice_get_read lists (length lists) index t refl (omega arith) c.touched-item.is in
    let inside = all_at (λ (touched : TouchedEdge). touched.edge < length h.edges) lists index t c.requires.edges there in
    recounted_more h lists index t c.loop-touched.counts c.renew_edge.new.counts there inside c.if-not-renew_edge.ensures c.loop-touched.invariant

pub returns : goal.returns
returns g c =
    let h : HierarchyValue = g.W.Ways.hierarchy c.args.ways.now in
    record { counted = recounted_all h c.args.lists.now c.loop-touched.touched-index c.loop-touched.counts (omega arith) c.loop-touched.invariant }
