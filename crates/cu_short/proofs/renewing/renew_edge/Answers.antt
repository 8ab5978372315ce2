use Rattle.cu_model.proofs.ListLaws.{item_there}
use Rattle.cu_interval.specs.declared.ways.Dir.TheVariants.{Up}
use Rattle.cu_interval.specs.Hierarchies.{HierarchyValue}
use Rattle.cu_short.proofs.Recounting.{recounted_on, recounts_both}
use Rattle.cu_short.proofs.renewing.renew_edge.Goals as goal

pub renew_list-requires-2-clause-right : goal.renew_list-requires-2-clause-right
renew_list-requires-2-clause-right g c =
    let h : HierarchyValue = g.W.Ways.hierarchy c.args.ways.now in
    let (ends, at) = item_there h.edges c.args.edge c.requires.edge in
    let on = recounted_on h c.args.counts.now c.renew_list.new.counts (record { edge = c.args.edge; dir = Up }) ends at c.requires.long c.if-not-renew_list.ensures c.requires.right in
    on.1

pub returns : goal.returns
returns g c =
    recounts_both (g.W.Ways.hierarchy c.args.ways.now) c.args.counts.now c.renew_list.new.counts c.renew_list-2.new.counts c.args.edge c.renew_list-2.result
    c.if-not-renew_list.ensures c.renew_list-2.ensures
