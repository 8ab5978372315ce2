use Rattle.std.proofs.Common.{◌≡◌, ℕ, ap, rules}
use Rattle.std.specs.Prelude.{slice_set}
use Rattle.cu_model.proofs.ListLaws.{item_there}
use Rattle.cu_interval.specs.Hierarchies.{HierarchyValue}
use Rattle.cu_short.proofs.Recounting.{recounts}
use Rattle.cu_short.proofs.renewing.renew_list.Goals as goal

pub returns : goal.returns
returns g c =
    let h : HierarchyValue = g.W.Ways.hierarchy c.args.ways.now in
    let (ends, at) = item_there h.edges c.args.shortcut.edge c.requires.edge in
    let most = c.list_roads-most.result in
    let nodes : c.nodes.result ≡ h.network.nodes = search rules in
    recounts h c.args.counts.now _ c.args.shortcut most c.nodes.result ends at (c.list_roads-most.ensures.most ends at) nodes
    (ap (λ (n : ℕ). slice_set c.args.counts.now n most) c.list.ensures.number)
