use Rattle.cu_pack.specs.Repacking.{with_roads}
use Rattle.cu_pack.proofs.Spelled.Whole.{front_put}
use Rattle.cu_pack.proofs.repacking.edited_front.Goals as goal

pub returns : goal.returns
returns g c =
    let h = with_roads c.args.view.now (g.R.Roads.network c.args.roads.now) c.args.lists.now in
    front_put 2 h c.recount-counts.result c.in_ok-bytes.bytes.items c.put_header.new.bytes.items c.put_edited.new.bytes.items
    c.recount-counts.ensures.counts c.in_ok-bytes.ensures.items c.in_ok-put_header.ensures c.in_ok-put_edited.ensures
