use Rattle.std.proofs.Common.{◌∙◌}
use Rattle.cu_pack.specs.Repacking.{with_roads}
use Rattle.cu_pack.proofs.repacking.repack_touched.Goals as goal

pub returns-clause-spelled : goal.returns-clause-spelled
returns-clause-spelled g c =
    let h = with_roads c.args.view.now (g.R.Roads.network c.args.roads.now) c.args.lists.now in
    c.with_bounds.ensures.spelled h c.in_ok-bytes.ensures (c.deref.ensures.value ∙ c.in_ok-bounds.ensures)
