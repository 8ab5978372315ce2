use Rattle.std.proofs.Common.{◌∙◌}
use Rattle.cu_pack.specs.Repacking.{with_roads}
use Rattle.cu_pack.specs.Steps.Fronts.{IsFrontOf}
use Rattle.cu_pack.proofs.repacking.repack_unsealed.Goals as goal

pub bounds_behind-requires : goal.bounds_behind-requires
bounds_behind-requires g c =
    let h = with_roads c.args.view.now (g.R.Roads.network c.args.roads.now) c.args.lists.now in
    record { front = (h, record { sound = c.requires.sound; begins = c.in_ok-bytes.ensures; count = c.edges.ensures.count }) }

pub returns-clause-spelled : goal.returns-clause-spelled
returns-clause-spelled g c =
    let h = with_roads c.args.view.now (g.R.Roads.network c.args.roads.now) c.args.lists.now in
    let begins : IsFrontOf c.in_ok-bytes.bytes.items c.edges.result h =
    record { sound = c.requires.sound; begins = c.in_ok-bytes.ensures; count = c.edges.ensures.count } in
    c.with_bounds.ensures.spelled h (c.in_ok-bounds.ensures.same ∙ c.in_ok-bytes.ensures)
    (c.deref.ensures.value ∙ c.in_ok-bounds.ensures.bounds h begins)
