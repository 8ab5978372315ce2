use Rattle.std.proofs.Common.{◌≡◌, ◌*◌, ap, length, subst, sym}
use Rattle.cu_recall.specs.Rooms.{Fits}
use Rattle.cu_recall.proofs.DownLaws.{table_place, table_within}
use Rattle.cu_recall.proofs.sweep_recall.SweepRecall.new.Goals as goal

pub make_downs-requires-clause-knows : goal.make_downs-requires-clause-knows
make_downs-requires-clause-knows c = (subst (Fits c.args.view.now) (sym c.room.view_is) c.requires.fits).downs

pub invariant_of-result : goal.invariant_of-result
invariant_of-result c =
    let fits = subst (Fits c.args.view.now) (sym c.room.view_is) c.requires.fits in
    let edges = length c.args.view.now.edges in
    let third = c.third_of.result in
    let first = third * c.edges.result in
    let is : first ≡ third * edges = ap (λ n. third * n) c.edges.ensures.count in
    let within = table_within third edges _ first c.third_of.ensures c.make_downs.ensures.whole is in (
      c.requires.graph,
      record { nodes = fits.nodes; lists = fits.lists; knows = fits.knows; downs = c.make_downs.ensures.knows },
      within.0,
      within.1,
      table_place third edges first is,
    )
