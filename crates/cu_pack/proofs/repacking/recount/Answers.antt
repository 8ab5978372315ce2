use Rattle.std.proofs.Common.{refl, subst, sym}
use Rattle.cu_pack.specs.Layouts.{AreInLimits}
use Rattle.cu_pack.specs.Repacking.{with_roads}
use Rattle.cu_pack.specs.Spelling.{counts_of}
use Rattle.cu_pack.proofs.Numbering.Totals.{entries_in_limit, in_limits, same_counts}
use Rattle.cu_pack.proofs.repacking.recount.Goals as goal

pub count_replaced-requires-clause-few : goal.count_replaced-requires-clause-few
count_replaced-requires-clause-few g c = entries_in_limit (with_roads c.args.view.now (g.R.Roads.network c.args.roads.now) c.args.lists.now) c.requires.sound

pub returns : goal.returns
returns g c =
    let h = with_roads c.args.view.now (g.R.Roads.network c.args.roads.now) c.args.lists.now in
    let same = same_counts (record {
      version = 2;
      nodes = c.nodes.result;
      arcs = c.arcs.result;
      profiles = c.profiles.result;
      edges = c.edges.result;
      pieces = c.count_pieces.result;
      entries = c.count_replaced.result;
    }) (counts_of 2 h) refl c.nodes.ensures.count c.arcs.ensures.count c.profiles.ensures.count c.edges.ensures.count c.count_pieces.ensures
    c.count_replaced.ensures in
    record { counts = same; limits = subst AreInLimits (sym same) (in_limits 2 h c.requires.sound) }
