use Rattle.std.proofs.Common.{refl}
use Rattle.cu_interval.specs.Hierarchies.{HierarchyValue}
use Rattle.cu_short.proofs.Turns.{counted_never_long, counted_short, told_counts}
use Rattle.cu_short.proofs.road_counts.RoadCounts.of.Goals as goal

pub returns : goal.returns
returns g c =
    let h : HierarchyValue = g.W.Ways.hierarchy c.args.ways.now in
    let items = c.count_lists.new.counts.items in
    let counts = told_counts h items c.in_ok-count_lists.field-0 c.in_ok-count_lists.ensures.counted c.if-not-branch.false in
    record {
      counts = counts;
      short = (λ yes. counted_short h items counts, λ short. refl);
      never = λ yes. counted_never_long h c.edges.ensures.sound items counts;
    }
