use Rattle.std.proofs.Common.{◌≡◌, ◌∙◌, drop, length, subst, sym}
use Rattle.std.proofs.lemmas.List.{take_at}
use Rattle.cu_interval.specs.Hierarchies.{HierarchyValue}
use Rattle.cu_short.specs.Counts.{AreRoadCounts}
use Rattle.cu_short.proofs.Turns.{told_counts, told_short}
use Rattle.cu_short.proofs.road_counts.RoadCounts.renew.Goals as goal

pub returns-clause-counts : goal.returns-clause-counts
returns-clause-counts g c =
    let h : HierarchyValue = g.W.Ways.hierarchy c.args.ways.now in
    let new = c.renew_lists.new.counts in
    let kept : length new ≡ c.self.inside.counts.len = c.renew_lists.auto.counts ∙ c.as_mut_slice.ensures.len in
    let read = take_at new (drop (length new) c.self.inside.counts.items) c.self.inside.counts.len kept in
    λ yes. subst (AreRoadCounts h) (sym read) (told_counts h new c.renew_lists.result c.renew_lists.ensures.counted yes)

pub returns-clause-short : goal.returns-clause-short
returns-clause-short g c = told_short (g.W.Ways.hierarchy c.args.ways.now) c.renew_lists.new.counts c.renew_lists.result c.renew_lists.ensures.counted
