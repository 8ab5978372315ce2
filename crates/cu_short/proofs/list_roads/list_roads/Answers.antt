use Rattle.std.proofs.Common.{◌≤◌, ◌∙◌, arith, length, sym}
use Rattle.cu_model.proofs.ListLaws.{item_there}
use Rattle.cu_bounds.proofs.ListLeast.{way_of_entry}
use Rattle.cu_interval.specs.Hierarchies.{HierarchyValue}
use Rattle.cu_interval.specs.Shortcuts.{ways_of}
use Rattle.cu_short.proofs.MostSoFar.{most_roads-entries, roads_between, so_far_all, so_far_more, so_far_none}
use Rattle.cu_short.proofs.list_roads.list_roads.Goals as goal

pub loop-index-init : goal.loop-index-init
loop-index-init g c =
    let h : HierarchyValue = g.W.Ways.hierarchy c.args.ways.now in
    record { so_far = λ ends at. so_far_none (roads_between h ends c.args.shortcut) (ways_of h c.args.shortcut); finder = c.requires.finder }

pub roads_of_way-requires-clause-way : goal.roads_of_way-requires-clause-way
roads_of_way-requires-clause-way g c =
    let h : HierarchyValue = g.W.Ways.hierarchy c.args.ways.now in
    let (ends, at) = item_there h.edges c.args.shortcut.edge c.requires.edge in
    way_of_entry h c.entries-index-end.ensures.sound c.args.shortcut ends at c.loop-index.index c.entry-entry.result c.entry-entry.ensures.there

pub loop-index-preserved : goal.loop-index-preserved
loop-index-preserved g c =
    let h : HierarchyValue = g.W.Ways.hierarchy c.args.ways.now in
    record {
      so_far = λ ends at.
          so_far_more (roads_between h ends c.args.shortcut) (ways_of h c.args.shortcut) c.loop-index.index c.entry-entry.result
          c.loop-index.most c.roads_of_way.result c.greater_of-most.result
          c.entry-entry.ensures.there (c.roads_of_way.ensures.most ends at) c.greater_of-most.ensures (c.loop-index.invariant.so_far ends at);
      finder = c.roads_of_way.ensures.finder;
    }

pub returns-clause-most : goal.returns-clause-most
returns-clause-most g c =
    let h : HierarchyValue = g.W.Ways.hierarchy c.args.ways.now in
    let entries = ways_of h c.args.shortcut in
    let all : length entries ≤ c.loop-index.index =
    omega (arith, c.loop-index-test.false, c.loop-index.auto.index-end, c.entries-index-end.ensures.count) in
    λ ends at.
    so_far_all (roads_between h ends c.args.shortcut) entries c.loop-index.index c.loop-index.most all (c.loop-index.invariant.so_far ends at)
    ∙ sym (most_roads-entries h c.entries-index-end.ensures.sound c.args.shortcut ends at)
