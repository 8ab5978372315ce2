use Rattle.std.proofs.Common.{◌≤◌, arith, length}
use Rattle.cu_model.proofs.ListLaws.{item_there}
use Rattle.cu_interval.specs.Hierarchies.{HierarchyValue}
use Rattle.cu_interval.specs.Shortcuts.{ways_of}
use Rattle.cu_bounds.proofs.ListLeast.{bound_between, least_bound-entries, so_far_all, so_far_more, so_far_none, way_of_entry}
use Rattle.cu_bounds.proofs.list_bounds.list_bound.Goals as goal

pub loop-index-init : goal.loop-index-init
loop-index-init g c =
    let h : HierarchyValue = g.W.Ways.hierarchy c.args.ways.now in
    record { so_far = λ ends at. so_far_none (bound_between h ends c.args.shortcut) (ways_of h c.args.shortcut); finder = c.requires.finder }

pub bound_of_way-requires-clause-way : goal.bound_of_way-requires-clause-way
bound_of_way-requires-clause-way g c =
    let h : HierarchyValue = g.W.Ways.hierarchy c.args.ways.now in
    let (ends, at) = item_there h.edges c.args.shortcut.edge c.requires.edge in
    way_of_entry h c.entries-index-end.ensures.sound c.args.shortcut ends at c.loop-index.index c.entry-entry.result c.entry-entry.ensures.there

pub loop-index-preserved : goal.loop-index-preserved
loop-index-preserved g c =
    let h : HierarchyValue = g.W.Ways.hierarchy c.args.ways.now in
    record {
      so_far = λ ends at.
          so_far_more (bound_between h ends c.args.shortcut) (ways_of h c.args.shortcut) c.loop-index.index c.entry-entry.result
          c.loop-index.least c.bound_of_way.result c.min-least.result
          c.entry-entry.ensures.there (c.bound_of_way.ensures.bound ends at) c.min-least.ensures (c.loop-index.invariant.so_far ends at);
      finder = c.bound_of_way.ensures.finder;
    }

pub returns-clause-bound : goal.returns-clause-bound
returns-clause-bound g c =
    let h : HierarchyValue = g.W.Ways.hierarchy c.args.ways.now in
    let (ends, at) = item_there h.edges c.args.shortcut.edge c.requires.edge in
    let entries = ways_of h c.args.shortcut in
    let all : length entries ≤ c.loop-index.index =
    omega (arith, c.loop-index-test.false, c.loop-index.auto.index-end, c.entries-index-end.ensures.count) in
    let whole = so_far_all (bound_between h ends c.args.shortcut) entries c.loop-index.index c.loop-index.least all
    (c.loop-index.invariant.so_far ends at) in
    let least = least_bound-entries h c.entries-index-end.ensures.sound c.args.shortcut ends at in
    omega (arith, whole, least)
