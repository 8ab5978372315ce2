use Rattle.std.proofs.Common.{◌≤◌, ap, arith, length}
use Rattle.cu_model.proofs.ListLaws.{item_there}
use Rattle.cu_interval.specs.Hierarchies.{HierarchyValue}
use Rattle.cu_interval.specs.Shortcuts.{ways_of}
use Rattle.cu_bounds.proofs.ListLeast.{bound_between, entry_there, least_bound-entries, so_far_all, so_far_more, so_far_none, way_of_entry}
use Rattle.cu_bounds.proofs.list_bounds.bound_of_entries.Goals as goal

pub loop-entry-init : goal.loop-entry-init
loop-entry-init g c =
    let h : HierarchyValue = g.W.Ways.hierarchy c.args.ways.now in
    record { so_far = λ ends at. so_far_none (bound_between h ends c.args.shortcut) (ways_of h c.args.shortcut); finder = c.requires.finder }

pub bound_of_way-requires-clause-way : goal.bound_of_way-requires-clause-way
bound_of_way-requires-clause-way g c =
    let h : HierarchyValue = g.W.Ways.hierarchy c.args.ways.now in
    let (ends, at) = item_there h.edges c.args.shortcut.edge c.requires.edge in
    way_of_entry h c.requires.sound c.args.shortcut ends at c.loop-entry.entry-index _
    (entry_there c.args.entries.now (ways_of h c.args.shortcut) c.requires.entries c.loop-entry.entry-index c.loop-entry-test.true _)

pub loop-entry-preserved : goal.loop-entry-preserved
loop-entry-preserved g c =
    let h : HierarchyValue = g.W.Ways.hierarchy c.args.ways.now in
    record {
      so_far = λ ends at.
          so_far_more (bound_between h ends c.args.shortcut) (ways_of h c.args.shortcut) c.loop-entry.entry-index _
          c.loop-entry.least c.bound_of_way.result c.min-least.result
          (entry_there c.args.entries.now (ways_of h c.args.shortcut) c.requires.entries c.loop-entry.entry-index c.loop-entry-test.true _)
          (c.bound_of_way.ensures.bound ends at) c.min-least.ensures (c.loop-entry.invariant.so_far ends at);
      finder = c.bound_of_way.ensures.finder;
    }

pub returns-clause-bound : goal.returns-clause-bound
returns-clause-bound g c =
    let h : HierarchyValue = g.W.Ways.hierarchy c.args.ways.now in
    let (ends, at) = item_there h.edges c.args.shortcut.edge c.requires.edge in
    let entries = ways_of h c.args.shortcut in
    let count = ap length c.requires.entries in
    let all : length entries ≤ c.loop-entry.entry-index = omega (arith, count, c.loop-entry-test.false) in
    let whole = so_far_all (bound_between h ends c.args.shortcut) entries c.loop-entry.entry-index c.loop-entry.least all
    (c.loop-entry.invariant.so_far ends at) in
    let least = least_bound-entries h c.requires.sound c.args.shortcut ends at in
    omega (arith, whole, least)
