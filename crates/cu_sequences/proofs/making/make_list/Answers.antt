use Rattle.std.proofs.Common.{◌≡◌, ◌∙◌, ℕ, arith, length, refl, subst, sym}
use Rattle.std.specs.Prelude.{slice_set}
use Rattle.cu_model.proofs.ListLaws.{item_there}
use Rattle.cu_bounds.proofs.ListLeast.{way_of_entry}
use Rattle.cu_interval.specs.Hierarchies.{HierarchyValue}
use Rattle.cu_interval.specs.Shortcuts.{ways_of}
use Rattle.cu_interval.proofs.Lookups.{list_from-edge}
use Rattle.cu_sequences.specs.Kept.{AreSequences}
use Rattle.cu_sequences.proofs.Keeping.{only_entry, sequences_grown, sequences_set}
use Rattle.cu_sequences.proofs.making.make_list.Goals as goal

pub put_way-start-requires-clause-way : goal.put_way-start-requires-clause-way
put_way-start-requires-clause-way g c =
    let h : HierarchyValue = g.W.Ways.hierarchy c.args.ways.now in
    let (ends, at) = item_there h.edges c.args.shortcut.edge c.requires.edge in
    way_of_entry h c.entries.ensures.sound c.args.shortcut ends at 0 c.entry-entry.result c.entry-entry.ensures.there

pub returns-clause-holds : goal.returns-clause-holds
returns-clause-holds g c =
    let h : HierarchyValue = g.W.Ways.hierarchy c.args.ways.now in
    let shortcut = c.args.shortcut in
    let starts = c.args.starts.now in
    let roads = c.put_way-start.new.roads.items in
    let start = c.put_way-start.result in
    let one : length (ways_of h shortcut) ≡ 1 = omega (arith, c.entries.ensures.count, c.if-entries-ne1.false) in
    let more = sequences_grown h starts c.args.roads.now.items roads c.put_way-start.ensures.grows c.requires.holds in
    let set = sequences_set h starts roads shortcut start more (λ ends at.
    c.put_way-start.ensures.puts ends c.entry-entry.result at
    (list_from-edge h c.entries.ensures.sound shortcut.edge shortcut.dir ends at ∙ only_entry (ways_of h shortcut) c.entry-entry.result one c.entry-entry.ensures.there) refl) in
    subst (λ (n : ℕ). AreSequences h (record { starts = slice_set starts n start; roads = roads })) (sym c.list-list.ensures.number) set
