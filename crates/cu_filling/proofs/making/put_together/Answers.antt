use Rattle.std.proofs.Common.{arith, ℕ, ap, sym, subst, get_or}
use Rattle.std.proofs.lemmas.Option.{slice_get-get_or, slice_get_past}
use Rattle.cu_chordal.specs.declared.graph.Ends.{Ends}
use Rattle.cu_interval.specs.Shortcuts.{ways_of}
use Rattle.cu_filling.specs.Filling.{IsDrivenBy, SaysUpTo, from_of, list_drive}
use Rattle.cu_filling.proofs.EntryDrives.{begin_next, entry_driven, entry_way, spelled}
use Rattle.cu_filling.proofs.making.put_together.Goals as goal

pub add_way-requires-clause-way : goal.add_way-requires-clause-way
add_way-requires-clause-way g c =
    let h = g.W.Ways.hierarchy c.args.ways.now in
    let d : Ends = record { low = 0; high = 0 } in
    let at = slice_get-get_or h.edges c.args.shortcut.edge d c.requires.edge in
    entry_way h c.requires.sound c.args.shortcut (get_or h.edges c.args.shortcut.edge d) at c.entries.index c.entry-entry.result c.entry-entry.ensures.there

pub add_way-requires-clause-some : goal.add_way-requires-clause-some
add_way-requires-clause-some g c =
    let h = g.W.Ways.hierarchy c.args.ways.now in
    let next = begin_next (ways_of h c.args.shortcut) (spelled h c.requires.sound c.args.shortcut) c.entries.index c.entry-entry.result c.entry-entry.ensures.there in
    omega (arith, next.0, c.end_of_entry-until.ensures)

pub add_way-requires-clause-in_day : goal.add_way-requires-clause-in_day
add_way-requires-clause-in_day g c =
    let h = g.W.Ways.hierarchy c.args.ways.now in
    let next = begin_next (ways_of h c.args.shortcut) (spelled h c.requires.sound c.args.shortcut) c.entries.index c.entry-entry.result c.entry-entry.ensures.there in
    omega (arith, next.1, c.end_of_entry-until.ensures)

pub entries-preserved : goal.entries-preserved
entries-preserved g c =
    let h = g.W.Ways.hierarchy c.args.ways.now in
    let s = c.args.shortcut in
    let f = list_drive h s.edge s.dir in
    let d : Ends = record { low = 0; high = 0 } in
    let at = slice_get-get_or h.edges s.edge d c.requires.edge in
    let entry = c.entry-entry.result in
    let there = c.entry-entry.ensures.there in
    let before = subst (λ (n : ℕ). SaysUpTo f c.entries.scratch.whole.items n) (ap from_of there) c.entries.invariant in
    let driven = subst (λ (n : ℕ). IsDrivenBy h s entry.way entry.from n f) (sym c.end_of_entry-until.ensures)
    (entry_driven h c.requires.sound s (get_or h.edges s.edge d) at c.requires.never c.entries.index entry there) in
    subst (λ (n : ℕ). SaysUpTo f c.add_way.new.scratch.whole.items n) c.end_of_entry-until.ensures (c.in_ok-add_way.ensures.says c.if-not-branch.false f driven before)

pub returns-clause-says : goal.returns-clause-says
returns-clause-says g c e =
    let h = g.W.Ways.hierarchy c.args.ways.now in
    let s = c.args.shortcut in
    let past = ap from_of (slice_get_past (ways_of h s) c.entries.index (omega (arith, c.entries-test.false, c.entries-index-end.ensures.count))) in
    subst (λ (n : ℕ). SaysUpTo (list_drive h s.edge s.dir) c.entries.scratch.whole.items n) past c.entries.invariant
