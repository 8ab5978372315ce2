use Rattle.std.proofs.Common.{List, rules, sym, subst, take}
use Rattle.cu_chordal.proofs.Members.{member_at}
use Rattle.cu_interval.specs.declared.ways.Entry.{Entry}
use Rattle.cu_interval.specs.Shortcuts.{ways_of}
use Rattle.cu_unpack.specs.Steps.Rebuilding.{IsAmong}
use Rattle.cu_unpack.specs.Steps.PackedRebuilding.{HoldsLeast, IsKnown}
use Rattle.cu_unpack.proofs.HalfEdges.{entry_halves, entry_way, take_entry}
use Rattle.cu_unpack.proofs.PackedWays.{holds_again, holds_more}
use Rattle.cu_unpack.proofs.packed_rebuilding.add_entry.Goals as goal

pub add_way-requires-clause-way : goal.add_way-requires-clause-way
add_way-requires-clause-way g c =
    entry_way (g.W.Ways.hierarchy c.args.ways.now) c.entry-entry.ensures.sound c.args.shortcut c.requires.edge c.args.index c.entry-entry.result c.entry-entry.ensures.there

pub add_way-requires-clause-halves : goal.add_way-requires-clause-halves
add_way-requires-clause-halves g c =
    entry_halves (g.W.Ways.hierarchy c.args.ways.now) (IsKnown c.args.table.now) c.args.shortcut c.args.index c.entry-entry.result c.entry-entry.ensures.there c.requires.halves

pub returns-then-is_among-clause-held : goal.returns-then-is_among-clause-held
returns-then-is_among-clause-held g c said =
    let h = g.W.Ways.hierarchy c.args.ways.now in
    let among : IsAmong (ways_of h c.args.shortcut) c.args.index c.entry-entry.result.way = search rules in
    holds_again h c.args.shortcut (ways_of h c.args.shortcut) c.args.index c.entry-entry.result c.args.room.now c.entry-entry.ensures.there among c.requires.held

pub returns-clause-held : goal.returns-clause-held
returns-clause-held g c said =
    let h = g.W.Ways.hierarchy c.args.ways.now in
    let entries = ways_of h c.args.shortcut in
    let index = c.args.index in
    let entry = c.entry-entry.result in
    let more = take_entry entries index entry c.entry-entry.ensures.there in
    subst (λ (es : List Entry). HoldsLeast h c.args.shortcut es c.add_way.new.room) (sym more)
    (holds_more h c.args.shortcut (take index entries) entry c.args.room.now c.add_way.new.room c.requires.held (c.in_ok-is_near.ensures.adds said))

pub returns-clause-far : goal.returns-clause-far
returns-clause-far g c said =
    let there = member_at (ways_of (g.W.Ways.hierarchy c.args.ways.now) c.args.shortcut) c.entry-entry.result c.args.index c.entry-entry.ensures.there in
    (c.entry-entry.result, there, c.in_ok-is_near.ensures.far said)
