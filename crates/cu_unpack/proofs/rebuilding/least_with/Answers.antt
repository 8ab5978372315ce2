use Rattle.std.proofs.Common.{List, Some, rules, sym, subst, take}
use Rattle.cu_interval.specs.declared.ways.Entry.{Entry}
use Rattle.cu_interval.specs.Shortcuts.{ways_of}
use Rattle.cu_unpack.specs.Rebuilds.{IsKept}
use Rattle.cu_unpack.specs.Steps.Rebuilding.{IsAmong, IsLeastOf}
use Rattle.cu_unpack.proofs.HalfEdges.{entry_halves, entry_way, take_entry}
use Rattle.cu_unpack.proofs.WayFunctions.{least_again, least_more}
use Rattle.cu_unpack.proofs.rebuilding.least_with.Goals as goal

pub way_function-requires-clause-way : goal.way_function-requires-clause-way
way_function-requires-clause-way g c =
    entry_way (g.W.Ways.hierarchy c.args.ways.now) c.entry-entry.ensures.sound c.args.shortcut c.requires.edge c.args.index c.entry-entry.result c.entry-entry.ensures.there

pub way_function-requires-clause-halves : goal.way_function-requires-clause-halves
way_function-requires-clause-halves g c =
    entry_halves (g.W.Ways.hierarchy c.args.ways.now) (IsKept c.args.rebuilt.now.kept) c.args.shortcut c.args.index c.entry-entry.result c.entry-entry.ensures.there c.requires.halves

pub returns-then-is_among : goal.returns-then-is_among
returns-then-is_among g c =
    let h = g.W.Ways.hierarchy c.args.ways.now in
    let among : IsAmong (ways_of h c.args.shortcut) c.args.index c.entry-entry.result.way = search rules in
    least_again h c.args.shortcut (ways_of h c.args.shortcut) c.args.index c.entry-entry.result c.args.least c.entry-entry.ensures.there among c.requires.least

pub returns : goal.returns
returns g c =
    let h = g.W.Ways.hierarchy c.args.ways.now in
    let entries = ways_of h c.args.shortcut in
    let index = c.args.index in
    let entry = c.entry-entry.result in
    let more = take_entry entries index entry c.entry-entry.ensures.there in
    subst (λ (es : List Entry). IsLeastOf h c.args.shortcut es (Some c.in_ok-earlier.field-0)) (sym more)
    (least_more h c.args.shortcut (take index entries) entry c.args.least c.in_ok-function.function c.in_ok-earlier.field-0
    c.requires.least c.in_ok-function.ensures.function c.in_ok-earlier.ensures)
