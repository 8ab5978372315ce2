use Rattle.std.proofs.Common.{◌≤◌, List, arith, length, subst}
use Rattle.std.proofs.lemmas.List.{take_all}
use Rattle.cu_interval.specs.declared.ways.Entry.{Entry}
use Rattle.cu_interval.specs.Shortcuts.{ways_of}
use Rattle.cu_unpack.specs.Steps.PackedRebuilding.{HoldsLeast}
use Rattle.cu_unpack.proofs.PackedWays.{held_in_time, held_rebuilt}
use Rattle.cu_unpack.proofs.packed_rebuilding.least_function.Goals as goal

pub least-requires : goal.least-requires
least-requires g c =
    let h = g.W.Ways.hierarchy c.args.ways.now in
    let entries = ways_of h c.args.shortcut in
    let over : length entries ≤ c.loop-index.index = omega (arith, c.loop-index-test.false, c.entries-index-end.ensures.count) in
    let held = subst (λ (es : List Entry). HoldsLeast h c.args.shortcut es c.loop-index.room) (take_all c.loop-index.index entries over) c.loop-index.invariant in
    held_in_time h c.args.shortcut entries c.loop-index.room c.requires.ways.0 c.requires.ways.1 held

pub returns-clause-rebuilt : goal.returns-clause-rebuilt
returns-clause-rebuilt g c =
    let h = g.W.Ways.hierarchy c.args.ways.now in
    let entries = ways_of h c.args.shortcut in
    let over : length entries ≤ c.loop-index.index = omega (arith, c.loop-index-test.false, c.entries-index-end.ensures.count) in
    let held = subst (λ (es : List Entry). HoldsLeast h c.args.shortcut es c.loop-index.room) (take_all c.loop-index.index entries over) c.loop-index.invariant in
    held_rebuilt h c.entries-index-end.ensures.sound c.args.shortcut c.loop-index.room c.in_ok-function.function c.requires.ways.1 held c.in_ok-function.ensures
