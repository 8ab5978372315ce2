use Rattle.std.proofs.Common.{◌*◌, ◌∙◌, ap, length, subst, sym}
use Rattle.cu_chordal.specs.Graphs.{ChordalValue}
use Rattle.cu_edits.specs.Steps.Packed.{IsSettlingPacked}
use Rattle.cu_edits.specs.Steps.SettlerStates.{Holds, KeepsAll}
use Rattle.cu_edits.specs.Steps.Parts.{settling_over}
use Rattle.cu_edits.proofs.TurnedPlain.{gone_over}
use Rattle.cu_edits.proofs.StateLaws.{settled_inside}
use Rattle.cu_edits.proofs.edit_settler.turn_plain.Goals as goal

pub plain_of_packed-requires-clause-moved : goal.plain_of_packed-requires-clause-moved
plain_of_packed-requires-clause-moved g c =
    let s = settling_over c.args.parts.now c.args.settled.now in
    let packed : IsSettlingPacked s c.args.parts.now.graph c.args.parts.now.arcs c.in-Packed.packed.functions c.in-Packed.packed.moved =
    subst (Holds s c.args.parts.now.graph c.args.parts.now.arcs) c.in-Packed.is c.requires.holds in
    packed.places ∙ ap (λ (k : ChordalValue). 2 * length k.edges) (sym packed.parts.hierarchy.0)

pub plain_of_packed-requires-clause-settled : goal.plain_of_packed-requires-clause-settled
plain_of_packed-requires-clause-settled g c =
    let s = settling_over c.args.parts.now c.args.settled.now in
    settled_inside s c.args.parts.now.graph c.args.parts.now.arcs c.in-Packed.packed.functions c.in-Packed.packed.moved
    (subst (Holds s c.args.parts.now.graph c.args.parts.now.arcs) c.in-Packed.is c.requires.holds)

pub returns-clause-holds : goal.returns-clause-holds
returns-clause-holds g c =
    let s = settling_over c.args.parts.now c.args.settled.now in
    let packed : IsSettlingPacked s c.args.parts.now.graph c.args.parts.now.arcs c.in-Packed.packed.functions c.in-Packed.packed.moved =
    subst (Holds s c.args.parts.now.graph c.args.parts.now.arcs) c.in-Packed.is c.requires.holds in
    subst (Holds s c.args.parts.now.graph c.args.parts.now.arcs) (sym c.set_state.ensures)
    (gone_over s c.args.parts.now.graph c.args.parts.now.arcs c.in-Packed.packed.functions c.in-Packed.packed.moved c.in_ok-plain.plain packed
    (subst KeepsAll c.in-Packed.is c.requires.keeps) c.in_ok-plain.ensures)
