use Rattle.std.proofs.Common.{subst}
use Rattle.cu_edits.specs.Steps.SettlerStates.{Holds}
use Rattle.cu_edits.specs.Steps.Parts.{settling_over}
use Rattle.cu_edits.proofs.TakenLists.{none_after, packed_after}
use Rattle.cu_edits.proofs.edit_settler.EditSettler.into_learned.Goals as goal

pub returns-in-Nothing : goal.returns-in-Nothing
returns-in-Nothing g c =
    let inside = c.self.inside in
    let s = settling_over inside.parts inside.settled.items in
    let (none, known) = subst (Holds s inside.parts.graph inside.parts.arcs) c.in-Nothing.is c.self.invariant in
    none_after s c.args.self c.self.view_is inside.parts.graph inside.parts.arcs c.requires.all c.in-Nothing.learned none known

pub returns-in-Packed : goal.returns-in-Packed
returns-in-Packed g c =
    let inside = c.self.inside in
    let s = settling_over inside.parts inside.settled.items in
    let holds = subst (Holds s inside.parts.graph inside.parts.arcs) c.in-Packed.is c.self.invariant in
    packed_after s c.args.self c.self.view_is inside.parts.graph inside.parts.arcs c.requires.all c.in-Packed.packed.functions c.in-Packed.packed.moved holds c.edges-edges.result
    c.edges-edges.ensures.count c.learned_after.result c.learned_after.ensures
