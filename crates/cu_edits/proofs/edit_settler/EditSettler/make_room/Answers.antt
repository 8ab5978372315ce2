use Rattle.cu_edits.proofs.edit_settler.EditSettler.make_room.Goals as goal

pub invariant_of-self : goal.invariant_of-self
invariant_of-self g c = c.hold_packed.ensures.holds c.self.inside.settled.items c.self.invariant
