use Rattle.cu_chordal.proofs.graph.Chordal.of_table.Goals as goal

pub invariant_of-result : goal.invariant_of-result
invariant_of-result c = record { upper = c.requires.table; down = c.in_ok-lower.ensures; sound = c.requires.sound }
