-- The touched edges so far were found.
use Rattle.cu_edits.proofs.ListLaws.{AreFirstTouched}
use Rattle.cu_edits.proofs.edit_list.EditList.touched.Given as goal

abbrev pub invariant-loop-edge : goal.invariant-loop-edge
invariant-loop-edge l = AreFirstTouched l.self.touched l.edge l.touched.items
