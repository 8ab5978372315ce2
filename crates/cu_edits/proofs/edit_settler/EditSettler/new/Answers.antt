use Rattle.std.proofs.Common.{subst, sym}
use Rattle.cu_edits.specs.Customized.{AreCustomized}
use Rattle.cu_edits.proofs.edit_settler.EditSettler.new.Goals as goal

pub over-requires-clause-customized : goal.over-requires-clause-customized
over-requires-clause-customized g c = subst (AreCustomized (g.W.Ways.hierarchy c.args.ways.now)) (sym c.new-ground.ensures.customized) (λ edge marked. absurd (cc marked))
