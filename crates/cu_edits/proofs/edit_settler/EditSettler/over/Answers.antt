use Rattle.std.proofs.Common.{◌∙◌, [], ap, subst, sym}
use Rattle.std.specs.Prelude.{IfSome}
use Rattle.cu_edits.specs.Learned.{ArePackedOf}
use Rattle.cu_edits.specs.Steps.Parts.{PartsValue, settling_over}
use Rattle.cu_edits.proofs.edit_settler.EditSettler.over.Goals as goal

pub of_parts-requires-clause-learned : goal.of_parts-requires-clause-learned
of_parts-requires-clause-learned g c = subst (λ (p : PartsValue). IfSome c.args.learned (ArePackedOf p.before)) (sym c.of-parts.ensures.parts) c.requires.learned

pub returns : goal.returns
returns g c = c.of_parts.ensures ∙ ap (λ (p : PartsValue). settling_over p []) c.of-parts.ensures.parts
