use Rattle.std.proofs.Common.{subst, sym}
use Rattle.cu_unpack.specs.Rebuilds.{Keeps}
use Rattle.cu_edits.specs.Steps.Parts.{PartsValue}
use Rattle.cu_edits.proofs.edit_parts.EditParts.function_before.Goals as goal

pub function-requires-clause-keeps : goal.function-requires-clause-keeps
function-requires-clause-keeps g c = subst (λ (p : PartsValue). Keeps p.before c.args.rebuilt.now) (sym c.self.view_is) c.requires.keeps

pub returns-clause-keeps : goal.returns-clause-keeps
returns-clause-keeps g c = subst (λ (p : PartsValue). Keeps p.before c.function.new.self) c.self.view_is c.function.ensures.keeps
