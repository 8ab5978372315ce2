use Rattle.std.proofs.Common.{subst, sym}
use Rattle.cu_edits.specs.declared.edits.Edits.{Edits}
use Rattle.cu_edits.specs.Together.{GiveProfile, edits_of}
use Rattle.cu_edits.proofs.edits.last_given.Goals as goal

pub returns-in-One : goal.returns-in-One
returns-in-One c = λ g fits. subst (λ (e : Edits). GiveProfile g (edits_of e) c.args.profile c.given_to.result) (sym c.in-One.is) (c.given_to.ensures g)
