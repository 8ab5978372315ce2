use Rattle.std.proofs.Common.{◌∙◌, subst}
use Rattle.std.proofs.lemmas.Result.{IfOk-weaker}
use Rattle.cu_pack.specs.Checks.{Spells}
use Rattle.cu_pack.proofs.Spelled.Again.{spelled_sections}
use Rattle.cu_pack.proofs.Viewed.Views.{uppers_known}
use Rattle.cu_pack.proofs.view.PackedView.uppers.Goals as goal

pub returns-clause-all : goal.returns-clause-all
returns-clause-all c =
    let spells = spelled_sections c.self.inside.sections c.args.self.now (subst (Spells c.self.inside.sections) c.self.view_is c.self.invariant) in
    let same = uppers_known c.self.inside.sections c.args.self.now spells in
    IfOk-weaker c.uppers.result _ _ (λ items read. read ∙ same) c.uppers.ensures.uppers
