use Rattle.std.proofs.Common.{◌∙◌, subst}
use Rattle.std.proofs.lemmas.Result.{IfOk-weaker}
use Rattle.cu_pack.specs.Checks.{Spells}
use Rattle.cu_pack.proofs.Spelled.Again.{spelled_sections}
use Rattle.cu_pack.proofs.Viewed.Views.{starts_known}
use Rattle.cu_pack.proofs.view.PackedView.edge_starts.Goals as goal

pub returns : goal.returns
returns c =
    let spells = spelled_sections c.self.inside.sections c.args.self.now (subst (Spells c.self.inside.sections) c.self.view_is c.self.invariant) in
    let same = starts_known c.self.inside.sections c.args.self.now spells in
    record { all = IfOk-weaker c.edge_starts.result _ _ (λ items read. read ∙ same) c.edge_starts.ensures.starts }
