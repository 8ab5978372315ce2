use Rattle.std.proofs.Common.{◌∙◌, ap, subst}
use Rattle.std.proofs.lemmas.Result.{IfOk-weaker}
use Rattle.cu_model.specs.Orders.{OrderValue}
use Rattle.cu_pack.specs.Checks.{Spells}
use Rattle.cu_pack.proofs.Spelled.Again.{spelled_sections}
use Rattle.cu_pack.proofs.Viewed.Views.{order_known}
use Rattle.cu_pack.proofs.view.PackedView.nodes_by_rank.Goals as goal

pub returns-clause-all : goal.returns-clause-all
returns-clause-all c =
    let spells = spelled_sections c.self.inside.sections c.args.self.now (subst (Spells c.self.inside.sections) c.self.view_is c.self.invariant) in
    let same = ap (λ (o : OrderValue). o.node_at) (order_known c.self.inside.sections c.args.self.now spells) in
    IfOk-weaker c.nodes_by_rank.result _ _ (λ items read. read ∙ same) c.nodes_by_rank.ensures.nodes
