use Rattle.std.proofs.Common.{◌∙◌, ap, sym, subst, length}
use Rattle.std.proofs.lemmas.List.FromFn.{length-range_with_len}
use Rattle.std.proofs.lemmas.Result.{IfOk-weaker}
use Rattle.cu_model.specs.Orders.{OrderValue, ListsEachNodeOnce}
use Rattle.cu_model.proofs.OrderLaws.{each_once, counted_at}
use Rattle.cu_model.proofs.orders.Order.identity.Goals as goal

pub of-requires : goal.of-requires
of-requires c = subst ListsEachNodeOnce (sym c.in_ok-node_at.ensures) (each_once c.args.nodes c.requires)

pub returns-clause-count : goal.returns-clause-count
returns-clause-count c = IfOk-weaker c.of.result _ _ (λ (order : OrderValue) e. ap length (e ∙ c.in_ok-node_at.ensures) ∙ length-range_with_len 0 c.args.nodes) c.of.ensures.given

pub returns-clause-same : goal.returns-clause-same
returns-clause-same c = IfOk-weaker c.of.result _ _ (λ (order : OrderValue) e. counted_at c.args.nodes order.node_at (e ∙ c.in_ok-node_at.ensures)) c.of.ensures.given
