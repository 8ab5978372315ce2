use Rattle.std.proofs.Common.{◌≡◌, ◌∙◌, sym, subst}
use Rattle.cu_model.specs.Orders.{IsOrder, ListsEachNodeOnce, OrderValue}
use Rattle.cu_pack.proofs.Numbering.Copied.{both_ok, order_once}
use Rattle.cu_pack.proofs.Read.GraphRead.{order_same}
use Rattle.cu_pack.proofs.view.copies.order_of.Goals as goal

pub of-requires : goal.of-requires
of-requires c = subst ListsEachNodeOnce (sym c.in_ok-nodes.ensures.all) (order_once c.args.view.now.order c.in_ok-nodes.ensures.sound.order)

pub returns : goal.returns
returns c =
    let order = c.args.view.now.order in
    record {
      same = both_ok (λ (o : OrderValue). o.node_at ≡ c.in_ok-nodes.nodes.items) IsOrder (λ (o : OrderValue). o ≡ order) c.of.result
          (λ o given sound. order_same o order sound c.in_ok-nodes.ensures.sound.order (given ∙ c.in_ok-nodes.ensures.all)) c.of.ensures.given c.of.ensures.sound;
    }
