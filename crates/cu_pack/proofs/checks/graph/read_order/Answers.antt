use Rattle.std.proofs.Common.{◌∙◌, subst, sym}
use Rattle.cu_model.specs.Orders.{ListsEachNodeOnce}
use Rattle.cu_pack.proofs.Read.GraphRead.{nodes_read, order_read}
use Rattle.cu_pack.proofs.Spelled.Ordered.{nodes_once, ordered}
use Rattle.cu_pack.proofs.checks.graph.read_order.Goals as goal

pub of-requires : goal.of-requires
of-requires c =
    let bytes = c.args.sections.now in
    let order = c.requires.roads.joined.ordered in
    subst ListsEachNodeOnce (sym (c.in_ok-nodes.ensures.nodes ∙ nodes_read bytes)) (nodes_once bytes order.ranks order.sized.limited.limits.nodes)

pub returns : goal.returns
returns c =
    let bytes = c.args.sections.now in
    let order = c.requires.roads.joined.ordered in
    record {
      order = order_read bytes c.in_ok-nodes.nodes.items c.of.result (ordered bytes order.ranks order.sized.limited.limits.nodes)
          (c.in_ok-nodes.ensures.nodes ∙ nodes_read bytes) c.of.ensures.given c.of.ensures.sound;
    }
