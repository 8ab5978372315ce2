use Rattle.cu_model.proofs.OrderLaws.{node_below}
use Rattle.cu_model.proofs.orders.Order.node.Goals as goal

pub returns-clause-range : goal.returns-clause-range
returns-clause-range c = node_below _ c.args.self.now c.self.invariant c.self.view_is c.args.rank c.index.result.now c.requires c.index.ensures
