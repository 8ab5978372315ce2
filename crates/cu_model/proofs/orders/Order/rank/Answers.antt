use Rattle.cu_model.proofs.OrderLaws.{rank_below}
use Rattle.cu_model.proofs.orders.Order.rank.Goals as goal

pub returns-clause-range : goal.returns-clause-range
returns-clause-range c = rank_below _ c.args.self.now c.self.invariant c.self.view_is c.args.node c.index.result.now c.requires c.index.ensures
