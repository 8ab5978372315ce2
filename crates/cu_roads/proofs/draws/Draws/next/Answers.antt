use Rattle.cu_roads.proofs.DrawSteps.{number_is, step_is}
use Rattle.cu_roads.proofs.draws.Draws.next.Goals as goal

pub returns-clause-number : goal.returns-clause-number
returns-clause-number c = number_is c.self.inside.state c.args.self.now c.from.result c.args.below c.self.view_is c.from.ensures

pub returns-clause-state : goal.returns-clause-state
returns-clause-state c = step_is c.self.inside.state c.args.self.now c.self.view_is
