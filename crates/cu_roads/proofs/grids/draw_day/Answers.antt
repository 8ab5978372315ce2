use Rattle.std.proofs.Common.{◌∙◌, ap, sym}
use Rattle.cu_roads.specs.declared.grids.TheConstants.{EXTRA_RANGE}
use Rattle.cu_roads.specs.Draws.{drawn, stepped}
use Rattle.cu_roads.proofs.DrawSteps.{after_two}
use Rattle.cu_roads.proofs.DrawnGrids.{day_is}
use Rattle.cu_roads.proofs.grids.draw_day.Goals as goal

pub returns-clause-pieces : goal.returns-clause-pieces
returns-clause-pieces c = day_is c.next-free.result c.next-extra.result c.args.draws.now c.next-free.ensures.number (c.next-extra.ensures.number ∙ ap (drawn EXTRA_RANGE) c.next-free.ensures.state)

pub returns-clause-state : goal.returns-clause-state
returns-clause-state c = c.next-extra.ensures.state ∙ ap stepped c.next-free.ensures.state ∙ sym (after_two c.args.draws.now)
