use Rattle.std.proofs.Common.{arith}
use Rattle.cu_model.proofs.ListLaws.{get_here}
use Rattle.cu_edits.proofs.learning.learn_edge.Goals as goal

pub returns-clause-known : goal.returns-clause-known
returns-clause-known g c = (_, get_here c.args.known.now c.args.edge _ (let edge = c.requires.edge in let count = c.requires.known in omega (arith, edge, count)))
