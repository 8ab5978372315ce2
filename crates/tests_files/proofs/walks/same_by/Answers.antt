use Rattle.std.proofs.Common.{◌∙◌, arith}
use Rattle.tests_files.proofs.walks.same_by.Goals as goal

pub new-recall-requires-clause-fits : goal.new-recall-requires-clause-fits
new-recall-requires-clause-fits c = record {
  nodes = c.in_ok-room.ensures.nodes ∙ c.nodes.ensures.count;
  lists = omega (arith, c.in_ok-room.ensures.lists, c.edges-edges.ensures.count);
  knows = c.in_ok-room.ensures.knows c.args.view.now;
  downs = c.in_ok-room.ensures.downs c.args.view.now;
}
