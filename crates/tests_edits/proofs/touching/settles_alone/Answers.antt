use Rattle.tests_edits.proofs.touching.settles_alone.Goals as goal

pub touch-requires-clause-graph : goal.touch-requires-clause-graph
touch-requires-clause-graph c = (c.graph-graph.ensures, c.edges-edges.ensures.sound)
