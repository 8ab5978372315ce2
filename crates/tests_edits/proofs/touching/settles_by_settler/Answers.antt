use Rattle.tests_edits.proofs.touching.settles_by_settler.Goals as goal

pub new-requires-clause-graph : goal.new-requires-clause-graph
new-requires-clause-graph c = (c.graph-graph.ensures, c.edges-edges.ensures.sound)

pub recustomize-requires-clause-graph : goal.recustomize-requires-clause-graph
recustomize-requires-clause-graph c = (c.graph-graph.ensures, c.edges-edges.ensures.sound)
