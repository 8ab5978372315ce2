use Rattle.std.proofs.Common.{◌+◌, List, Option}
use Rattle.cu_arrival.specs.declared.runs.Run.{Run}
use Rattle.cu_chordal.specs.Graphs.{first_edge_of}
use Rattle.cu_customize.specs.Steps.Kept.{Keeps}
use Rattle.cu_customize.proofs.Dropped.{AreDroppedTo}
use Rattle.cu_customize.proofs.dropping.drop_edges_to.Given as goal

abbrev pub invariant-loop-middle : goal.invariant-loop-middle
invariant-loop-middle l = record {
  keeps : (whole : List (Option (List Run))) → Keeps l.graph.edges (first_edge_of l.graph.edges (l.rank + 1)) whole l.initial.functions
      → Keeps l.graph.edges (first_edge_of l.graph.edges (l.rank + 1)) whole l.functions;
  dropped : AreDroppedTo l.graph.edges l.rank l.middle-items l.middle-index l.functions;
}
