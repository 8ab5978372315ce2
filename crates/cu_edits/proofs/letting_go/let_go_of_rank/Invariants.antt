use Rattle.cu_unpack.specs.RebuiltRuns.{AreSpared}
use Rattle.cu_edits.specs.Steps.Moving.{IsListUpTo, LetsGo}
use Rattle.cu_edits.proofs.letting_go.let_go_of_rank.Given as goal

abbrev pub invariant-loop-low : goal.invariant-loop-low
invariant-loop-low l = record {
  moved : LetsGo (IsListUpTo l.graph.edges l.initial.state.moved.low) l.initial.state.moved l.state.moved;
  spared : AreSpared l.initial.state.functions l.state.functions;
}
