use Rattle.cu_unpack.specs.RebuiltRuns.{AreSpared}
use Rattle.cu_edits.specs.Steps.Moving.{IsListUpTo, LetsGo}
use Rattle.cu_edits.proofs.letting_go.let_go_from.Given as goal

abbrev pub invariant-loop-rank : goal.invariant-loop-rank
invariant-loop-rank l = record {
  moved : LetsGo (IsListUpTo l.graph.edges l.initial.state.moved.low) l.initial.state.moved l.state.moved;
  spared : AreSpared l.initial.state.functions l.state.functions;
}
