use Rattle.std.proofs.Common.{◌≡◌, ◌++◌, ℕ}
use Rattle.cu_reach.specs.Reaching.{HoldsTimes}
use Rattle.cu_reach.specs.ReachTexts.{times_at, times_text}
use Rattle.cu_reach.specs.Steps.Gathering.{GatheredAll}
use Rattle.cu_reach.proofs.writing.put_times.Given as goal

abbrev pub invariant-nodes : goal.invariant-nodes
invariant-nodes g l = record {
  whole : l.fn.nodes ≡ l.yielded ++ l.node-iterator;
  gathered : (from second : ℕ) → HoldsTimes (g.W.Ways.hierarchy l.ways) from second l.fn.nodes l.desk
      → GatheredAll (g.K.Sink.state l.fn.sink) (g.K.Sink.state l.sink) l.block (times_text (times_at (g.W.Ways.hierarchy l.ways) from second l.yielded));
}
