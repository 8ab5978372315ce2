use Rattle.std.proofs.Common.{ℕ}
use Rattle.std.specs.List.{range_with_len}
use Rattle.cu_reach.specs.Reaching.{HoldsLabels}
use Rattle.cu_reach.specs.ReachTexts.{times_at, times_text}
use Rattle.cu_reach.specs.Steps.Gathering.{GatheredAll}
use Rattle.cu_reach.proofs.writing.put_all_times.Given as goal

abbrev pub invariant-nodes : goal.invariant-nodes
invariant-nodes g l =
    (from second : ℕ) → HoldsLabels (g.W.Ways.hierarchy l.ways) from second l.desk
    → GatheredAll (g.K.Sink.state l.fn.sink) (g.K.Sink.state l.sink) l.block (times_text (times_at (g.W.Ways.hierarchy l.ways) from second (range_with_len 0 l.node)))
