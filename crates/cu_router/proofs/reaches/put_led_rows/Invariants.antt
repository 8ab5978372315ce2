use Rattle.std.proofs.Common.{◌≡◌, ◌<◌, ◌++◌, ℕ, List, length}
use Rattle.std.specs.Prelude.{All}
use Rattle.cu_io.specs.Sinks.{WroteAll}
use Rattle.cu_reach.specs.ReachTexts.{table_rows}
use Rattle.cu_router.proofs.reaches.put_led_rows.Given as goal

abbrev pub invariant-rows : goal.invariant-rows
invariant-rows g l = record {
  low : All (λ node. node < l.held.network.nodes) l.source-iterator;
  wrote : (done : List ℕ) × WroteAll (g.K.Sink.state l.fn.sink) (g.K.Sink.state l.sink) done
      × (table_rows l.held l.asked.second l.asked.targets l.asked.sources ≡ done ++ table_rows l.held l.asked.second l.asked.targets l.source-iterator);
  stays : l.recall ≡ l.fn.recall;
  desk : length l.desk ≡ length l.fn.desk;
}
