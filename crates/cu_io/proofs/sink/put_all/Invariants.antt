-- How far the piece has come: its first bytes are written.
use Rattle.std.proofs.Common.{◌≤◌, ◌-◌, length, take}
use Rattle.cu_io.specs.Sinks.{WroteAll}
use Rattle.cu_io.proofs.sink.put_all.Given as goal

abbrev pub invariant-loop-put : goal.invariant-loop-put
invariant-loop-put g l = record {
  within : l.put ≤ length l.piece;
  wrote : WroteAll (g.K.Sink.state l.fn.sink) (g.K.Sink.state l.sink) (take l.put l.piece);
}

abbrev pub decreases-loop-put : goal.decreases-loop-put
decreases-loop-put g l = length l.piece - l.put
