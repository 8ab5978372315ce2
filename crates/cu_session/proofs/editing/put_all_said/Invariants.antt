-- What is said of the first lines is written.
use Rattle.std.proofs.Common.{take}
use Rattle.std.specs.Prelude.{Ok}
use Rattle.cu_session.specs.Steps.Planning.{WritesText, said_texts}
use Rattle.cu_session.proofs.editing.put_all_said.Given as goal

abbrev pub invariant-loop-one : goal.invariant-loop-one
invariant-loop-one g l = WritesText (Ok tt) (said_texts (take l.one-index l.said)) (g.K.Sink.state l.fn.sink) (g.K.Sink.state l.sink)
