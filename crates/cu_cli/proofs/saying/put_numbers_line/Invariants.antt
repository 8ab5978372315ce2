-- The word and the first numbers are written.
use Rattle.std.proofs.Common.{take}
use Rattle.cu_io.specs.Sinks.{WroteAll}
use Rattle.cu_cli.specs.Stops.{numbers_text}
use Rattle.cu_cli.proofs.saying.put_numbers_line.Given as goal

abbrev pub invariant-loop-number : goal.invariant-loop-number
invariant-loop-number g l =
    WroteAll (g.K.Sink.state l.fn.sink) (g.K.Sink.state l.sink) (numbers_text l.word (take l.number-index l.numbers))
