-- Bytes were taken with no fault, and no line feed stands in them.
use Rattle.std.proofs.Common.{◌≡◌, ◌-◌, ◌++◌, ℕ, List}
use Rattle.cu_io.specs.Lines.{HasNoFeed}
use Rattle.cu_io.specs.LineReading.{TakesLine}
use Rattle.cu_io.proofs.line_reader.LineReader.pass_over.Given as goal

abbrev pub invariant-loop-self : goal.invariant-loop-self
invariant-loop-self g l =
    (chunk : List ℕ) × TakesLine l.fn.self l.self (g.S.Source.state l.fn.source) (g.S.Source.state l.source) chunk
    × HasNoFeed (l.fn.self.held ++ chunk) × (l.self.over ≡ l.fn.self.over)
    × ((g.S.Source.state l.source).faults ≡ (g.S.Source.state l.fn.source).faults)

abbrev pub decreases-loop-self : goal.decreases-loop-self
decreases-loop-self g l = l.self.take_limit - l.self.taken
