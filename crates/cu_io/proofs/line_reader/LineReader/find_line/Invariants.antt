-- Bytes were taken with no fault, and no line feed stands in what was searched of those held.
use Rattle.std.proofs.Common.{◌≡◌, ◌≤◌, ◌-◌, ℕ, List, length, take}
use Rattle.cu_io.specs.Lines.{HasNoFeed}
use Rattle.cu_io.specs.Steps.LineSteps.{Holds}
use Rattle.cu_io.proofs.line_reader.LineReader.find_line.Given as goal

abbrev pub invariant-loop-at : goal.invariant-loop-at
invariant-loop-at g l =
    (chunk : List ℕ) × Holds l.fn.self l.self (g.S.Source.state l.fn.source) (g.S.Source.state l.source) chunk
    × (l.searched ≤ length l.self.held) × HasNoFeed (take l.searched l.self.held)
    × ((g.S.Source.state l.source).faults ≡ (g.S.Source.state l.fn.source).faults)

abbrev pub decreases-loop-at : goal.decreases-loop-at
decreases-loop-at g l = l.self.take_limit - l.self.taken
