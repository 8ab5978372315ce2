-- The edges to the higher neighbours so far were found.
use Rattle.std.proofs.Common.{◌≡◌}
use Rattle.cu_edits.specs.Steps.Found.{AddsFound}
use Rattle.cu_edits.specs.Steps.Spreading.{IsBetween}
use Rattle.cu_edits.proofs.FoundLaws.{OfFirst}
use Rattle.cu_edits.proofs.finding.find_next.Given as goal

abbrev pub invariant-loop-high : goal.invariant-loop-high
invariant-loop-high l = record {
  edges : l.found.edges ≡ l.fn.found.edges;
  added : AddsFound (OfFirst (λ rank. IsBetween l.graph.edges rank l.ends.high) l.high-items l.high-index) l.fn.found.found l.found.found;
}
