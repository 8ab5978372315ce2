-- The edges of the roads so far were found.
use Rattle.std.proofs.Common.{◌≡◌}
use Rattle.cu_edits.specs.Steps.Found.{AddsFound}
use Rattle.cu_edits.specs.Steps.Spreading.{IsOfRoad}
use Rattle.cu_edits.proofs.FoundLaws.{OfFirst}
use Rattle.cu_edits.proofs.finding.find_roads.Given as goal

abbrev pub invariant-loop-arc : goal.invariant-loop-arc
invariant-loop-arc g l = record {
  edges : l.found.edges ≡ l.fn.found.edges;
  added : AddsFound (OfFirst (λ arc. IsOfRoad (g.W.Ways.hierarchy l.ways) arc) l.arcs l.arc-index) l.fn.found.found l.found.found;
}
