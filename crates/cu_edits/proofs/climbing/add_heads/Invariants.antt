-- The edges to the heads so far were added.
use Rattle.cu_edits.specs.Steps.Climbing.{IsTo}
use Rattle.cu_edits.specs.Steps.Found.{AddsFound}
use Rattle.cu_edits.proofs.FoundLaws.{OfFirst}
use Rattle.cu_edits.proofs.climbing.add_heads.Given as goal

abbrev pub invariant-loop-head : goal.invariant-loop-head
invariant-loop-head l = AddsFound (OfFirst (λ head. IsTo l.graph.edges l.rank head) l.heads l.head-index) l.fn.edges.items l.edges.items
