-- The first of those found have led to all that they lead to.
use Rattle.std.proofs.Common.{◌≡◌, ◌-◌, length}
use Rattle.cu_edits.proofs.Reached.{AreReachedSoFar}
use Rattle.cu_edits.proofs.finding.find_onward.Given as goal

abbrev pub invariant-edges : goal.invariant-edges
invariant-edges l = record {
  edges : l.found.edges ≡ l.fn.found.edges;
  reached : AreReachedSoFar l.graph.edges l.fn.found.found l.found.found l.next;
}

abbrev pub decreases-edges : goal.decreases-edges
decreases-edges l = length l.graph.edges - l.next
