-- Both stand for one hierarchy, which has so many edges.
use Rattle.std.proofs.Common.{◌≡◌, length}
use Rattle.tests_files.proofs.stored.same_over_edges.Given as goal

abbrev pub invariant-edges : goal.invariant-edges
invariant-edges l = record {
  same : l.stored ≡ l.plain;
  known : l.edges ≡ length l.plain.edges;
}
