-- Both stand for the hierarchy of the file, which has so many edges.
use Rattle.std.proofs.Common.{◌≡◌, length}
use Rattle.tests_files.proofs.walks.same_over_edges.Given as goal

abbrev pub invariant-edges : goal.invariant-edges
invariant-edges l = record {
  same : l.recall ≡ l.unpacker;
  known : l.edges ≡ length l.unpacker.edges;
}
