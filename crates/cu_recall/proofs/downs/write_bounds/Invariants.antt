use Rattle.std.proofs.Common.{◌≡◌, ◌*◌, length}
use Rattle.cu_recall.specs.Downs.{KnowsDowns}
use Rattle.cu_recall.proofs.downs.write_bounds.Given as goal

abbrev pub invariant-places : goal.invariant-places
invariant-places l = record {
  whole : length l.downs ≡ 3 * length l.view.edges;
  knows : KnowsDowns l.view l.downs;
}
