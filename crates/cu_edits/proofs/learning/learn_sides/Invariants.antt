-- The sides over the ranks so far are known.
use Rattle.std.proofs.Common.{◌≡◌, length}
use Rattle.cu_unpack.specs.Rebuilds.{Keeps}
use Rattle.cu_edits.proofs.LearntSides.{IsLearning}
use Rattle.cu_edits.proofs.learning.learn_sides.Given as goal

abbrev pub invariant-loop-middle : goal.invariant-loop-middle
invariant-loop-middle g l = record {
  learns : IsLearning l.parts.before l.parts.graph.edges l.ends l.middle-items l.middle-index l.fn.known l.known;
  size : length l.rebuilt.kept ≡ length l.fn.rebuilt.kept;
  keeps : Keeps l.parts.before l.rebuilt;
}
