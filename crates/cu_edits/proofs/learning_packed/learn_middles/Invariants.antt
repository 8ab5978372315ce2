-- The halves by the triangles so far are learned.
use Rattle.std.proofs.Common.{take}
use Rattle.std.specs.Prelude.{All}
use Rattle.cu_edits.specs.Steps.Packed.{LearnsPacked}
use Rattle.cu_edits.specs.Steps.Triangles.{AreLearned}
use Rattle.cu_edits.proofs.learning_packed.learn_middles.Given as goal

abbrev pub invariant-loop-triangle : goal.invariant-loop-triangle
invariant-loop-triangle g l = record {
  learns : LearnsPacked l.parts.before l.fn.packed l.packed;
  known : All (AreLearned l.parts.before l.which l.asked.moved.now l.packed l.asked.dir) (take l.triangle-index l.asked.triangles.now);
}
