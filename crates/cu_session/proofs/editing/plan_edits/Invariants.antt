-- The first lines were planned.
use Rattle.std.proofs.Common.{length}
use Rattle.cu_session.specs.Steps.Planning.{IsPlanning}
use Rattle.cu_session.proofs.editing.plan_edits.Given as goal

abbrev pub invariant-lines : goal.invariant-lines
invariant-lines g l = IsPlanning l.held l.text l.rest l.said.items l.edits

abbrev pub decreases-lines : goal.decreases-lines
decreases-lines g l = length l.rest
