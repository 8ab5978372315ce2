-- The roads so far aren't changed.
use Rattle.std.proofs.Common.{take}
use Rattle.std.specs.Prelude.{All}
use Rattle.cu_edits.proofs.unchanged_lists.are_roads_unchanged.Given as goal
use Rattle.cu_resettled.specs.ResettlingAll.{IsChangedBySome}

abbrev pub invariant-loop-arc : goal.invariant-loop-arc
invariant-loop-arc g l = All (λ a. IsChangedBySome l.parts.before.network l.parts.edit a → ⊥) (take l.arc-index l.arc-items)
