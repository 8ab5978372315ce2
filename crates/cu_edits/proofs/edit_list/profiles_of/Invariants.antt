-- The profiles of the roads so far were listed.
use Rattle.cu_edits.specs.Steps.Adding.{AreFirstProfiles}
use Rattle.cu_edits.proofs.edit_list.profiles_of.Given as goal

abbrev pub invariant-loop-arc : goal.invariant-loop-arc
invariant-loop-arc g l = AreFirstProfiles (g.R.Roads.network l.roads) l.arc l.profiles.items l.arcs.items
