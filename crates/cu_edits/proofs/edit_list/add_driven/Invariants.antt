-- Of the roads so far those with the profile were added.
use Rattle.cu_edits.proofs.DrivenRoads.{AddsFirst}
use Rattle.cu_edits.proofs.edit_list.add_driven.Given as goal

abbrev pub invariant-loop-arc : goal.invariant-loop-arc
invariant-loop-arc g l = AddsFirst (g.R.Roads.network l.roads) l.profile l.some l.arc-index l.fn.arcs.items l.arcs.items
