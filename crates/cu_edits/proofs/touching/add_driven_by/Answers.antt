use Rattle.std.proofs.Common.{◌≡◌, ◌+◌, Some, sym, subst}
use Rattle.std.specs.Prelude.{slice_get}
use Rattle.cu_model.specs.Networks.{NetworkValue}
use Rattle.cu_edits.specs.Steps.Spreading.{Adds, IsOfProfile}
use Rattle.cu_edits.proofs.AddingEdges.{of_profile_more, of_profile_skip}
use Rattle.cu_edits.proofs.touching.add_driven_by.Goals.{then-arc-profile, else-arc-profile}
use Rattle.cu_edits.proofs.touching.add_driven_by.Goals as goal

pub loop-arc-preserved : goal.loop-arc-preserved
loop-arc-preserved g c =
    let edges = c.args.graph.now.edges in
    let h = g.W.Ways.hierarchy c.args.ways.now in
    let there : slice_get h.network.arcs c.loop-arc.arc ≡ Some c.arc.result = subst (λ (n : NetworkValue). slice_get n.arcs c.loop-arc.arc ≡ Some c.arc.result)
    (sym (g.met.W.Ways.same_network c.args.ways.now)) c.arc.ensures.there in
    let before = c.args.buckets.now in
    elim c.if-arc-profile.branch [
      | then-arc-profile w ↦
          subst (Adds edges (IsOfProfile h c.args.profile (c.loop-arc.arc + 1)) before) (sym w.buckets-is)
          (of_profile_more edges h c.args.profile c.loop-arc.arc c.arc.result before c.loop-arc.buckets w.add_road.new.buckets there w.if-arc-profile.true c.loop-arc.invariant w.add_road.ensures)
      | else-arc-profile w ↦
          subst (Adds edges (IsOfProfile h c.args.profile (c.loop-arc.arc + 1)) before) (sym w.buckets-is)
          (of_profile_skip edges h c.args.profile c.loop-arc.arc c.arc.result before c.loop-arc.buckets there w.if-arc-profile.false c.loop-arc.invariant)
    ]
