-- A list with the triangles of its edge: they lie between its ends, and their middles are all that are joined to both.
use Rattle.std.proofs.Common.{◌≡◌, ◌<◌, ℕ, List, Some, sym, subst, arith, max, min}
use Rattle.std.specs.Prelude.{All, slice_get}
use Rattle.std.specs.List.{Contains}
use Rattle.cu_model.proofs.RoadLaws.{all_at}
use Rattle.cu_chordal.specs.declared.graph.Ends.{Ends}
use Rattle.cu_chordal.specs.Graphs.{HasEdge, IsChordal}
use Rattle.cu_interval.specs.declared.ways.Dir.{Dir}
use Rattle.cu_interval.specs.declared.ways.Dir.TheVariants.{Up, Down}
use Rattle.cu_interval.specs.declared.ways.Entry.{Entry}
use Rattle.cu_interval.specs.Hierarchies.{end_of, start_of}
use Rattle.cu_interval.specs.WayLists.{IsRunsOf}
use Rattle.cu_customize.specs.declared.task.Task.{Task}
use Rattle.cu_customize.specs.Functions.{FunctionsState}
use Rattle.cu_customize.specs.Settling.{ArrivesBy, IsSettledList}
use Rattle.cu_customize.specs.Steps.Best.{IsOpenAmong}
use Rattle.cu_customize.specs.Steps.Gathering.{ways_of}
use Rattle.cu_customize.specs.Triangles.{AreTriangles, IsTriangle, middles_in}
use Rattle.cu_customize.proofs.Filing.{middles_joined}
use Rattle.cu_customize.proofs.Loops.{middles_below, taken_settled}
use Rattle.cu_customize.proofs.Settles.{LeadsOver, leads_over}

ends_between : (ends : Ends) (dir : Dir) → ends.low < ends.high → (min (start_of ends dir) (end_of ends dir) ≡ ends.low) × (max (start_of ends dir) (end_of ends dir) ≡ ends.high)
ends_between ends Up lt = (omega (arith, lt), omega (arith, lt))
ends_between ends Down lt = (omega (arith, lt), omega (arith, lt))

module _ (task : Task) (edge : ℕ) (dir : Dir) (ends : Ends) (chordal : IsChordal task.graph.now) (at : slice_get task.graph.now.edges edge ≡ Some ends)
    (found : AreTriangles task.graph.now.edges ends.low ends.high task.triangles.now) (from : task.leg.from ≡ start_of ends dir) (to : task.leg.to ≡ end_of ends dir) where
  pub leads : LeadsOver task.graph.now.ranks task.leg.from task.leg.to ends.low
  leads = leads_over task.graph.now chordal edge ends dir task.leg.from task.leg.to at from to

  joined_low : (middle : ℕ) → Contains (middles_in task.triangles.now) middle → HasEdge task.graph.now.edges middle ends.low
  joined_low = middles_joined task.graph.now.edges ends.low ends.high task.triangles.now found.each

  pub triangles_between : All (IsTriangle task.graph.now.edges (min task.leg.from task.leg.to) (max task.leg.from task.leg.to)) task.triangles.now
  triangles_between =
      let range = all_at (λ (e : Ends). (e.low < e.high) × (e.high < task.graph.now.ranks)) task.graph.now.edges edge ends chordal.in_range at in
      let (low, high) = ends_between ends dir range.0 in
      let low_is : ends.low ≡ min task.leg.from task.leg.to = (rw (from, to) (sym low)) in
      let high_is : ends.high ≡ max task.leg.from task.leg.to = (rw (from, to) (sym high)) in
      subst (λ (x : ℕ). All (IsTriangle task.graph.now.edges x (max task.leg.from task.leg.to)) task.triangles.now) low_is
      (subst (λ (y : ℕ). All (IsTriangle task.graph.now.edges ends.low y) task.triangles.now) high_is found.each)

  -- a middle that is joined to both ends is among them
  pub common_found : (middle : ℕ) → HasEdge task.graph.now.edges middle task.leg.from → HasEdge task.graph.now.edges middle task.leg.to → Contains (middles_in task.triangles.now) middle
  common_found middle one two =
      common_of dir middle (subst (λ (x : ℕ). HasEdge task.graph.now.edges middle x) from one) (subst (λ (y : ℕ). HasEdge task.graph.now.edges middle y) to two)
    where
      common_of : (d : Dir) (m : ℕ) → HasEdge task.graph.now.edges m (start_of ends d) → HasEdge task.graph.now.edges m (end_of ends d) → Contains (middles_in task.triangles.now) m
      common_of Up m low high = found.whole m low high
      common_of Down m high low = found.whole m low high

  -- and it is below both
  pub all_below : All (λ (m : ℕ). (m < task.leg.from) × (m < task.leg.to)) (middles_in task.triangles.now)
  all_below = middles_below task.graph.now chordal task.leg.from task.leg.to ends.low (middles_in task.triangles.now) leads.from leads.to joined_low

  -- the runs of the first of these ways are the settled list
  pub task_settled : (f : FunctionsState) (entries : List Entry)
      → IsRunsOf (IsOpenAmong task.graph.now.edges f task.leg.from task.leg.to (ways_of task)) (ArrivesBy task.graph.now.edges f task.leg.from task.leg.to) entries
      → IsSettledList task.graph.now.edges task.arcs.now f task.leg.from task.leg.to entries
  task_settled f entries runs =
      taken_settled task.graph.now chordal f task.leg.from task.leg.to ends.low task.arcs.now (middles_in task.triangles.now) leads.from leads.to joined_low common_found entries runs
