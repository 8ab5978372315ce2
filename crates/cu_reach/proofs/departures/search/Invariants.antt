use Rattle.std.proofs.Common.{◌≡◌, ◌-◌}
use Rattle.cu_model.specs.Days.{day}
use Rattle.cu_reach.specs.Departures.{AddsQueries, searched}
use Rattle.cu_reach.specs.Steps.Searching.{Searched}
use Rattle.cu_reach.proofs.departures.search.Given as goal

abbrev pub invariant-seconds : goal.invariant-seconds
invariant-seconds g l = Searched (g.R.Relaxer.hierarchy l.fn.relaxer) l.fn.journey l.early l.arrival l.late l.left
    × AddsQueries (g.R.Relaxer.hierarchy l.fn.relaxer) l.fn.journey.from l.fn.journey.to (18 - l.left) (g.R.Relaxer.calls l.fn.relaxer) (g.R.Relaxer.calls l.relaxer)
    × (g.R.Relaxer.hierarchy l.relaxer ≡ g.R.Relaxer.hierarchy l.fn.relaxer)
    × (l.desk.nodes ≡ l.fn.desk.nodes)
    × (searched (g.R.Relaxer.hierarchy l.fn.relaxer) l.fn.journey.from l.fn.journey.to l.fn.journey.by l.left l.early l.arrival l.late
    ≡ searched (g.R.Relaxer.hierarchy l.fn.relaxer) l.fn.journey.from l.fn.journey.to l.fn.journey.by 18 0 l.fn.at_nought day)

abbrev pub decreases-seconds : goal.decreases-seconds
decreases-seconds g l = l.left
