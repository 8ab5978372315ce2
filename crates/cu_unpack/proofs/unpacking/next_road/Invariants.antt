-- The legs went down so far, and each look-up lowered the lower end of the shortcut that is next.
use Rattle.std.proofs.Common.{◌≡◌, ◌≤◌, ◌+◌, List}
use Rattle.std.specs.Prelude.{slice_get}
use Rattle.cu_interval.specs.declared.shortcuts.Leg.{Leg}
use Rattle.cu_unpack.specs.Steps.Legs.{IsAt, IsSomewhere, low_of}
use Rattle.cu_unpack.proofs.Down.{WentDown}
use Rattle.cu_unpack.proofs.unpacking.next_road.Given as goal

abbrev pub invariant-parts : goal.invariant-parts
invariant-parts g l = record {
  stays : g.C.CountedWays.hierarchy l.ways ≡ g.C.CountedWays.hierarchy l.fn.ways;
  second : l.spot.second ≡ l.fn.spot.second;
  somewhere : IsSomewhere (g.C.CountedWays.hierarchy l.fn.ways) l.pending l.spot;
  few : g.C.CountedWays.steps l.ways + low_of (slice_get (g.C.CountedWays.hierarchy l.fn.ways).edges l.spot.edge)
      ≤ g.C.CountedWays.steps l.fn.ways + (g.C.CountedWays.hierarchy l.fn.ways).network.nodes;
  went : (leg : Leg) (legs : List Leg) → IsAt (g.C.CountedWays.hierarchy l.fn.ways) l.fn.pending l.fn.spot leg legs
      → WentDown (g.C.CountedWays.hierarchy l.fn.ways) leg legs l.fn.spot.second l.pending l.spot (g.C.CountedWays.steps l.fn.ways) (g.C.CountedWays.steps l.ways);
}

abbrev pub decreases-parts : goal.decreases-parts
decreases-parts g l = low_of (slice_get (g.C.CountedWays.hierarchy l.fn.ways).edges l.spot.edge)
