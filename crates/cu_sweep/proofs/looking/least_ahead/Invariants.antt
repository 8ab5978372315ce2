-- So many higher neighbours were asked.
use Rattle.std.proofs.Common.{◌≡◌, ◌≤◌, ◌<◌, ◌+◌, ℕ, get_or}
use Rattle.cu_chordal.specs.Graphs.{first_edge_of, up_of}
use Rattle.cu_interval.specs.declared.ways.Dir.TheVariants.{Up}
use Rattle.cu_sweep.specs.Outlooks.{ahead_at}
use Rattle.cu_sweep.proofs.looking.least_ahead.Given as goal

abbrev pub invariant-edges : goal.invariant-edges
invariant-edges g l =
    let bound = g.B.Bounds.bounds l.fn.bounds in
    let graph = l.fn.graph in
    record {
      highers : l.highers ≡ up_of graph.edges l.fn.rank;
      edge : l.edge ≡ first_edge_of graph.edges l.fn.rank + l.higher-index;
      less : l.best.0 ≤ ahead_at l.fn.ahead l.fn.rank;
      each : (k : ℕ) → k < l.higher-index → l.best.0 ≤ bound (first_edge_of graph.edges l.fn.rank + k) Up + ahead_at l.fn.ahead (get_or l.highers k 0);
    }
