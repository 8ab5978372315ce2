-- So many higher neighbours were told.
use Rattle.std.proofs.Common.{◌≡◌, ◌≤◌, ◌<◌, ◌+◌, ◌-◌, ℕ, length, get_or}
use Rattle.cu_chordal.specs.Graphs.{first_edge_of}
use Rattle.cu_interval.specs.declared.ways.Dir.TheVariants.{Down}
use Rattle.cu_sweep.specs.Outlooks.{IsNear, ahead_at}
use Rattle.cu_sweep.proofs.looking.lead_up.Given as goal

abbrev pub invariant-edges : goal.invariant-edges
invariant-edges g l =
    let bound = g.B.Bounds.bounds l.fn.bounds in
    let first = first_edge_of l.fn.graph.edges l.fn.rank in
    record {
      within : l.place ≤ length l.highers;
      places : length l.ahead ≡ length l.fn.ahead;
      nexts : length l.next ≡ length l.fn.next;
      near : IsNear l.ahead;
      less : (y : ℕ) → ahead_at l.ahead y ≤ ahead_at l.fn.ahead y;
      kept : (y : ℕ) → y ≤ l.fn.rank → ahead_at l.ahead y ≡ ahead_at l.fn.ahead y;
      each : (k : ℕ) → k < l.place
          → ahead_at l.ahead (get_or l.highers k 0) ≤ bound (first + k) Down + ahead_at l.fn.ahead l.fn.rank;
      nearer : l.place < length l.highers
          → ahead_at l.fn.ahead l.fn.rank + bound (first + l.place) Down < ahead_at l.ahead (get_or l.highers l.place 0);
    }

abbrev pub decreases-edges : goal.decreases-edges
decreases-edges g l = length l.highers - l.place
