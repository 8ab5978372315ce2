-- So many places were passed.
use Rattle.std.proofs.Common.{◌≤◌, ◌<◌, ◌+◌, ◌-◌, ℕ, length, get_or}
use Rattle.cu_interval.specs.declared.ways.Dir.TheVariants.{Down}
use Rattle.cu_sweep.specs.Outlooks.{ahead_at}
use Rattle.cu_sweep.proofs.looking.next_nearer.Given as goal

abbrev pub invariant-edges : goal.invariant-edges
invariant-edges g l =
    let bound = g.B.Bounds.bounds l.fn.bounds in
    record {
      onward : l.fn.start ≤ l.place;
      within : l.place ≤ length l.highers;
      passed : (k : ℕ) → l.fn.start ≤ k → k < l.place → ahead_at l.ahead (get_or l.highers k 0) ≤ l.own + bound (l.first + k) Down;
    }

abbrev pub decreases-edges : goal.decreases-edges
decreases-edges g l = length l.highers - l.place
