-- The ranks behind this place were passed, the last first.
use Rattle.std.proofs.Common.{◌≡◌, ◌≤◌, ◌+◌, ℕ, Some, length, drop}
use Rattle.std.specs.List.{Contains}
use Rattle.cu_interval.specs.declared.ways.Dir.TheVariants.{Up}
use Rattle.cu_interval.specs.Hierarchies.{number_from}
use Rattle.cu_sweep.specs.Outlooks.{IsNear, ahead_at}
use Rattle.cu_sweep.proofs.looking.look_up.Given as goal

abbrev pub invariant-ranks : goal.invariant-ranks
invariant-ranks g l =
    let bound = g.B.Bounds.bounds l.fn.bounds in
    let graph = l.fn.graph in
    record {
      within : l.left ≤ length l.path;
      places : length l.ahead ≡ length l.fn.ahead;
      nexts : length l.next ≡ length l.fn.next;
      near : IsNear l.ahead;
      less : (y : ℕ) → ahead_at l.ahead y ≤ ahead_at l.fn.ahead y;
      climb : (x y edge : ℕ) → Contains (drop l.left l.path) x → number_from 0 graph.edges x y ≡ Some edge → ahead_at l.ahead x ≤ bound edge Up + ahead_at l.ahead y;
    }

abbrev pub decreases-ranks : goal.decreases-ranks
decreases-ranks g l = l.left
