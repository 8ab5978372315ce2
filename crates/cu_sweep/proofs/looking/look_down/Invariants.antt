-- So many ancestors were passed.
use Rattle.std.proofs.Common.{◌≡◌, ◌≤◌, ◌+◌, ℕ, Some, length}
use Rattle.std.specs.List.{Contains}
use Rattle.cu_interval.specs.declared.ways.Dir.TheVariants.{Down}
use Rattle.cu_interval.specs.Hierarchies.{number_from}
use Rattle.cu_sweep.specs.Outlooks.{IsNear, ahead_at}
use Rattle.cu_sweep.proofs.looking.look_down.Given as goal

abbrev pub invariant-ranks : goal.invariant-ranks
invariant-ranks g l =
    let bound = g.B.Bounds.bounds l.fn.bounds in
    let graph = l.fn.graph in
    record {
      places : length l.ahead ≡ length l.fn.ahead;
      nexts : length l.next ≡ length l.fn.next;
      near : IsNear l.ahead;
      end : ahead_at l.ahead l.fn.to ≡ 0;
      fall : (x y edge : ℕ) → Contains l.yielded x → number_from 0 graph.edges x y ≡ Some edge → ahead_at l.ahead y ≤ bound edge Down + ahead_at l.ahead x;
    }
