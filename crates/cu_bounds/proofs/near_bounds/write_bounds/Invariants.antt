-- The bounds of so many edges were written.
use Rattle.std.proofs.Common.{◌≡◌, ◌<◌, ℕ, length, get_or}
use Rattle.cu_interval.specs.LeastBounds.{least_bound}
use Rattle.cu_bounds.specs.Near.{near}
use Rattle.cu_bounds.proofs.near_bounds.write_bounds.Given as goal

abbrev pub invariant-edges : goal.invariant-edges
invariant-edges g l =
    let h = g.W.Ways.hierarchy l.fn.ways in
    record {
      long : length l.bounds ≡ length h.edges;
      written : (k : ℕ) → k < l.edge → get_or l.bounds k 0 ≡ near (least_bound h k l.fn.dir);
    }
