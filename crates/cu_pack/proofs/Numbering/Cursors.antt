-- A place among the edges of each rank that follows a higher rank.
use Rattle.std.proofs.Common.{◌≡◌, ◌≤◌, ◌<◌, ℕ, suc, List, min, sym, subst, arith}
use Rattle.std.specs.Prelude.{slice_index}
use Rattle.std.proofs.Math.Nat.{min-eq_left, min-eq_right}
use Rattle.cu_chordal.specs.declared.graph.Ends.{Ends}
use Rattle.cu_interval.specs.declared.ways.Dir.{Dir}
use Rattle.cu_interval.specs.declared.ways.Dir.TheVariants.{Up, Down}
use Rattle.cu_interval.specs.Hierarchies.{end_of, start_of}
use Rattle.cu_pack.specs.Checks.{IsGraph}
use Rattle.cu_pack.specs.Layouts.{edge_starts_at}
use Rattle.cu_pack.specs.Reading.{counts_in, edge_start, edge_starts_in}
use Rattle.cu_pack.specs.Steps.Cursors.{AreCursors}
use Rattle.cu_pack.proofs.Read.EdgesRead.{has_part}
use Rattle.cu_pack.proofs.Spelled.Ordered.{shorts_at, shorts_count}

-- places for a rank are places for a higher one
pub cursors_more : (bytes : List ℕ) (high more : ℕ) (places : List ℕ) → high ≤ more → AreCursors bytes high places → AreCursors bytes more places
cursors_more bytes high more places order f = record {
  all = f.all;
  before = λ low inside.
      let before = f.before low inside in
      record {
        from = before.from;
        until = before.until;
        lower = λ edge from less. let under = before.lower edge from less in omega (arith, under, order);
      };
}

-- at first the place of each rank is its first edge
pub cursors_start : (bytes : List ℕ) → IsGraph bytes → AreCursors bytes 0 (edge_starts_in bytes)
cursors_start bytes f = record {
  all = let count = shorts_count bytes (edge_starts_at (counts_in bytes)) (suc (counts_in bytes).nodes) in omega (arith, count);
  before = λ low inside.
      let read : slice_index (edge_starts_in bytes) low ≡ edge_start bytes low = shorts_at bytes (edge_starts_at (counts_in bytes)) (suc (counts_in bytes).nodes) low 0 (omega (arith, inside)) in
      let part = has_part bytes f low inside in
      let order = part.order in
      record {
        from = omega (arith, read);
        until = omega (arith, read, order);
        lower = λ edge from less. absurd (omega (arith, read, from, less));
      };
}

-- the lesser of the ranks from and to which a list leads
pub lesser_end : (ends : Ends) (dir : Dir) (from to : ℕ) → ends.low < ends.high → from ≡ start_of ends dir → to ≡ end_of ends dir → min from to ≡ ends.low
lesser_end ends Up from to order from_is to_is =
    subst (λ (k : ℕ). min k to ≡ ends.low) (sym from_is) (subst (λ (k : ℕ). min ends.low k ≡ ends.low) (sym to_is) (min-eq_left (omega (arith, order))))
lesser_end ends Down from to order from_is to_is =
    subst (λ (k : ℕ). min k to ≡ ends.low) (sym from_is) (subst (λ (k : ℕ). min ends.high k ≡ ends.low) (sym to_is) (min-eq_right (omega (arith, order))))
