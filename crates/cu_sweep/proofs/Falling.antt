-- What is still to go falls by no more than least bounds, where it does by none that is greater.
use Rattle.std.proofs.Common.{◌≡◌, ◌≤◌, ◌<◌, ℕ, List, Some, length, arith}
use Rattle.std.proofs.lemmas.Option.{slice_get_within}
use Rattle.cu_interval.specs.declared.ways.Dir.{Dir}
use Rattle.cu_interval.specs.declared.ways.Dir.TheVariants.{Up, Down}
use Rattle.cu_interval.specs.Hierarchies.{HierarchyValue, graph_of, number_from}
use Rattle.cu_interval.specs.LeastBounds.{least_bound}
use Rattle.cu_interval.proofs.Lookups.{number_found}
use Rattle.cu_bounds.specs.Near.{AreNear, NearValue, kept_bound}
use Rattle.cu_sweep.specs.Outlooks.{FallsBy, IsAhead}

-- an edge that has a number is among all
numbered_within : (h : HierarchyValue) (x y edge : ℕ) → number_from 0 h.edges x y ≡ Some edge → edge < length h.edges
numbered_within h x y edge e =
    let (j, is, at) = number_found 0 h.edges x y edge e in
    let within = slice_get_within h.edges j (record { low = x; high = y }) at in
    omega (arith, is, within)

pub ahead_by : (h : HierarchyValue) (bound : ℕ → Dir → ℕ) → ((edge : ℕ) (dir : Dir) → edge < length h.edges → bound edge dir ≤ least_bound h edge dir)
    → (from to : ℕ) (up down : List ℕ) → FallsBy bound (graph_of h) from to up down → IsAhead h from to up down
ahead_by h bound below from to up down f = record {
  climb = λ x y edge m e.
      let a = f.climb x y edge m e in
      let b = below edge Up (numbered_within h x y edge e) in
      omega (arith, a, b);
  turn = f.turn;
  fall = λ x y edge m e.
      let a = f.fall x y edge m e in
      let b = below edge Down (numbered_within h x y edge e) in
      omega (arith, a, b);
  end = f.end;
}

-- bounds that are kept are no greater
pub kept_below : (h : HierarchyValue) (bounds : NearValue) → AreNear h bounds → (edge : ℕ) (dir : Dir) → edge < length h.edges
    → kept_bound bounds edge dir ≤ least_bound h edge dir
kept_below h bounds f edge Up within = let e = f.up.1 edge within in omega (arith, e)
kept_below h bounds f edge Down within = let e = f.down.1 edge within in omega (arith, e)
