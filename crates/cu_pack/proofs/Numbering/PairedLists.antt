-- Two numbers for each edge, one behind the other: those of its lists.
use Rattle.std.proofs.Common.{◌≡◌, ◌≤◌, ◌<◌, ◌+◌, ◌*◌, ◌∙◌, ℕ, zero, suc, List, [], ◌∷◌, Option, Some, None, length, flat_map, refl, ap, arith}
use Rattle.std.specs.Prelude.{slice_get}
use Rattle.std.specs.List.{range_with_len}
use Rattle.cu_chordal.specs.declared.graph.Ends.{Ends}
use Rattle.cu_interval.specs.declared.ways.Dir.{Dir}
use Rattle.cu_interval.specs.declared.ways.Dir.TheVariants.{Up, Down}
use Rattle.cu_interval.specs.Hierarchies.{HierarchyValue, list_number}
use Rattle.cu_interval.specs.LeastBounds.{bound_ends, far, least_bound, road_bound}
use Rattle.cu_interval.proofs.BoundFuel.{least_of-far}
use Rattle.cu_bounds.specs.KeptBounds.{bounds_of}

module _ (number : ℕ → Dir → ℕ) where
  abbrev pairs : ℕ → ℕ → List ℕ
  pairs first count = flat_map (λ edge. number edge Up ∷ number edge Down ∷ []) (range_with_len first count)

  pairs_long : (first count : ℕ) → length (pairs first count) ≡ 2 * count
  pairs_long first zero = refl
  pairs_long first (suc count) = omega (arith, pairs_long (first + 1) count)

  pair_there : (first count edge : ℕ) (dir : Dir) → edge < count → slice_get (pairs first count) (list_number edge dir) ≡ Some (number (first + edge) dir)
  pair_there first zero edge dir inside = absurd (omega (arith, inside))
  pair_there first (suc count) zero Up inside = let same : first ≡ first + 0 = omega arith in ap (λ (n : ℕ). Some (number n Up)) same
  pair_there first (suc count) zero Down inside = let same : first ≡ first + 0 = omega arith in ap (λ (n : ℕ). Some (number n Down)) same
  pair_there first (suc count) (suc edge) Up inside =
      let place : 2 * suc edge ≡ suc (suc (2 * edge)) = omega arith in
      let same : first + 1 + edge ≡ first + suc edge = omega arith in
      ap (slice_get (pairs first (suc count))) place ∙ pair_there (first + 1) count edge Up (omega (arith, inside)) ∙ ap (λ (n : ℕ). Some (number n Up)) same
  pair_there first (suc count) (suc edge) Down inside =
      let place : 2 * suc edge + 1 ≡ suc (suc (2 * edge + 1)) = omega arith in
      let same : first + 1 + edge ≡ first + suc edge = omega arith in
      ap (slice_get (pairs first (suc count))) place ∙ pair_there (first + 1) count edge Down (omega (arith, inside)) ∙ ap (λ (n : ℕ). Some (number n Down)) same

-- how many bounds a hierarchy has, and where that of each list is
pub bounds_count : (h : HierarchyValue) → length (bounds_of h) ≡ 2 * length h.edges
bounds_count h = pairs_long (least_bound h) 0 (length h.edges)

pub bound_there : (h : HierarchyValue) (edge : ℕ) (dir : Dir) → edge < length h.edges → slice_get (bounds_of h) (list_number edge dir) ≡ Some (least_bound h edge dir)
bound_there h edge dir inside =
    let same : 0 + edge ≡ edge = omega arith in
    pair_there (least_bound h) 0 (length h.edges) edge dir inside ∙ ap (λ (n : ℕ). Some (least_bound h n dir)) same

-- no bound is more than that of an empty list
ends_near : (h : HierarchyValue) (ends : Option Ends) (dir : Dir) → bound_ends (road_bound h.network) h ends dir ≤ far
ends_near h None dir = omega arith
ends_near h (Some ends) dir = least_of-far _ _

pub bound_near : (h : HierarchyValue) (edge : ℕ) (dir : Dir) → least_bound h edge dir ≤ far
bound_near h edge dir = ends_near h (slice_get h.edges edge) dir
