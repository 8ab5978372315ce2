-- How many look-ups a relaxation takes.
use Rattle.std.specs.Prelude.{ℕ, List, ◌≡◌, ◌≤◌, ◌+◌, ◌*◌, length}
use Rattle.cu_interval.specs.declared.relaxing.Relaxed.{Relaxed}
use Rattle.cu_interval.specs.declared.relaxing.Relaxed.TheVariants.{At, NoWay, Long}
use Rattle.cu_interval.specs.Hierarchies.{HierarchyValue}

-- what a counting holder of ways stands for, and how many look-ups it has counted
pub record CountedValue : Type 0 where
  pub hierarchy : HierarchyValue
  pub steps : ℕ

-- the count before and after: two for each road of the walk, less one; one where there is no way; at most three for each node where the walk is long
abbrev pub Takes : ℕ → List ℕ → Relaxed → ℕ → ℕ → Type 0
Takes nodes walk (At arrival) before now = now + 1 ≡ before + 2 * length walk
Takes nodes walk NoWay before now = now ≡ before + 1
Takes nodes walk Long before now = now ≤ before + 3 * nodes
