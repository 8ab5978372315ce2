-- What is found of a list, as an answer of relaxing it.
use Rattle.std.specs.Prelude.{ℕ, ◌≡◌}
use Rattle.cu_interval.specs.declared.ways.Dir.{Dir}
use Rattle.cu_interval.specs.declared.relaxing.Relaxed.TheVariants.{At, NoWay}
use Rattle.cu_interval.specs.Hierarchies.{HierarchyValue}
use Rattle.cu_interval.specs.Unpacking.{relaxed}
use Rattle.cu_store.specs.declared.store.Found.{Found}
use Rattle.cu_store.specs.declared.store.Found.TheVariants as found

-- what is found of a list at an absolute second is its answer
abbrev pub IsAnswer : HierarchyValue → ℕ → Dir → ℕ → Found → Type 0
IsAnswer h edge dir t found.Unknown = Unit {0}
IsAnswer h edge dir t found.NoWay = relaxed h edge dir t ≡ NoWay
IsAnswer h edge dir t (found.At arrival) = relaxed h edge dir t ≡ At arrival
