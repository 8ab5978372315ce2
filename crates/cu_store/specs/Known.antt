-- What is known of lists of ways, by list number: nothing, that a list is empty, or its function.
use Rattle.std.specs.Prelude.{ℕ, List, [], Option, Some, None, ◌≡◌, ◌≤◌, ◌<◌, ◌+◌, ◌-◌, ◌++◌, ◌∷◌, ◌⊎◌, ◌^◌, length, slice_get, take}
use Rattle.cu_model.specs.Days.{IsOnward}
use Rattle.cu_arrival.specs.declared.runs.Run.{Run}
use Rattle.cu_arrival.specs.Runs.{arrival_value}
use Rattle.cu_runs.specs.PackedRuns.{IsPackedFunction, end_run}
use Rattle.cu_runs.specs.Travels.{Takes, TakesAtLeast}
use Rattle.cu_interval.specs.declared.ways.Dir.{Dir}
use Rattle.cu_interval.specs.declared.relaxing.Relaxed.TheVariants.{At}
use Rattle.cu_interval.specs.Hierarchies.{HierarchyValue, list_number, list_of}
use Rattle.cu_interval.specs.Unpacking.{relaxed}
use Rattle.cu_brief.specs.BriefRuns.{HasUnfit}
use Rattle.cu_store.specs.declared.store.Found.{Found}
use Rattle.cu_store.specs.declared.store.Found.TheVariants as found

-- a function that is known
pub record KnownFunction : Type 0 where
  pub runs : List Run

-- of each list what is known, how much of the room for runs is taken, and how much there is
pub record StoreValue : Type 0 where
  pub known : List (Option (Option KnownFunction))
  pub used : ℕ
  pub room : ℕ

-- a function's runs, with the end said plainly
abbrev pub ended : List Run → List Run
ended packed = take (length packed - 1) packed ++ end_run ∷ []

-- a function with these runs is known
abbrev pub HasRuns : Option (Option (Option KnownFunction)) → List Run → Type 0
HasRuns known runs = (function : KnownFunction) × (known ≡ Some (Some (Some function))) × (function.runs ≡ runs)

-- no function is known
abbrev pub HasNoRuns : Option (Option (Option KnownFunction)) → Type 0
HasNoRuns known = (runs : List Run) → HasRuns known runs → ⊥

-- what is found of a list at a second of the day
abbrev pub found_at : Option (Option (Option KnownFunction)) → ℕ → Found
found_at None second = found.Unknown
found_at (Some None) second = found.Unknown
found_at (Some (Some None)) second = found.NoWay
found_at (Some (Some (Some function))) second = found.At (arrival_value function.runs second)

-- what a function says of a list in a hierarchy: at every second relaxing the list arrives then
pub record IsListFunction (h : HierarchyValue) (edge : ℕ) (dir : Dir) (function : KnownFunction) : Type 0 where
  pub over_day : IsPackedFunction function.runs
  pub onward : IsOnward (arrival_value function.runs)
  pub drives : (t : ℕ) → relaxed h edge dir t ≡ At (arrival_value function.runs t)

abbrev pub IsKnownOf : HierarchyValue → ℕ → Dir → Option KnownFunction → Type 0
IsKnownOf h edge dir None = list_of h edge dir ≡ []
IsKnownOf h edge dir (Some function) = IsListFunction h edge dir function

-- what is known of each list is so in this hierarchy
abbrev pub Knows : HierarchyValue → List (Option (Option KnownFunction)) → Type 0
Knows h known = (edge : ℕ) (dir : Dir) (function : Option KnownFunction) → slice_get known (list_number edge dir) ≡ Some (Some function) → IsKnownOf h edge dir function

-- the least travel of a function
abbrev pub IsLeastTravel : List Run → ℕ → Type 0
IsLeastTravel packed least = TakesAtLeast packed least × Takes packed least

-- why a function is left out: the room is taken, or its runs take too much longer than the least
abbrev pub IsLeftOut : StoreValue → List Run → Type 0
IsLeftOut store packed = (store.room < store.used + length packed)
    ⊎ ((least : ℕ) → IsLeastTravel packed least → (2 ^ 32 ≤ least) ⊎ HasUnfit least packed)
