-- What is known after some lists are forgotten.
use Rattle.std.specs.Prelude.{ℕ, List, Option, Some, ◌≡◌, length, slice_get}
use Rattle.std.specs.List.{Contains}
use Rattle.cu_interval.specs.declared.ways.Dir.{Dir}
use Rattle.cu_interval.specs.Hierarchies.{list_number}
use Rattle.cu_store.specs.Known.{KnownFunction}

-- the lists of these edges aren't known, and each other one is as it was or isn't known
pub record Forgets (before now : List (Option (Option KnownFunction))) (edges : List ℕ) : Type 0 where
  pub size : length now ≡ length before
  pub kept : (list : ℕ) (function : Option KnownFunction) → slice_get now list ≡ Some (Some function) → slice_get before list ≡ Some (Some function)
  pub gone : (edge : ℕ) (dir : Dir) (function : Option KnownFunction) → Contains edges edge → slice_get now (list_number edge dir) ≡ Some (Some function) → ⊥
