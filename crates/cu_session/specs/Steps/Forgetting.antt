-- What is kept no longer.
use Rattle.std.specs.Prelude.{ℕ, List, Option, Some, None, slice_set}
use Rattle.cu_wait.specs.declared.points.Point.{Point}

-- no points of this profile
abbrev pub kept_without : Option ℕ → List (Option (List Point)) → List (Option (List Point))
kept_without None kept = kept
kept_without (Some profile) kept = slice_set kept profile None
