-- What the checks of a packed file answer.
use Rattle.std.specs.Prelude.{ℕ, Bool, false, List, Option, Some, None, ◌==◌}
use Rattle.cu_interval.specs.Hierarchies.{HierarchyValue}
use Rattle.cu_pack.specs.Checks.{IsRefused, Spells}
use Rattle.cu_pack.specs.declared.refusals.PackRefusal.{PackRefusal}
use Rattle.cu_pack.specs.declared.refusals.PackRefusal.TheVariants as pack

-- the first check of version 2 that bytes fail; none where they are the packed file of a hierarchy
abbrev pub FailsFirst : List ℕ → Option PackRefusal → Type 0
FailsFirst bytes None = (h : HierarchyValue) × Spells bytes h
FailsFirst bytes (Some refusal) = IsRefused bytes refusal

-- whether a file is refused for being of version 1
abbrev pub names_version_1 : PackRefusal → Bool
names_version_1 (pack.Version found) = found == 1
names_version_1 _ = false
