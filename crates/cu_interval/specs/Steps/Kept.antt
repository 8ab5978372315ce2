-- How the entries of a way list are kept.
use Rattle.std.specs.Prelude.{List, [], ◌∷◌}
use Rattle.cu_interval.specs.declared.ways.Entry.{Entry}
use Rattle.cu_interval.specs.declared.ways.Kept.{Kept}
use Rattle.cu_interval.specs.declared.ways.Kept.TheVariants.{One, Many}

-- the entries that are kept
abbrev pub kept_entries : Kept → List Entry
kept_entries (One entry) = entry ∷ []
kept_entries (Many entries) = entries.items
