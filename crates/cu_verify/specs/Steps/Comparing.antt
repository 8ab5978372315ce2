-- Lists compared entry by entry, and hierarchies list by list.
use Rattle.std.specs.Prelude.{ℕ, List, Option, Some, None, ◌≡◌, ◌≢◌, min, take}
use Rattle.cu_model.specs.Days.{day}
use Rattle.cu_interval.specs.declared.ways.Entry.{Entry}
use Rattle.cu_interval.specs.Hierarchies.{HierarchyValue}
use Rattle.cu_verify.specs.declared.verdicts.Verdict.{Verdict}
use Rattle.cu_verify.specs.declared.verdicts.Verdict.TheVariants.{Same, Differs}
use Rattle.cu_verify.specs.Verdicts.{DifferFirst, PartAt, with_lists}

-- when an entry begins, or the end of the day where there is none
abbrev pub begin_or_day : Option Entry → ℕ
begin_or_day None = day
begin_or_day (Some entry) = entry.from

-- two entries at the same index are equal, or the earlier of them begins at this second
abbrev pub PartBy : Option Entry → Option Entry → Option ℕ → Type 0
PartBy stored built None = stored ≡ built
PartBy stored built (Some second) = (stored ≢ built) × (second ≡ min (begin_or_day stored) (begin_or_day built))

-- two lists are equal, or this is the first second at which they take other ways
abbrev pub FindsParting : List Entry → List Entry → Option ℕ → Type 0
FindsParting stored built None = stored ≡ built
FindsParting stored built (Some second) = PartAt stored built second

-- so many first lists are equal, or this is where the first that differs does so
abbrev pub IsVerdictTo : HierarchyValue → List (List Entry) → ℕ → Verdict → Type 0
IsVerdictTo h lists count Same = take count h.lists ≡ take count lists
IsVerdictTo h lists count (Differs edge dir second stored built) = DifferFirst h (with_lists h lists) edge dir second stored built
