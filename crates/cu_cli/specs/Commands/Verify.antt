-- `verify HIERARCHY`: a packed file compared with the hierarchy that is built of its network and order.
use Rattle.std.specs.Prelude.{ℕ, List, [], ◌∷◌, ◌⊎◌, ◌≡◌, false, codes}
use Rattle.cu_io.specs.Shelves.{ShelfState}
use Rattle.cu_interval.specs.Hierarchies.{HierarchyValue, IsBuilt}
use Rattle.cu_verify.specs.declared.verdicts.Verdict.TheVariants.{Differs}
use Rattle.cu_verify.specs.Verdicts.{IsVerdict}
use Rattle.cu_cli.specs.declared.stops.Difference.{Difference}
use Rattle.cu_cli.specs.declared.stops.Stop.{Stop}
use Rattle.cu_cli.specs.declared.stops.Stop.TheVariants as stop
use Rattle.cu_cli.specs.Endings.{Ending, SaysDone, StopsBefore}
use Rattle.cu_cli.specs.Meanings.{Meaning, no_command}
use Rattle.cu_cli.specs.Opening.{IsOpenable, Opens, StopsOpening}
use Rattle.cu_cli.specs.Words.{hierarchy_file}

-- the hierarchy isn't the built one of its network and order, and this is where it first differs from it
abbrev pub IsDifference : HierarchyValue → Difference → Type 0
IsDifference h found = IsVerdict h (Differs found.edge found.dir found.second found.stored found.built)

-- the hierarchy is the built one, and that is said; or it isn't, and where it first differs stops the work; or memory ran out
abbrev pub EndsVerdict : HierarchyValue → Ending → Type 0
EndsVerdict h work =
    (IsBuilt h × SaysDone [] (codes "same") work × (work.taken ≡ []) × (work.stored ≡ []))
    ⊎ ((found : Difference) × IsDifference h found × StopsBefore (stop.Differs found) work)
    ⊎ StopsBefore stop.NoMemory work

-- the hierarchy of the loaded file is compared with the built one; or the load or a check stopped it
abbrev pub EndsVerify : (name : List ℕ) → ShelfState → ShelfState → Ending → Type 0
EndsVerify name before now work =
    ((h : HierarchyValue) × Opens before (hierarchy_file name ∷ []) h [] × EndsVerdict h work)
    ⊎ ((why : Stop) × StopsOpening before now (hierarchy_file name ∷ []) why × StopsBefore why work)

-- a hierarchy isn't the built one
abbrev pub IsDifferent : Stop → Type 0
IsDifferent why = (found : Difference) × (why ≡ stop.Differs found)

unfoldable pub verifying : (name : List ℕ) → Meaning
verifying name = record { ends = EndsVerify name; script = false; can = IsOpenable (hierarchy_file name ∷ []); stops = IsDifferent }

-- what the words behind `verify` ask for
abbrev pub verify_of : List (List ℕ) → Meaning
verify_of (name ∷ []) = verifying name
verify_of _ = no_command
