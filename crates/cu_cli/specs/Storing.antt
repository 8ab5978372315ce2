-- What a run stores, and what is said of it.
use Rattle.std.specs.Prelude.{ℕ, List, [], ◌∷◌, ◌≡◌, ◌⊎◌, Option, Some, None, IfSome, is_some}
use Rattle.cu_io.specs.Counts.{Rose}
use Rattle.cu_io.specs.Holdings.{Holds, KeepsOthers}
use Rattle.cu_io.specs.Shelves.{ShelfState}
use Rattle.cu_cli.specs.declared.stops.Role.{Role}
use Rattle.cu_cli.specs.declared.stops.Stop.{Stop}
use Rattle.cu_cli.specs.declared.stops.Stop.TheVariants as stop

-- a file that a run stored; nothing is known of its bytes where the store was refused
pub record FileStored : Type 0 where
  pub name : List ℕ
  pub bytes : Option (List ℕ)

-- what each name holds once these files were stored, in this order; where that was told it is told behind each store
abbrev pub Stores : Option (List ℕ → Option (List ℕ)) → List FileStored → Option (List ℕ → Option (List ℕ)) → Type 0
Stores before [] now = now ≡ before
Stores before (file ∷ files) now =
    (then : Option (List ℕ → Option (List ℕ))) × (is_some then ≡ is_some before)
    × IfSome file.bytes (Holds then file.name) × KeepsOthers before then file.name × Stores then files now

-- a file that a command makes: whose word names it, the name, and its bytes
pub record FileMade : Type 0 where
  pub role : Role
  pub name : List ℕ
  pub bytes : List ℕ

-- the store of the file stops the run so: its name's count of faults rose, or memory ran out
abbrev pub StopsStore : ShelfState → ShelfState → FileMade → Stop → Type 0
StopsStore before now file (stop.Fault whose) = (whose ≡ file.role) × Rose (before.store_faults file.name) (now.store_faults file.name)
StopsStore before now file stop.NoMemory = Unit {0}
StopsStore before now file _ = ⊥

-- all files are stored in turn
abbrev pub all_stored : List FileMade → List FileStored
all_stored [] = []
all_stored (file ∷ files) = record { name = file.name; bytes = Some file.bytes } ∷ all_stored files

-- the first store that is refused stops the run so, behind those before it
abbrev pub StopsStoring : ShelfState → ShelfState → List FileMade → Stop → List FileStored → Type 0
StopsStoring before now (file ∷ files) why (entry ∷ stored) =
    (entry.name ≡ file.name)
    × ((StopsStore before now file why × (entry.bytes ≡ None) × (stored ≡ []))
    ⊎ ((entry.bytes ≡ Some file.bytes) × StopsStoring before now files why stored))
StopsStoring before now _ why _ = ⊥
