-- What stores leave of a shelf.
use Rattle.std.specs.Prelude.{◌≡◌, ◌⊎◌, ℕ, List, [], Result, OnOk, IfErr, length}
use Rattle.cu_io.specs.Shelves.{ShelfState}
use Rattle.cu_interval.specs.Hierarchies.{HierarchyValue}
use Rattle.cu_pack.specs.Spelling.{spelling}
use Rattle.cu_cli.specs.declared.stops.Stop.{Stop}
use Rattle.cu_cli.specs.declared.stops.Stop.TheVariants as stop
use Rattle.cu_cli.specs.Commands.Build.{built_text}
use Rattle.cu_cli.specs.Endings.{Ending, EndsPacking, StopsBefore, packed_file}
use Rattle.cu_cli.specs.Runs.{CountsFaults}
use Rattle.cu_cli.specs.Storing.{FileMade, FileStored, StopsStoring, Stores, all_stored}
use Rattle.cu_cli.specs.Steps.Outcomes.{IsBeforeScript, stop_of}

-- the files were stored in turn, all of them or as far as the first that was refused
pub record StoresInTurn {T : Type 0} (before now : ShelfState) (files : List FileMade) (result : Result T Stop) : Type 0 where
  pub stored : List FileStored
  pub stores : Stores before.held stored now.held
  pub whole : OnOk result (stored ≡ all_stored files)
  pub stopped : IfErr result (λ why. StopsStoring before now files why stored)
  pub early : IfErr result IsBeforeScript
  pub loads : now.load_faults ≡ before.load_faults
  pub faults : CountsFaults (stop_of result) before now

-- the packed file of a built hierarchy is stored and said, or has too many bytes; or memory ran out before
abbrev pub EndsBuilt : (out : List ℕ) → HierarchyValue → ShelfState → ShelfState → Ending → Type 0
EndsBuilt out h before now work =
    EndsPacking before now [] (packed_file out h) (built_text h (length (spelling h))) work ⊎ StopsBefore stop.NoMemory work
