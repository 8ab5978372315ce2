-- A packed hierarchy that a command loads, perhaps with other files behind it; or what stops the run there.
use Rattle.std.specs.Prelude.{List, ℕ, ◌∷◌, ◌≡◌, ◌≢◌, ◌⊎◌, Option, Some}
use Rattle.cu_io.specs.Shelves.{ShelfState}
use Rattle.cu_interval.specs.Hierarchies.{HierarchyValue}
use Rattle.cu_pack.specs.Checks.{IsRefused, IsRefusedIn, Spells, SpellsIn}
use Rattle.cu_pack.specs.declared.refusals.PackRefusal.{PackRefusal}
use Rattle.cu_pack.specs.declared.refusals.PackRefusal.TheVariants as pack
use Rattle.cu_cli.specs.declared.stops.Stop.{Stop}
use Rattle.cu_cli.specs.declared.stops.Stop.TheVariants as stop
use Rattle.cu_cli.specs.Preparing.{AreLoaded, StopsLoading}
use Rattle.cu_cli.specs.Words.{FileAsked}

-- the bytes are the packed file of this hierarchy, in version 2 or in version 1
abbrev pub IsFileOf : List ℕ → HierarchyValue → Type 0
IsFileOf bytes h = Spells bytes h ⊎ SpellsIn 1 bytes h

-- the bytes are no packed file, and this is the first check that they fail: of version 1 where they say that they are of it
abbrev pub IsNoFile : List ℕ → PackRefusal → Type 0
IsNoFile bytes refusal =
    (IsRefused bytes refusal × (refusal ≢ pack.Version 1))
    ⊎ (IsRefused bytes (pack.Version 1) × IsRefusedIn 1 bytes refusal)

-- the loaded bytes are the packed file of no hierarchy, and this is the first check that they fail; or memory ran out
abbrev pub StopsChecks : List ℕ → Stop → Type 0
StopsChecks bytes (stop.File refusal) = IsNoFile bytes refusal × (refusal ≢ pack.NoMemory)
StopsChecks bytes stop.NoMemory = Unit {0}
StopsChecks bytes _ = ⊥

-- the files are loaded: the first is the packed file of this hierarchy, and these are the texts of the others
abbrev pub Opens : ShelfState → List FileAsked → HierarchyValue → List (List ℕ) → Type 0
Opens before files h texts = (bytes : List ℕ) × AreLoaded before files (bytes ∷ texts) × IsFileOf bytes h

-- a load, or the first check of the first file behind all loads, stops the run so
abbrev pub StopsOpening : ShelfState → ShelfState → List FileAsked → Stop → Type 0
StopsOpening before now files why =
    StopsLoading before now files why
    ⊎ ((bytes : List ℕ) × (texts : List (List ℕ)) × AreLoaded before files (bytes ∷ texts) × StopsChecks bytes why)

-- files that are there, within the limit, the first of them the packed file of a hierarchy
abbrev pub IsOpenable : List FileAsked → ShelfState → Type 0
IsOpenable asked before =
    (files : List ℕ → Option (List ℕ)) × (h : HierarchyValue) × (texts : List (List ℕ)) × (before.held ≡ Some files)
    × Opens before asked h texts
