-- Where the runs of lists stand in one pool.
use Rattle.std.specs.Prelude.{ℕ, List, [], ◌∷◌, Option, Some, None, ◌≤◌, ◌+◌, ◌-◌, ◌++◌, drop, length, replicate, take}
use Rattle.cu_runs.specs.PackedRuns.{end_run}
use Rattle.cu_brief.specs.BriefRuns.{IsBrief, runs_of}
use Rattle.cu_store.specs.declared.rows.Row.{Row}
use Rattle.cu_store.specs.declared.rows.Row.TheVariants as row
use Rattle.cu_store.specs.Known.{KnownFunction}

-- so many runs of the pool from one on
abbrev pub runs_in : List ℕ → ℕ → ℕ → List ℕ
runs_in pool start count = take count (drop start pool)

-- what a row says by the pool
abbrev pub known_by : List ℕ → Row → Option (Option KnownFunction)
known_by pool row.Unknown = None
known_by pool row.Empty = Some None
known_by pool (row.Runs base start count) =
    Some (Some (record { runs = runs_of base (runs_in pool start count) ++ end_run ∷ [] }))

-- a row's runs are in the pool, and are such of a day
abbrev pub IsRowIn : List ℕ → Row → Type 0
IsRowIn pool row.Unknown = Unit {0}
IsRowIn pool row.Empty = Unit {0}
IsRowIn pool (row.Runs base start count) = (start + count ≤ length pool) × IsBrief (runs_in pool start count)

-- the rows of so many lists: those that are there, and for each other list one that says nothing
abbrev pub rows_of : ℕ → List Row → List Row
rows_of lists rows = rows ++ replicate (lists - length rows) row.Unknown
