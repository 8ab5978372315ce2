-- The first least of candidates that are taken one after the other.
use Rattle.std.specs.Prelude.{ℕ, List, Option, Some, None, ◌<◌, IsSome}
use Rattle.std.specs.List.{Contains}
use Rattle.cu_model.specs.Days.{day}
use Rattle.cu_arrival.specs.declared.runs.Run.{Run}
use Rattle.cu_arrival.specs.Runs.{arrival_value, IsArrivalFunction}
use Rattle.cu_chordal.specs.declared.graph.Ends.{Ends}
use Rattle.cu_interval.specs.declared.ways.Way.{Way}
use Rattle.cu_interval.specs.declared.ways.Way.TheVariants.{Road, Via}
use Rattle.cu_interval.specs.WayLists.{IsRunsOf}
use Rattle.cu_customize.specs.declared.settling.Settled.{Settled}
use Rattle.cu_customize.specs.Functions.{FunctionsState}
use Rattle.cu_customize.specs.Settling.{ArrivesBy, IsValueOf, function_from}

-- a way that has a function: a road that isn't closed, or a middle of which both halves have one
abbrev pub IsOpenWay : List Ends → FunctionsState → ℕ → ℕ → Way → Type 0
IsOpenWay edges f u v (Road a) = IsSome (f.road a)
IsOpenWay edges f u v (Via m) = IsSome (function_from edges f u m) × IsSome (function_from edges f m v)

abbrev pub IsOpenAmong : List Ends → FunctionsState → ℕ → ℕ → List Way → Way → Type 0
IsOpenAmong edges f u v ways way = Contains ways way × IsOpenWay edges f u v way

-- the function of a way over the day, or none where it has none
abbrev pub IsWayFunction : List Ends → FunctionsState → ℕ → ℕ → Way → Option (List Run) → Type 0
IsWayFunction edges f u v way None = IsOpenWay edges f u v way → ⊥
IsWayFunction edges f u v way (Some runs) = IsOpenWay edges f u v way × IsArrivalFunction runs × ((t : ℕ) → t < day → ArrivesBy edges f u v t way (arrival_value runs t))

-- the list of the first least of these ways, and when they arrive
pub record IsBestOf (edges : List Ends) (f : FunctionsState) (u v : ℕ) (ways : List Way) (best : Settled) : Type 0 where
  pub runs : IsRunsOf (IsOpenAmong edges f u v ways) (ArrivesBy edges f u v) best.ways
  pub value : IsValueOf edges f u v best.ways best.function
