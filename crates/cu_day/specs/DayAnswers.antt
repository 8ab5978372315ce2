-- What a day function means on the roads, and what the reply is that says it.
use Rattle.std.specs.Prelude.{ℕ, List, Option, Some, None, ◌≡◌, ◌<◌, ◌⊎◌, codes, slice_get}
use Rattle.cu_model.specs.declared.profiles.Piece.{Piece}
use Rattle.cu_model.specs.DayForms.{IsDayForm}
use Rattle.cu_model.specs.Days.{day}
use Rattle.cu_model.specs.Networks.{NetworkValue}
use Rattle.cu_model.specs.Roads.{HasNoWalk, IsLeastArrival}
use Rattle.cu_arrival.specs.declared.runs.Run.{Run}
use Rattle.cu_arrival.specs.Runs.{arrival_value}
use Rattle.cu_interval.specs.Hierarchies.{HierarchyValue, IsBuilt}
use Rattle.cu_forms.specs.DayTexts.{day_text}
use Rattle.cu_day.specs.DayChains.{IsDayFunction}

-- a function has the least arrival over all walks at each second of the day
abbrev pub IsLeastDay : NetworkValue → ℕ → ℕ → (ℕ → ℕ) → Type 0
IsLeastDay g u v f = (t : ℕ) → t < day → IsLeastArrival g u v t (f t)

-- the least arrivals over the day from one node to another, or that there is no walk
abbrev pub IsLeastDayFunction : NetworkValue → ℕ → ℕ → Option (List Run) → Type 0
IsLeastDayFunction g u v None = HasNoWalk g u v
IsLeastDayFunction g u v (Some runs) = IsLeastDay g u v (arrival_value runs)

-- where the hierarchy is built, these are those between the nodes of the ranks
abbrev pub IsLeastWhereBuilt : HierarchyValue → ℕ → ℕ → Option (List Run) → Type 0
IsLeastWhereBuilt h from to function =
    IsBuilt h → (u v : ℕ) → slice_get h.order.node_at from ≡ Some u → slice_get h.order.node_at to ≡ Some v
    → IsLeastDayFunction h.network u v function

-- the day text of a function
abbrev pub IsDayText : (ℕ → ℕ) → List ℕ → Type 0
IsDayText f text = (pieces : List Piece) × IsDayForm f pieces × (text ≡ day_text pieces)

-- the reply by a day function, if there is one: its day text, else `unreachable`
abbrev pub IsTextOf : Option (List Run) → List ℕ → Type 0
IsTextOf None text = text ≡ codes "unreachable"
IsTextOf (Some runs) text = IsDayText (arrival_value runs) text

-- The reply to a question for a whole day that passed its checks: the day text of the least arrivals over all walks, or `unreachable`
-- exactly where there is no walk.
abbrev pub IsDayAnswer : NetworkValue → ℕ → ℕ → List ℕ → Type 0
IsDayAnswer g u v text =
    ((f : ℕ → ℕ) × IsLeastDay g u v f × IsDayText f text)
    ⊎ (HasNoWalk g u v × (text ≡ codes "unreachable"))

-- the same over any file, built or not: the text of the day function between two ranks
abbrev pub IsHeldDayAnswer : HierarchyValue → ℕ → ℕ → List ℕ → Type 0
IsHeldDayAnswer h from to text = (function : Option (List Run)) × IsDayFunction h from to function × IsTextOf function text
