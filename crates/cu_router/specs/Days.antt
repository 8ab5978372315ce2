-- What a hierarchy, built or not, has for a whole day between two nodes.
use Rattle.std.specs.Prelude.{ℕ, List, Option, Some, ◌≡◌, slice_get}
use Rattle.cu_arrival.specs.declared.runs.Run.{Run}
use Rattle.cu_day.specs.DayAnswers.{IsLeastDayFunction, IsTextOf}
use Rattle.cu_day.specs.DayChains.{IsDayFunction}
use Rattle.cu_interval.specs.Hierarchies.{HierarchyValue, IsBuilt}
use Rattle.cu_day.specs.declared.lines.DayAsked.{DayAsked}

-- the day function between the ranks of the nodes; and where the hierarchy is built, the least arrivals between them
pub record IsHeldDay (h : HierarchyValue) (query : DayAsked) (function : Option (List Run)) : Type 0 where
  pub from : ℕ
  pub to : ℕ
  pub start : slice_get h.order.rank_of query.from ≡ Some from
  pub stop : slice_get h.order.rank_of query.to ≡ Some to
  pub chains : IsDayFunction h from to function
  pub least : IsBuilt h → IsLeastDayFunction h.network query.from query.to function

-- the reply to a question for a day: the day text of its function, or `unreachable` where there is none
abbrev pub IsHeldDayReply : HierarchyValue → DayAsked → List ℕ → Type 0
IsHeldDayReply h query reply = (function : Option (List Run)) × IsHeldDay h query function × IsTextOf function reply
