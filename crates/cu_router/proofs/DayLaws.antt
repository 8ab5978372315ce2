-- A day between the ranks of two nodes is that between the nodes.
use Rattle.std.proofs.Common.{◌≡◌, ℕ, List, Option, Result, Ok, Err, Some, subst}
use Rattle.std.specs.Prelude.{IfOk, slice_get}
use Rattle.cu_arrival.specs.declared.runs.Run.{Run}
use Rattle.cu_day.specs.declared.lines.DayAsked.{DayAsked}
use Rattle.cu_day.specs.DayAnswers.{IsLeastWhereBuilt}
use Rattle.cu_day.specs.DayChains.{IsDayFunction}
use Rattle.cu_interval.specs.Hierarchies.{HierarchyValue, IsHierarchy}
use Rattle.cu_router.specs.Days.{IsHeldDay}

pub held_day : {E : Type 0} (held h : HierarchyValue) (query : DayAsked) (from to : ℕ) (result : Result (Option (List Run)) E) → h ≡ held → IsHierarchy h
    → slice_get h.order.rank_of query.from ≡ Some from → slice_get h.order.rank_of query.to ≡ Some to
    → IfOk result (IsDayFunction h from to) → IfOk result (IsLeastWhereBuilt h from to) → IfOk result (IsHeldDay held query)
held_day held h query from to (Err e) same sound at_from at_to found least = found
held_day held h query from to (Ok function) same sound at_from at_to found least =
    subst (λ (k : HierarchyValue). IsHeldDay k query function) same (record {
      from = from;
      to = to;
      start = at_from;
      stop = at_to;
      chains = found;
      least = λ built. least built query.from query.to (sound.order.placed query.from from at_from) (sound.order.placed query.to to at_to);
    })
