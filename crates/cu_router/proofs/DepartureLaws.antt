-- A departure between the ranks of two nodes, and the reply that says it.
use Rattle.std.proofs.Common.{◌≡◌, ℕ, Some, refl}
use Rattle.std.specs.Prelude.{slice_get}
use Rattle.cu_model.specs.Answers.{arrive_text}
use Rattle.cu_interval.specs.Hierarchies.{HierarchyValue, IsHierarchy}
use Rattle.cu_reach.specs.declared.departures.Departure.{Departure}
use Rattle.cu_reach.specs.declared.departures.Departure.TheVariants.{Depart, TooLate, NoWalk, Long}
use Rattle.cu_reach.specs.declared.lines.LatestAsked.{LatestAsked}
use Rattle.cu_reach.specs.Departures.{IsDeparture, IsLatestWhereBuilt, departure_of}
use Rattle.cu_reach.specs.ReachAnswers.{IsHeldLatest, query_at}
use Rattle.cu_router.specs.Reaches.{IsHeldLatestReply}
use Rattle.cu_router.specs.Steps.Departing.{departure_text}
use Rattle.cu_router.specs.Swept.{swept_reply}
use Rattle.cu_router.proofs.HeldAnswers.{answered}

module _ (h : HierarchyValue) (sound : IsHierarchy h) (asked : LatestAsked) (from to : ℕ) (start : slice_get h.order.rank_of asked.from ≡ Some from)
    (stop : slice_get h.order.rank_of asked.to ≡ Some to) where
  held_latest : (departure : Departure) → IsDeparture h from to asked.by departure → departure ≡ departure_of h from to asked.by → IsLatestWhereBuilt h from to asked.by departure → IsHeldLatest h asked departure
  held_latest departure departs search latest = record {
    from = from;
    to = to;
    start = start;
    stop = stop;
    departs = departs;
    search = search;
    latest = λ built. latest built asked.from asked.to (sound.order.placed asked.from from start) (sound.order.placed asked.to to stop);
  }

  -- the text of a departure that was found is the reply
  pub departure_told : (departure : Departure) → IsDeparture h from to asked.by departure → departure ≡ departure_of h from to asked.by
      → IsLatestWhereBuilt h from to asked.by departure → IsHeldLatestReply h asked (departure_text h asked departure)
  departure_told (Depart second arrive) departs search latest =
      let answer = answered arrive_text h sound (query_at asked second) departs.1 from to start stop in
      (Depart second arrive, held_latest (Depart second arrive) departs search latest, (swept_reply h (query_at asked second), refl, answer))
  departure_told TooLate departs search latest = (TooLate, held_latest TooLate departs search latest, refl)
  departure_told NoWalk departs search latest = (NoWalk, held_latest NoWalk departs search latest, refl)
  departure_told (Long edge dir at) departs search latest = (Long edge dir at, held_latest (Long edge dir at) departs search latest, refl)
