-- The reply by a departure that was found.
use Rattle.std.specs.Prelude.{ℕ, List, ◌++◌, codes, decimal}
use Rattle.cu_interval.specs.Hierarchies.{HierarchyValue}
use Rattle.cu_reach.specs.declared.departures.Departure.{Departure}
use Rattle.cu_reach.specs.declared.departures.Departure.TheVariants.{Depart, TooLate, NoWalk, Long}
use Rattle.cu_reach.specs.declared.lines.LatestAsked.{LatestAsked}
use Rattle.cu_reach.specs.ReachAnswers.{query_at}
use Rattle.cu_reach.specs.ReachTexts.{damage_text}
use Rattle.cu_router.specs.Swept.{swept_reply}

abbrev pub departure_text : HierarchyValue → LatestAsked → Departure → List ℕ
departure_text h asked (Depart second arrive) = codes "depart=" ++ decimal second ++ codes " " ++ swept_reply h (query_at asked second)
departure_text h asked TooLate = codes "too late"
departure_text h asked NoWalk = codes "unreachable"
departure_text h asked (Long edge dir at) = damage_text edge dir at
