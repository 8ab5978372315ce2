-- The replies that are right over a network, with no hierarchy in them; and the latest departure that a hierarchy, built or not, has.
use Rattle.std.specs.Prelude.{ℕ, List, [], ◌∷◌, ◌++◌, ◌≡◌, Option, Some, codes, flat_map, length, slice_get}
use Rattle.cu_model.specs.declared.queries.Query.{Query}
use Rattle.cu_model.specs.Networks.{NetworkValue}
use Rattle.cu_interval.specs.Hierarchies.{HierarchyValue, IsBuilt}
use Rattle.cu_sweep.specs.ToAll.{IsTime}
use Rattle.cu_reach.specs.declared.departures.Departure.{Departure}
use Rattle.cu_reach.specs.declared.lines.LatestAsked.{LatestAsked}
use Rattle.cu_reach.specs.declared.lines.ReachAsked.{ReachAsked}
use Rattle.cu_reach.specs.Departures.{IsDeparture, IsLatest, departure_of}
use Rattle.cu_reach.specs.NodeFields.{TableValue}
use Rattle.cu_reach.specs.ReachTexts.{SaysDeparture, times_text}

-- the reply to a line that asks for all of so many nodes: the time of each, by rising number
abbrev pub SaysReach : (ℕ → Option ℕ → Type 0) → ℕ → List ℕ → Type 0
SaysReach IsTimeAt nodes reply = (times : List (Option ℕ)) × (length times ≡ nodes)
    × ((v : ℕ) (time : Option ℕ) → slice_get times v ≡ Some time → IsTimeAt v time)
    × (reply ≡ codes "reach" ++ times_text times)

-- the times are those of these targets
abbrev pub AreRowTimes : (ℕ → Option ℕ → Type 0) → List ℕ → List (Option ℕ) → Type 0
AreRowTimes IsTimeAt [] times = times ≡ []
AreRowTimes IsTimeAt (target ∷ targets) times = (time : Option ℕ) × (rest : List (Option ℕ)) × (times ≡ time ∷ rest)
    × IsTimeAt target time × AreRowTimes IsTimeAt targets rest

-- for each source the times of the targets
abbrev pub AreRows : (ℕ → ℕ → Option ℕ → Type 0) → List ℕ → List ℕ → List (List (Option ℕ)) → Type 0
AreRows IsTimeFrom targets [] rows = rows ≡ []
AreRows IsTimeFrom targets (source ∷ sources) rows = (row : List (Option ℕ)) × (rest : List (List (Option ℕ))) × (rows ≡ row ∷ rest)
    × AreRowTimes (IsTimeFrom source) targets row × AreRows IsTimeFrom targets sources rest

-- the reply to a line that asks for a table: for each source, for each target the time
abbrev pub SaysTable : (ℕ → ℕ → Option ℕ → Type 0) → TableValue → List ℕ → Type 0
SaysTable IsTimeFrom asked reply =
    (rows : List (List (Option ℕ))) × AreRows IsTimeFrom asked.targets asked.sources rows × (reply ≡ codes "table" ++ flat_map times_text rows)

-- the query at a second between the nodes of which the latest departure is asked
abbrev pub query_at : LatestAsked → ℕ → Query
query_at asked second = record { from = asked.from; to = asked.to; second = second }

-- The reply to a line that asks for the latest departure: one of which `IsIt` is so, and of the query at its second what `Says` lets be
-- replied to that.
abbrev pub SaysLatest : (Departure → Type 0) → (Query → List ℕ → Type 0) → LatestAsked → List ℕ → Type 0
SaysLatest IsIt Says asked reply =
    (departure : Departure) × IsIt departure × SaysDeparture (λ second text. Says (query_at asked second) text) departure reply

-- over all walks: the least arrival at each node, none exactly where there is no walk
abbrev pub IsReachAnswer : NetworkValue → ReachAsked → List ℕ → Type 0
IsReachAnswer g asked reply = SaysReach (λ v time. IsTime g asked.from v asked.second time) g.nodes reply

-- from each source to each target
abbrev pub IsTableAnswer : NetworkValue → TableValue → List ℕ → Type 0
IsTableAnswer g asked reply = SaysTable (λ u v time. IsTime g u v asked.second time) asked reply

-- over a hierarchy: the one departure between the ranks of the nodes; and where it is built, the latest between them
pub record IsHeldLatest (h : HierarchyValue) (asked : LatestAsked) (departure : Departure) : Type 0 where
  pub from : ℕ
  pub to : ℕ
  pub start : slice_get h.order.rank_of asked.from ≡ Some from
  pub stop : slice_get h.order.rank_of asked.to ≡ Some to
  pub departs : IsDeparture h from to asked.by departure
  pub search : departure ≡ departure_of h from to asked.by
  pub latest : IsBuilt h → IsLatest h.network asked.from asked.to asked.by departure
