-- The replies of a hierarchy, built or not, to lines that ask for more than one answer, or for the latest departure.
use Rattle.std.specs.Prelude.{ℕ, List, [], ◌∷◌, ◌++◌, ◌≡◌, Option, Some, None, codes, decimal, flat_map, map, slice_get}
use Rattle.std.specs.List.{range_with_len}
use Rattle.cu_interval.specs.declared.ways.Dir.{Dir}
use Rattle.cu_interval.specs.declared.ways.Dir.TheVariants.{Up, Down}
use Rattle.cu_interval.specs.Hierarchies.{HierarchyValue}
use Rattle.cu_reach.specs.declared.departures.Departure.{Departure}
use Rattle.cu_reach.specs.declared.departures.Departure.TheVariants as departure
use Rattle.cu_reach.specs.declared.lines.ReachAsked.{ReachAsked}
use Rattle.cu_reach.specs.declared.reaching.Reached.{Reached}
use Rattle.cu_reach.specs.declared.reaching.Reached.TheVariants.{Done, Long}
use Rattle.cu_reach.specs.NodeFields.{TableValue}
use Rattle.cu_reach.specs.Reaching.{reached, reached_at}

-- an arrival behind a blank, or a dash
abbrev pub time_text : Option ℕ → List ℕ
time_text None = codes " -"
time_text (Some arrival) = codes " " ++ decimal arrival

abbrev pub times_text : List (Option ℕ) → List ℕ
times_text times = flat_map time_text times

abbrev pub dir_text : Dir → List ℕ
dir_text Up = codes "up"
dir_text Down = codes "down"

-- what is said where the walk of this relaxation has as many roads as there are nodes
abbrev pub damage_text : ℕ → Dir → ℕ → List ℕ
damage_text edge dir second = codes "damaged " ++ decimal edge ++ codes " " ++ dir_text dir ++ codes " " ++ decimal second

-- when a reach comes to the node with this rank, where it has one
abbrev pub time_at : HierarchyValue → ℕ → ℕ → Option ℕ → Option ℕ
time_at h from second None = None
time_at h from second (Some rank) = reached_at h from second rank

-- when it comes to each of these nodes
abbrev pub times_at : HierarchyValue → ℕ → ℕ → List ℕ → List (Option ℕ)
times_at h from second nodes = map (λ node. time_at h from second (slice_get h.order.rank_of node)) nodes

-- the times of all nodes, by rising number; or the call whose walk is too long
abbrev pub reach_text : HierarchyValue → ℕ → ℕ → Reached → List ℕ
reach_text h from second Done = codes "reach" ++ times_text (times_at h from second (range_with_len 0 h.network.nodes))
reach_text h from second (Long edge dir at) = damage_text edge dir at

abbrev pub reach_from : HierarchyValue → ℕ → Option ℕ → List ℕ
reach_from h second None = []
reach_from h second (Some from) = reach_text h from second (reached h from second)

-- the reply to a line that asks for all nodes from one
abbrev pub reach_reply : HierarchyValue → ReachAsked → List ℕ
reach_reply h asked = reach_from h asked.second (slice_get h.order.rank_of asked.from)

-- the times of a source's targets, and then those of the sources behind it; or the call whose walk is too long, and no more
abbrev pub row_then : HierarchyValue → ℕ → ℕ → List ℕ → Reached → List ℕ → List ℕ
row_then h from second targets Done rest = times_text (times_at h from second targets) ++ rest
row_then h from second targets (Long edge dir at) rest = codes " " ++ damage_text edge dir at

abbrev pub row_from : HierarchyValue → ℕ → List ℕ → Option ℕ → List ℕ → List ℕ
row_from h second targets None rest = []
row_from h second targets (Some from) rest = row_then h from second targets (reached h from second) rest

abbrev pub table_rows : HierarchyValue → ℕ → List ℕ → List ℕ → List ℕ
table_rows h second targets [] = []
table_rows h second targets (source ∷ sources) =
    row_from h second targets (slice_get h.order.rank_of source) (table_rows h second targets sources)

-- the rows of all sources; without targets no source is asked
abbrev pub rows_unless_none : HierarchyValue → ℕ → List ℕ → List ℕ → List ℕ
rows_unless_none h second sources [] = []
rows_unless_none h second sources (target ∷ targets) = table_rows h second (target ∷ targets) sources

-- the reply to a line that asks for a table
abbrev pub table_reply : HierarchyValue → TableValue → List ℕ
table_reply h asked = codes "table" ++ rows_unless_none h asked.second asked.sources asked.targets

-- a reply that says a departure: where it leaves, behind its second what is said of the query at that second
abbrev pub SaysDeparture : (ℕ → List ℕ → Type 0) → Departure → List ℕ → Type 0
SaysDeparture Says departure.NoWalk reply = reply ≡ codes "unreachable"
SaysDeparture Says departure.TooLate reply = reply ≡ codes "too late"
SaysDeparture Says (departure.Depart second arrive) reply =
    (text : List ℕ) × (reply ≡ codes "depart=" ++ decimal second ++ codes " " ++ text) × Says second text
SaysDeparture Says (departure.Long edge dir at) reply = reply ≡ damage_text edge dir at
