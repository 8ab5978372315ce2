-- Trials: a grid drawn from a start, the order of its dissection, and turns of queries and edits drawn behind it.
use Rattle.std.specs.Prelude.{ℕ, zero, suc, List, ◌++◌, ◌≡◌, ◌+◌, ◌%◌, ◌==◌, ◌⊎◌, codes, decimal, length}
use Rattle.std.specs.Bool.{MatchBool}
use Rattle.std.specs.List.{sum_by}
use Rattle.cu_model.specs.declared.queries.Query.{Query}
use Rattle.cu_model.specs.declared.roads.Edit.{Edit}
use Rattle.cu_model.specs.declared.roads.Edit.TheVariants.{Set}
use Rattle.cu_model.specs.Days.{day}
use Rattle.cu_model.specs.Edits.{edited}
use Rattle.cu_model.specs.Networks.{NetworkValue}
use Rattle.cu_model.specs.Orders.{OrderValue, IsOrder}
use Rattle.cu_model.specs.Roads.{HasNoWalk, IsLeastArrival}
use Rattle.cu_dissect.specs.Dissection.{dissected}
use Rattle.cu_interval.specs.Hierarchies.{HierarchyValue, IsBuilt}
use Rattle.cu_roads.specs.Draws.{after, drawn, stepped}
use Rattle.cu_roads.specs.Grids.{behind_grid, drawn_day}
use Rattle.cu_session.specs.Replies.{Touches}
use Rattle.cu_cli.specs.Words.{GridAsked, grid_read}

-- where a trial stands between two turns: the state of its draws, the network, and the tallies so far
pub record TrialValue : Type 0 where
  pub state : ℕ
  pub network : NetworkValue
  pub reached : ℕ
  pub sum : ℕ
  pub edits : ℕ
  pub touched : ℕ

-- the query that is drawn from a state
abbrev pub drawn_query : ℕ → ℕ → Query
drawn_query nodes state =
    record { from = drawn nodes state; to = drawn nodes (stepped state); second = drawn day (after 2 state) }

-- the edit that is drawn from a state: a day for one of 64 profiles
abbrev pub drawn_edit : ℕ → Edit
drawn_edit state = Set (drawn 64 state) (drawn_day (stepped state))

-- a query is counted, with its least arrival, where there is a walk
abbrev pub IsCounted : NetworkValue → Query → TrialValue → TrialValue → Type 0
IsCounted g query before now =
    ((arrival : ℕ) × IsLeastArrival g query.from query.to query.second arrival
    × (now.reached ≡ before.reached + 1) × (now.sum ≡ before.sum + arrival))
    ⊎ (HasNoWalk g query.from query.to × (now.reached ≡ before.reached) × (now.sum ≡ before.sum))

-- a turn's query
pub record IsQueried (before now : TrialValue) : Type 0 where
  pub counted : IsCounted before.network (drawn_query before.network.nodes before.state) before now
  pub state : now.state ≡ after 3 before.state
  pub network : now.network ≡ before.network
  pub edits : now.edits ≡ before.edits
  pub touched : now.touched ≡ before.touched

-- a turn's edit
pub record IsEditedBy (order : OrderValue) (before now : TrialValue) : Type 0 where
  pub count : ℕ
  pub touches : Touches before.network order (drawn_edit before.state) count
  pub network : now.network ≡ edited before.network (drawn_edit before.state)
  pub state : now.state ≡ after 3 before.state
  pub touched : now.touched ≡ before.touched + count
  pub edits : now.edits ≡ before.edits + 1
  pub reached : now.reached ≡ before.reached
  pub sum : now.sum ≡ before.sum

-- the turn with this number: a query, and an edit in each tenth
abbrev pub IsTurn : OrderValue → ℕ → TrialValue → TrialValue → Type 0
IsTurn order number before now =
    (asked : TrialValue) × IsQueried before asked
    × MatchBool (number % 10 == 9) (IsEditedBy order asked now) (now ≡ asked)

-- so many turns
abbrev pub IsTried : OrderValue → TrialValue → ℕ → TrialValue → Type 0
IsTried order start zero now = now ≡ start
IsTried order start (suc turns) now =
    (before : TrialValue) × IsTried order start turns before × IsTurn order turns before now

-- where the turns of a trial begin: over the grid, with the draws behind it
abbrev pub trial_start : GridAsked → TrialValue
trial_start grid =
    let state = behind_grid grid.start grid.width grid.height in
    record { state = state; network = (grid_read grid).network; reached = 0; sum = 0; edits = 0; touched = 0 }

-- an order of a grid's nodes is that of its dissection
pub record IsGridOrder (grid : GridAsked) (order : OrderValue) : Type 0 where
  pub sound : IsOrder order
  pub given : order.node_at ≡ (dissected (grid_read grid).network (grid_read grid).places).order

-- what a hierarchy comes to
abbrev pub hierarchy_text : HierarchyValue → List ℕ
hierarchy_text h =
    codes "nodes " ++ decimal h.network.nodes
    ++ codes " arcs " ++ decimal (length h.network.arcs)
    ++ codes " edges " ++ decimal (length h.edges)
    ++ codes " entries " ++ decimal (sum_by (λ list. length list) h.lists)

-- what the queries of so many turns come to
abbrev pub queries_text : ℕ → TrialValue → List ℕ
queries_text turns end =
    codes " queries " ++ decimal turns ++ codes " reached " ++ decimal end.reached ++ codes " sum " ++ decimal end.sum

-- and their edits
abbrev pub edits_text : TrialValue → List ℕ
edits_text end = codes " edits " ++ decimal end.edits ++ codes " touched " ++ decimal end.touched

-- the line of a trial
pub record IsTrial (grid : GridAsked) (turns : ℕ) (text : List ℕ) : Type 0 where
  pub order : OrderValue
  pub given : IsGridOrder grid order
  pub end : TrialValue
  pub tried : IsTried order (trial_start grid) turns end
  pub last : HierarchyValue
  pub built : IsBuilt last
  pub network : last.network ≡ end.network
  pub same : last.order ≡ order
  pub line : text ≡ hierarchy_text last ++ queries_text turns end ++ edits_text end
