-- The reply to a query that passed its checks.
use Rattle.std.specs.Prelude.{ℕ, List, [], ◌∷◌, ◌++◌, ◌≡◌, ◌⊎◌, codes, decimal}
use Rattle.std.specs.List.{join_by}
use Rattle.cu_model.specs.declared.queries.Query.{Query}
use Rattle.cu_model.specs.Networks.{NetworkValue}
use Rattle.cu_model.specs.Roads.{IsWalk, drive, IsLeastArrival, HasNoWalk}

-- the reply of an arrival over these roads, single blanks between their numbers
abbrev pub arrive_text : ℕ → List ℕ → List ℕ
arrive_text arrival walk = codes "arrive=" ++ decimal arrival ++ codes " arcs=" ++ join_by decimal (32 ∷ []) walk

-- the least arrival, and a walk that, driven from the query's second, arrives then
pub record IsArrival (g : NetworkValue) (query : Query) (arrival : ℕ) (walk : List ℕ) : Type 0 where
  pub least : IsLeastArrival g query.from query.to query.second arrival
  pub joined : IsWalk g query.from walk query.to
  pub driven : drive g walk query.second ≡ arrival

-- `arrive=` with a least arrival and its walk, or `unreachable` exactly where there is no walk
abbrev pub IsAnswer : NetworkValue → Query → List ℕ → Type 0
IsAnswer g query reply =
    ((arrival : ℕ) × (walk : List ℕ) × (reply ≡ arrive_text arrival walk) × IsArrival g query arrival walk)
    ⊎ ((reply ≡ codes "unreachable") × HasNoWalk g query.from query.to)
