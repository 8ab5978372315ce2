-- How the closure of a network grows rank by rank.
use Rattle.std.specs.Prelude.{ℕ, List, [], ◌∷◌, ◌++◌, Option, Some, None, ◌≡◌, ◌≢◌, ◌≤◌, ◌<◌, ◌+◌, ◌-◌, ◌⊎◌, ◌↔◌, length, replicate, All, slice_get, slice_index, slice_index_or, slice_set}
use Rattle.std.specs.List.{Contains, AllPairs}
use Rattle.cu_chordal.specs.Graphs.{IsRising, parent_of, up_of}
use Rattle.cu_chordal.specs.Lists.{edges_to}
use Rattle.cu_chordal.specs.Steps.Flat.{IsTable, edges_in}
use Rattle.cu_chordal.specs.declared.closure.Children.{Children}
use Rattle.cu_chordal.specs.declared.closure.Closing.{Closing}
use Rattle.cu_chordal.specs.declared.graph.Ends.{Ends}
use Rattle.cu_chordal.specs.declared.graph.TheConstants.{MAX_EDGES}
use Rattle.cu_chordal.specs.declared.table.EdgeTable.{EdgeTable}

-- the highest rank below the bound with this parent, if there is one
abbrev pub IsLatestChild : List Ends → ℕ → ℕ → Option ℕ → Type 0
IsLatestChild edges parent bound None = (k : ℕ) → k < bound → parent_of edges k ≡ Some parent → ⊥
IsLatestChild edges parent bound (Some child) = (child < bound) × (parent_of edges child ≡ Some parent) × ((k : ℕ) → child < k → k < bound → parent_of edges k ≡ Some parent → ⊥)

-- the children below this rank, from the latest child of each parent to the one before
pub record AreChildren (edges : List Ends) (ranks rank : ℕ) (children : Children) : Type 0 where
  pub latest_long : length children.latest.items ≡ ranks
  pub before_long : length children.before.items ≡ ranks
  pub begin : (parent : ℕ) (o : Option ℕ) → rank ≤ parent → slice_get children.latest.items parent ≡ Some o → IsLatestChild edges parent rank o
  pub onward : (k parent : ℕ) (o : Option ℕ) → k < rank → parent_of edges k ≡ Some parent → slice_get children.before.items k ≡ Some o → IsLatestChild edges parent k o

-- the numbers in the list, and the rank itself, are those with the rank's stamp
pub record AreStamped (rank : ℕ) (stamps part : List ℕ) : Type 0 where
  pub itself : slice_index stamps rank ≡ rank + 1
  pub stamped : (y : ℕ) → Contains part y → slice_index stamps y ≡ rank + 1
  pub known : (y : ℕ) → slice_index stamps y ≡ rank + 1 → (y ≡ rank) ⊎ Contains part y
  pub apart : Contains part rank → ⊥
  pub once : AllPairs (λ x y. x ≢ y) part
  pub low : All (λ stamp. stamp ≤ rank + 1) stamps

-- the candidates but the rank were added
pub record Gathers (rank : ℕ) (candidates old new : List ℕ) : Type 0 where
  pub kept : (y : ℕ) → Contains old y → Contains new y
  pub taken : (y : ℕ) → Contains candidates y → y ≢ rank → Contains new y
  pub from : (y : ℕ) → Contains new y → Contains old y ⊎ (Contains candidates y × (y ≢ rank))

-- a number that was there, or a candidate but the rank
abbrev pub IsGathered : ℕ → List ℕ → List ℕ → ℕ → Type 0
IsGathered rank old candidates y = Contains old y ⊎ (Contains candidates y × (y ≢ rank))

-- more than so many numbers have the property
abbrev pub HasMoreThan : ℕ → (ℕ → Type 0) → Type 0
HasMoreThan room P = (found : List ℕ) × AllPairs (λ x y. x ≢ y) found × (length found ≡ room + 1) × ((y : ℕ) → Contains found y → P y)

-- where a rank's higher neighbours come from: its links, and the higher neighbours of its children
abbrev pub IsSource : List Ends → List ℕ → ℕ → ℕ → Type 0
IsSource edges links rank y = (y ≢ rank) × (Contains links y ⊎ ((child : ℕ) × (child < rank) × (parent_of edges child ≡ Some rank) × Contains (up_of edges child) y))

-- the list has the sources and no others
abbrev pub ListsSources : List Ends → List ℕ → ℕ → List ℕ → Type 0
ListsSources edges links rank part = (y : ℕ) → Contains part y ↔ IsSource edges links rank y

-- a rank has more sources than there is room for
abbrev pub IsCrowded : EdgeTable → List ℕ → ℕ → Type 0
IsCrowded table links rank = HasMoreThan (MAX_EDGES - length table.lows.items) (IsSource (edges_in table) links rank)

-- the edges of the ranks below this one, as the closure keeps them
pub record AreClosed (edges : List Ends) (ranks rank : ℕ) : Type 0 where
  pub few : length edges ≤ MAX_EDGES
  pub rising : IsRising edges
  pub in_range : All (λ (e : Ends). (e.low < rank) × (e.low < e.high) × (e.high < ranks)) edges

-- the edges of a rank to these higher neighbours were added
pub record Appends (rank : ℕ) (part : List ℕ) (old new : EdgeTable) : Type 0 where
  pub lows : new.lows.items ≡ old.lows.items ++ replicate (length part) rank
  pub highs : new.highs.items ≡ old.highs.items ++ part
  pub starts : new.starts.items ≡ old.starts.items ++ (length old.lows.items + length part) ∷ []

-- the edges and children of the ranks below this one, and stamps of these ranks alone
pub record IsBefore (ranks rank : ℕ) (table : EdgeTable) (children : Children) (stamps : List ℕ) : Type 0 where
  pub layout : IsTable rank table
  pub edges : AreClosed (edges_in table) ranks rank
  pub handed : AreChildren (edges_in table) ranks rank children
  pub marks : length stamps ≡ ranks
  pub low : All (λ stamp. stamp ≤ rank) stamps

-- the closure before a rank is added
abbrev pub IsReady : ℕ → ℕ → Closing → Type 0
IsReady ranks rank closing = IsBefore ranks rank closing.table closing.children closing.stamps.items

-- the rank's part of the edges was added: an edge to each source
abbrev pub AddsRank : List ℕ → ℕ → List Ends → List Ends → Type 0
AddsRank links rank old new = (part : List ℕ) × (new ≡ old ++ edges_to rank part) × ListsSources old links rank part

-- the latest child of each rank and the one before it, once a rank has its parent
abbrev pub HandsOn : ℕ → Option ℕ → Children → Children → Type 0
HandsOn rank None old new = (new.latest.items ≡ old.latest.items) × (new.before.items ≡ old.before.items)
HandsOn rank (Some parent) old new = (new.latest.items ≡ slice_set old.latest.items parent (Some rank))
    × (new.before.items ≡ slice_set old.before.items rank (slice_index_or old.latest.items parent None))
