-- Room for relaxations that remember, as contracts see it.
use Rattle.std.specs.Prelude.{ℕ, List, ◌≡◌, ◌*◌, ◌-◌, ◌++◌, length, replicate}
use Rattle.cu_interval.specs.Hierarchies.{HierarchyValue}
use Rattle.cu_recall.specs.declared.downs.DownSpan.{DownSpan}
use Rattle.cu_recall.specs.declared.kept.Kept.TheVariants as kept
use Rattle.cu_recall.specs.declared.spans.Row.{Row}
use Rattle.cu_recall.specs.declared.spans.Span.{Span}
use Rattle.cu_recall.specs.Downs.{KnowsDowns}
use Rattle.cu_recall.specs.Spans.{Knows}

-- a span that has no second
abbrev pub no_span : Span
no_span = record { from = 0; seconds = 0; roads = 0; travel = 0 }

-- a row that says nothing
abbrev pub no_row : Row
no_row = record { latest = no_span; early = no_span; noon = no_span; late = no_span; met = kept.Road 0 0 0 }

-- the rows of so many lists: those that are there, and for each other list one that says nothing
abbrev pub rows_of : ℕ → List Row → List Row
rows_of lists rows = rows ++ replicate (lists - length rows) no_row

-- for how many nodes it was made, the row of each list, and what is kept of the lists downwards, of each edge at three places or of none
pub record RoomValue : Type 0 where
  pub nodes : ℕ
  pub rows : List Row
  pub downs : List DownSpan

-- it is as large as the hierarchy asks, and what it knows is so of this hierarchy
pub record Fits (h : HierarchyValue) (room : RoomValue) : Type 0 where
  pub nodes : room.nodes ≡ h.network.nodes
  pub lists : length room.rows ≡ 2 * length h.edges
  pub knows : Knows h room.rows
  pub downs : KnowsDowns h room.downs
