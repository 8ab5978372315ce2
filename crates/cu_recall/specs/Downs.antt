-- What may be known of the lists downwards, edge by edge in each of three tables. Each of these is a fact of the hierarchy alone, so it stays true from one query to the next.
use Rattle.std.specs.Prelude.{ℕ, List, Some, ◌≡◌, ◌<◌, ◌+◌, ◌≤◌, ◌%◌, length, slice_get}
use Rattle.cu_interval.specs.declared.ways.Dir.TheVariants.{Down}
use Rattle.cu_interval.specs.Hierarchies.{HierarchyValue, list_number}
use Rattle.cu_interval.specs.LeastBounds.{least_bound}
use Rattle.cu_recall.specs.declared.downs.DownSpan.{DownSpan}
use Rattle.cu_recall.specs.declared.downs.TheConstants.{NO_BOUND}
use Rattle.cu_recall.specs.declared.spans.Span.{Span}
use Rattle.cu_recall.specs.Spans.{HoldsSpan}

-- its span, over so many roads
abbrev pub span_of : DownSpan → ℕ → Span
span_of down roads = record { from = down.from; seconds = down.seconds; roads = roads; travel = down.travel }

-- a second of its span
abbrev pub HasDriven : DownSpan → ℕ → Type 0
HasDriven down second = (down.from ≤ second) × (second < down.from + down.seconds)

-- what is kept of the list downwards over an edge is so: its least bound, unless that is left to the file, and the span, over fewer roads than there are nodes
pub record HoldsDown (h : HierarchyValue) (edge : ℕ) (down : DownSpan) : Type 0 where
  pub least : down.least < NO_BOUND → down.least ≡ least_bound h edge Down
  pub driven : (roads : ℕ) × (0 < down.seconds → roads < h.network.nodes) × HoldsSpan h (list_number edge Down) (span_of down roads)

-- each edge has a place in each of three tables, which stand behind one another: what stands at a place is so of the edge whose number is left when the place is divided by the count of edges
abbrev pub KnowsDowns : HierarchyValue → List DownSpan → Type 0
KnowsDowns h downs = (place : ℕ) (down : DownSpan) → slice_get downs place ≡ Some down → HoldsDown h (place % length h.edges) down
