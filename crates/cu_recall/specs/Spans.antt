-- What may be known of a list of ways. Each of these is a fact of the hierarchy alone, so it stays true from one query to the next.
use Rattle.std.specs.Prelude.{ℕ, List, Option, None, Some, ◌≡◌, ◌≢◌, ◌≤◌, ◌<◌, ◌+◌, ◌*◌, ◌/◌, ◌%◌, ◌==◌, [], if◌then◌else◌, length, slice_get}
use Rattle.cu_model.specs.Days.{day}
use Rattle.cu_model.specs.Roads.{drive}
use Rattle.cu_chordal.specs.declared.graph.Ends.{Ends}
use Rattle.cu_interval.specs.declared.ways.Dir.{Dir}
use Rattle.cu_interval.specs.declared.ways.Dir.TheVariants.{Up, Down}
use Rattle.cu_interval.specs.declared.ways.Way.{Way}
use Rattle.cu_interval.specs.declared.ways.Way.TheVariants as way
use Rattle.cu_interval.specs.Hierarchies.{HierarchyValue, start_of, end_of, list_from, way_from}
use Rattle.cu_interval.specs.Unpacking.{unpacked_walk}
use Rattle.cu_recall.specs.declared.kept.Kept.{Kept}
use Rattle.cu_recall.specs.declared.kept.Kept.TheVariants as kept
use Rattle.cu_recall.specs.declared.spans.Met.{Met}
use Rattle.cu_recall.specs.declared.spans.Parts.{Parts}
use Rattle.cu_recall.specs.declared.spans.Parts.TheVariants as part
use Rattle.cu_recall.specs.declared.spans.Row.{Row}
use Rattle.cu_recall.specs.declared.spans.Span.{Span}

-- the direction in which the list with this number leads over its edge
abbrev pub dir_of : ℕ → Dir
dir_of list = if list % 2 == 0 then Up else Down

-- the list with this number leads from rank u to rank v
abbrev pub IsListFrom : HierarchyValue → ℕ → ℕ → ℕ → Type 0
IsListFrom h list u v = (ends : Ends) × (slice_get h.edges (list / 2) ≡ Some ends) × (u ≡ start_of ends (dir_of list)) × (v ≡ end_of ends (dir_of list))

-- some way leads from u to v, and leaving at t its walk takes so many seconds over so many roads
abbrev pub WalkTakes : HierarchyValue → ℕ → ℕ → ℕ → ℕ → ℕ → Type 0
WalkTakes h u v t travel roads =
    (list_from h u v ≢ []) × (length (unpacked_walk h u v t) ≡ roads) × (drive h.network (unpacked_walk h u v t) t ≡ t + travel)

-- the second before which a span ends
abbrev pub end_of_span : Span → ℕ
end_of_span span = span.from + span.seconds

-- a second of the span
abbrev pub HasSecond : Span → ℕ → Type 0
HasSecond span second = (span.from ≤ second) × (second < end_of_span span)

-- at each second of the span the list's walk takes as long over as many roads as it says
abbrev pub HoldsSpan : HierarchyValue → ℕ → Span → Type 0
HoldsSpan h list span =
    (end_of_span span ≤ day)
    × ((u v t : ℕ) → IsListFrom h list u v → HasSecond span t → WalkTakes h u v t span.travel span.roads)

-- at each of these seconds this way from u to v is in force
abbrev pub HasWayOver : HierarchyValue → ℕ → ℕ → ℕ → ℕ → Way → Type 0
HasWayOver h u v from until taken = (t : ℕ) → from ≤ t → t < until → way_from h u v t ≡ Some taken

-- these lists are those of the halves at a middle
abbrev pub AreHalvesAt : HierarchyValue → ℕ → ℕ → ℕ → ℕ → ℕ → Type 0
AreHalvesAt h u v first second middle = IsListFrom h first u middle × IsListFrom h second middle v

-- at each of these seconds the way in force is the road, or has these two halves
abbrev pub HoldsParts : HierarchyValue → ℕ → ℕ → ℕ → ℕ → Parts → Type 0
HoldsParts h u v from until (part.Road road) = HasWayOver h u v from until (way.Road road)
HoldsParts h u v from until (part.Halves first second) = (middle : ℕ) × AreHalvesAt h u v first second middle × HasWayOver h u v from until (way.Via middle)

abbrev pub HoldsMet : HierarchyValue → ℕ → Met → Type 0
HoldsMet h list met =
    (met.until ≤ day) × ((u v : ℕ) → IsListFrom h list u v → met.from < met.until → HoldsParts h u v met.from met.until met.parts)

-- a second at which the entry is in force
abbrev pub HasMoment : Met → ℕ → Type 0
HasMoment met second = (met.from ≤ second) × (second < met.until)

-- an entry that is kept, as it was met: at twice so many seconds from one on
abbrev pub met_of : Kept → Met
met_of (kept.Road pairs from road) = record { from = from; until = from + 2 * pairs; parts = part.Road road }
met_of (kept.Halves pairs from first second) = record { from = from; until = from + 2 * pairs; parts = part.Halves first second }

pub record HoldsRow (h : HierarchyValue) (list : ℕ) (row : Row) : Type 0 where
  pub latest : HoldsSpan h list row.latest
  pub early : HoldsSpan h list row.early
  pub noon : HoldsSpan h list row.noon
  pub late : HoldsSpan h list row.late
  pub met : HoldsMet h list (met_of row.met)

-- each row says only what is so of the list with its number
abbrev pub Knows : HierarchyValue → List Row → Type 0
Knows h rows = (list : ℕ) (row : Row) → slice_get rows list ≡ Some row → HoldsRow h list row

abbrev pub low_of : Option Ends → ℕ
low_of None = 0
low_of (Some ends) = ends.low

-- the lower of the ranks that a list joins
abbrev pub low_of_list : HierarchyValue → ℕ → ℕ
low_of_list h list = low_of (slice_get h.edges (list / 2))
