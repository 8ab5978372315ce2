-- The bytes that a hierarchy is packed as.
use Rattle.std.specs.Prelude.{ℕ, suc, List, [], ◌∷◌, ◌++◌, ◌≡◌, ◌⊎◌, ◌+◌, ◌==◌, if◌then◌else◌, codes, length, map}
use Rattle.std.specs.Int.{w32, w64, to_le_bytes}
use Rattle.std.specs.List.{flat_map, range_with_len, sum_by}
use Rattle.sha2.specs.Sha256.{sha256}
use Rattle.cu_model.specs.declared.profiles.Piece.{Piece}
use Rattle.cu_model.specs.declared.profiles.Rule.{Rule}
use Rattle.cu_model.specs.declared.profiles.Rule.TheVariants.{Travel, Until, Closed}
use Rattle.cu_model.specs.declared.roads.RoadArc.{RoadArc}
use Rattle.cu_chordal.specs.declared.graph.Ends.{Ends}
use Rattle.cu_chordal.specs.Graphs.{first_edge_of}
use Rattle.cu_interval.specs.declared.ways.Entry.{Entry}
use Rattle.cu_interval.specs.declared.ways.Way.{Way}
use Rattle.cu_interval.specs.declared.ways.Way.TheVariants.{Road, Via}
use Rattle.cu_interval.specs.Hierarchies.{HierarchyValue}
use Rattle.cu_bounds.specs.KeptBounds.{bounds_of}
use Rattle.cu_pack.specs.declared.layout.Counts.{Counts}
use Rattle.cu_pack.specs.Layouts.{file_length}

-- a number in four bytes, and in eight, the lowest first
abbrev pub short : ℕ → List ℕ
short number = to_le_bytes w32 number

abbrev pub long : ℕ → List ℕ
long number = to_le_bytes w64 number

-- three numbers in twelve bytes
abbrev pub triple : ℕ → ℕ → ℕ → List ℕ
triple first second third = short first ++ (short second ++ short third)

unfoldable pub arc_bytes : RoadArc → List ℕ
arc_bytes arc = triple arc.tail arc.head arc.profile

abbrev pub rule_bytes : ℕ → Rule → List ℕ
rule_bytes from (Travel seconds) = triple from 0 seconds
rule_bytes from (Until arrival) = triple from 1 arrival
rule_bytes from (Closed value) = triple from 2 value

unfoldable pub piece_bytes : Piece → List ℕ
piece_bytes piece = rule_bytes piece.from piece.rule

abbrev pub way_bytes : ℕ → Way → List ℕ
way_bytes from (Road arc) = triple from 0 arc
way_bytes from (Via rank) = triple from 1 rank

unfoldable pub entry_bytes : Entry → List ℕ
entry_bytes entry = way_bytes entry.from entry.way

-- how many there are in all lists before each, the first at this many, and at last in all of them
unfoldable pub starts_from : {T : Type 0} → ℕ → List (List T) → List ℕ
starts_from start [] = start ∷ []
starts_from start (list ∷ lists) = start ∷ starts_from (start + length list) lists

-- how many there are in all lists
abbrev pub total : {T : Type 0} → List (List T) → ℕ
total lists = sum_by (λ list. length list) lists

-- the versions: the second keeps the least bound of each list too
abbrev pub IsVersion : ℕ → Type 0
IsVersion version = (version ≡ 1) ⊎ (version ≡ 2)

-- how many of each a hierarchy has, and the version in which it is packed
abbrev pub counts_of : ℕ → HierarchyValue → Counts
counts_of version h = record {
  version = version;
  nodes = h.network.nodes;
  arcs = length h.network.arcs;
  profiles = length h.network.profiles;
  edges = length h.edges;
  pieces = total h.network.profiles;
  entries = total h.lists;
}

-- the header: whose file it is, the version, the counts, and how many bytes there are with the digest
unfoldable pub header : Counts → List ℕ
header c =
    codes "CATCHUPH" ++ (short c.version ++ (short c.nodes ++ (short c.arcs ++ (short c.profiles ++ (short c.edges
    ++ (long c.pieces ++ (long c.entries ++ long (file_length c))))))))

-- the node at each rank, and the rank of each node
abbrev pub order_section : HierarchyValue → List ℕ
order_section h = flat_map short h.order.node_at ++ flat_map short h.order.rank_of

-- the tail, the head and the profile of each road
abbrev pub arcs_section : HierarchyValue → List ℕ
arcs_section h = flat_map arc_bytes h.network.arcs

-- how many pieces are before each profile, and in all; and the pieces
abbrev pub profiles_section : HierarchyValue → List ℕ
profiles_section h = flat_map long (starts_from 0 h.network.profiles) ++ flat_map (flat_map piece_bytes) h.network.profiles

-- for each rank how many edges are before it, and how many in all
abbrev pub edge_starts : HierarchyValue → List ℕ
edge_starts h = map (first_edge_of h.edges) (range_with_len 0 (suc h.network.nodes))

-- that, and the higher rank of each edge
abbrev pub edges_section : HierarchyValue → List ℕ
edges_section h = flat_map short (edge_starts h) ++ flat_map short (map (λ (ends : Ends). ends.high) h.edges)

-- how many entries are before each way list, and in all; and the entries
abbrev pub ways_section : HierarchyValue → List ℕ
ways_section h = flat_map long (starts_from 0 h.lists) ++ flat_map (flat_map entry_bytes) h.lists

-- the least bound of each list by its number, which the first version doesn't keep
abbrev pub bounds_section : ℕ → HierarchyValue → List ℕ
bounds_section version h = if version == 2 then flat_map long (bounds_of h) else []

-- all bytes before the digest, in a version
unfoldable pub body : ℕ → HierarchyValue → List ℕ
body version h =
    header (counts_of version h)
    ++ (order_section h ++ (arcs_section h ++ (profiles_section h ++ (edges_section h ++ (ways_section h ++ bounds_section version h)))))

-- the bytes that a hierarchy is packed as in a version, 1 or 2
unfoldable pub spelling_in : ℕ → HierarchyValue → List ℕ
spelling_in version h = body version h ++ sha256 (body version h)

-- the bytes that a hierarchy is packed as: those of version 2
abbrev pub spelling : HierarchyValue → List ℕ
spelling h = spelling_in 2 h
