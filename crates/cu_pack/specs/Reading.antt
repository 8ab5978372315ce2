-- What the bytes of a packed file say, section by section.
use Rattle.std.specs.Prelude.{ℕ, zero, suc, List, ◌+◌, ◌*◌, ◌-◌, map}
use Rattle.std.specs.List.{range_with_len}
use Rattle.cu_model.specs.declared.profiles.Piece.{Piece}
use Rattle.cu_model.specs.declared.profiles.Rule.{Rule}
use Rattle.cu_model.specs.declared.profiles.Rule.TheVariants.{Travel, Until, Closed}
use Rattle.cu_model.specs.declared.roads.RoadArc.{RoadArc}
use Rattle.cu_model.specs.Networks.{NetworkValue}
use Rattle.cu_model.specs.Orders.{OrderValue}
use Rattle.cu_chordal.specs.Lists.{edges_of_lists}
use Rattle.cu_interval.specs.declared.ways.Entry.{Entry}
use Rattle.cu_interval.specs.declared.ways.Way.{Way}
use Rattle.cu_interval.specs.declared.ways.Way.TheVariants.{Road, Via}
use Rattle.cu_interval.specs.Hierarchies.{HierarchyValue}
use Rattle.cu_pack.specs.declared.layout.Counts.{Counts}
use Rattle.cu_pack.specs.Layouts.{arcs_at, bounds_at, edge_starts_at, entries_at, pieces_at, profile_starts_at, rank_of_at, uppers_at, way_starts_at}
use Rattle.cu_pack.specs.Places.{long_at, short_at}

-- the version and the counts of the header
unfoldable pub counts_in : List ℕ → Counts
counts_in bytes = record {
  version = short_at bytes 8;
  nodes = short_at bytes 12;
  arcs = short_at bytes 16;
  profiles = short_at bytes 20;
  edges = short_at bytes 24;
  pieces = long_at bytes 28;
  entries = long_at bytes 36;
}

-- so many numbers from a place on
abbrev pub shorts_in : List ℕ → (at count : ℕ) → List ℕ
shorts_in bytes at count = map (λ index. short_at bytes (at + 4 * index)) (range_with_len 0 count)

-- the node at a rank, and the rank of a node
abbrev pub node_at_in : List ℕ → ℕ → ℕ
node_at_in bytes rank = short_at bytes (52 + 4 * rank)

abbrev pub rank_of_in : List ℕ → ℕ → ℕ
rank_of_in bytes node = short_at bytes (rank_of_at (counts_in bytes) + 4 * node)

abbrev pub arc_from : List ℕ → ℕ → RoadArc
arc_from bytes at = record { tail = short_at bytes at; head = short_at bytes (at + 4); profile = short_at bytes (at + 8) }

-- the road with this number
abbrev pub arc_in : List ℕ → ℕ → RoadArc
arc_in bytes arc = arc_from bytes (arcs_at (counts_in bytes) + 12 * arc)

-- how many pieces are before a profile
abbrev pub profile_start : List ℕ → ℕ → ℕ
profile_start bytes profile = long_at bytes (profile_starts_at (counts_in bytes) + 8 * profile)

-- the rule of a kind, 0 to 2, and its value
abbrev pub rule_of : ℕ → ℕ → Rule
rule_of zero value = Travel value
rule_of (suc zero) value = Until value
rule_of (suc (suc kind)) value = Closed value

abbrev pub piece_from : List ℕ → ℕ → Piece
piece_from bytes at = record { from = short_at bytes at; rule = rule_of (short_at bytes (at + 4)) (short_at bytes (at + 8)) }

-- where a piece stands, and its kind
abbrev pub piece_place : List ℕ → ℕ → ℕ
piece_place bytes piece = pieces_at (counts_in bytes) + 12 * piece

abbrev pub piece_kind : List ℕ → ℕ → ℕ
piece_kind bytes piece = short_at bytes (piece_place bytes piece + 4)

-- the pieces of a profile
abbrev pub profile_in : List ℕ → ℕ → List Piece
profile_in bytes profile =
    map (λ piece. piece_from bytes (piece_place bytes piece))
    (range_with_len (profile_start bytes profile) (profile_start bytes (suc profile) - profile_start bytes profile))

-- how many edges are before a rank
abbrev pub edge_start : List ℕ → ℕ → ℕ
edge_start bytes rank = short_at bytes (edge_starts_at (counts_in bytes) + 4 * rank)

-- the higher rank of an edge
abbrev pub upper_in : List ℕ → ℕ → ℕ
upper_in bytes edge = short_at bytes (uppers_at (counts_in bytes) + 4 * edge)

-- all of these, and the higher ranks of all edges
abbrev pub edge_starts_in : List ℕ → List ℕ
edge_starts_in bytes = shorts_in bytes (edge_starts_at (counts_in bytes)) (suc (counts_in bytes).nodes)

abbrev pub uppers_in : List ℕ → List ℕ
uppers_in bytes = shorts_in bytes (uppers_at (counts_in bytes)) (counts_in bytes).edges

-- how many entries are before a way list
abbrev pub way_start : List ℕ → ℕ → ℕ
way_start bytes list = long_at bytes (way_starts_at (counts_in bytes) + 8 * list)

-- the way of a kind, 0 or 1, and its number
abbrev pub way_of : ℕ → ℕ → Way
way_of zero number = Road number
way_of (suc kind) number = Via number

abbrev pub entry_from : List ℕ → ℕ → Entry
entry_from bytes at = record { from = short_at bytes at; way = way_of (short_at bytes (at + 4)) (short_at bytes (at + 8)) }

-- where an entry stands, and its kind
abbrev pub entry_place : List ℕ → ℕ → ℕ
entry_place bytes entry = entries_at (counts_in bytes) + 12 * entry

abbrev pub entry_kind : List ℕ → ℕ → ℕ
entry_kind bytes entry = short_at bytes (entry_place bytes entry + 4)

-- the entries of a way list
abbrev pub list_in : List ℕ → ℕ → List Entry
list_in bytes list =
    map (λ entry. entry_from bytes (entry_place bytes entry))
    (range_with_len (way_start bytes list) (way_start bytes (suc list) - way_start bytes list))

-- the least bound that is kept of a way list
abbrev pub bound_in : List ℕ → ℕ → ℕ
bound_in bytes list = long_at bytes (bounds_at (counts_in bytes) + 8 * list)

-- the network, the order and the hierarchy that the bytes say
unfoldable pub network_in : List ℕ → NetworkValue
network_in bytes = record {
  nodes = (counts_in bytes).nodes;
  arcs = map (arc_in bytes) (range_with_len 0 (counts_in bytes).arcs);
  profiles = map (profile_in bytes) (range_with_len 0 (counts_in bytes).profiles);
}

unfoldable pub order_in : List ℕ → OrderValue
order_in bytes = record {
  node_at = shorts_in bytes 52 (counts_in bytes).nodes;
  rank_of = shorts_in bytes (rank_of_at (counts_in bytes)) (counts_in bytes).nodes;
}

unfoldable pub decoded : List ℕ → HierarchyValue
decoded bytes = record {
  network = network_in bytes;
  order = order_in bytes;
  edges = edges_of_lists (edge_starts_in bytes) (uppers_in bytes);
  lists = map (list_in bytes) (range_with_len 0 (2 * (counts_in bytes).edges));
}
