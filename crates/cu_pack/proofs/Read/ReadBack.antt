-- Each number of a packed file, read where the layout says that it stands.
use Rattle.std.proofs.Common.{◌≡◌, ◌≤◌, ◌<◌, ◌+◌, ◌*◌, ◌^◌, ◌∙◌, true, ℕ, suc, List, [], ◌∷◌, Some, length, get_or, take, drop, map, refl, ap, sym, subst, arith, inl, inr}
use Rattle.std.specs.Prelude.{codes, nat_lt, slice_get}
use Rattle.std.specs.Option.{option_map}
use Rattle.std.proofs.lemmas.Bool.{and_parts, leb-true, eqb-true}
use Rattle.std.proofs.lemmas.List.Sums.{sum_by-take-le}
use Rattle.std.proofs.lemmas.Option.{slice_get-get_or, slice_get-map, slice_get_within}
use Rattle.cu_model.specs.declared.limits.TheConstants.{MAX_TRAVEL, MAX_UNTIL}
use Rattle.cu_model.specs.declared.profiles.Piece.{Piece}
use Rattle.cu_model.specs.declared.profiles.Rule.{Rule}
use Rattle.cu_model.specs.declared.profiles.Rule.TheVariants.{Travel, Until, Closed}
use Rattle.cu_model.specs.declared.roads.RoadArc.{RoadArc}
use Rattle.cu_model.specs.Days.{day}
use Rattle.cu_model.specs.Networks.{IsArcInRange}
use Rattle.cu_model.specs.Profiles.{IsProfile, is_in_limit, is_rule_in_limit}
use Rattle.cu_model.proofs.FaultLaws.{piece_begins}
use Rattle.cu_model.proofs.RoadLaws.{all_at}
use Rattle.cu_chordal.specs.declared.graph.Ends.{Ends}
use Rattle.cu_chordal.specs.Graphs.{first_edge_of}
use Rattle.cu_chordal.proofs.Grouping.{one_step}
use Rattle.cu_interval.specs.declared.ways.Dir.{Dir}
use Rattle.cu_interval.specs.declared.ways.Entry.{Entry}
use Rattle.cu_interval.specs.declared.ways.Way.{Way}
use Rattle.cu_interval.specs.declared.ways.Way.TheVariants.{Road, Via}
use Rattle.cu_interval.specs.WayLists.{IsWayList}
use Rattle.cu_interval.specs.Hierarchies.{HierarchyValue, IsWellFormed, end_of, list_number, list_of, start_of}
use Rattle.cu_interval.proofs.EndsLaws.{start_below}
use Rattle.cu_pack.specs.Layouts.{rank_of_at, arcs_at, profile_starts_at, pieces_at, edge_starts_at, uppers_at, way_starts_at, entries_at, file_length}
use Rattle.cu_pack.specs.Places.{ReadsRow, ReadsRule, ReadsWay, StandsAt, long_at, short_at}
use Rattle.cu_pack.specs.Spelling.{IsVersion, arc_bytes, counts_of, edge_starts, entry_bytes, header, long, piece_bytes, rule_bytes, starts_from, total, way_bytes, short}
use Rattle.cu_pack.specs.Steps.Fronts.{SpellsSections}
use Rattle.cu_pack.proofs.Numbering.Items.{counted_there}
use Rattle.cu_pack.proofs.Numbering.ListNumbers.{list_parts}
use Rattle.cu_pack.proofs.Spelled.Parts.{arc_long, arcs_stand, edge_starts_stand, entries_stand, entry_long, header_stands, nodes_stand, piece_long, pieces_stand}
use Rattle.cu_pack.proofs.Spelled.Parts.{bounds_length-most, profile_starts_stand, ranks_stand, start_there, uppers_stand, way_starts_stand}
use Rattle.cu_pack.proofs.Read.Standing.{long_read, row_read, stands_inside, stands_ith, stands_jth, short_read}
use Rattle.cu_pack.proofs.Numbering.Totals.{entries_in_limit, in_limits, list_there, pieces_in_limit}

-- no more edges are before a rank than there are
pub first_edge_within : (edges : List Ends) (rank : ℕ) → first_edge_of edges rank ≤ length edges
first_edge_within [] rank = omega arith
first_edge_within (e ∷ es) rank = one_step (nat_lt e.low rank) (first_edge_of es rank) (length es) (first_edge_within es rank)

pub nowhere : Ends
nowhere = record { low = 0; high = 0 }

-- the numbers of a rule fit
rule_read : (bytes : List ℕ) (at from : ℕ) (rule : Rule) → StandsAt bytes at (rule_bytes from rule) → from < 2 ^ 32 → is_rule_in_limit rule ≡ true → ReadsRule bytes at from rule
rule_read bytes at from (Travel seconds) row fits limit = row_read bytes at from 0 seconds row fits (omega arith) (omega (arith, leb-true seconds MAX_TRAVEL limit))
rule_read bytes at from (Until arrival) row fits limit = row_read bytes at from 1 arrival row fits (omega arith) (omega (arith, leb-true arrival MAX_UNTIL limit))
rule_read bytes at from (Closed value) row fits limit = row_read bytes at from 2 value row fits (omega arith) (omega (arith, eqb-true value 0 limit))

version_small : (version : ℕ) → IsVersion version → version < 2 ^ 32
version_small version (inl first) = omega (arith, first)
version_small version (inr second) = omega (arith, second)

module _ (bytes : List ℕ) (h : HierarchyValue) (f : SpellsSections bytes h) where
  short_in_header : (k n : ℕ) → k + 4 ≤ length (header (counts_of f.version h)) → take 4 (drop k (header (counts_of f.version h))) ≡ short n → n < 2 ^ 32 → short_at bytes k ≡ n
  short_in_header k n inside there fits = short_read bytes k n (stands_inside bytes 0 k k (header (counts_of f.version h)) (short n) (header_stands bytes h f) inside there (omega arith)) fits

  long_in_header : (k n : ℕ) → k + 8 ≤ length (header (counts_of f.version h)) → take 8 (drop k (header (counts_of f.version h))) ≡ long n → n < 2 ^ 64 → long_at bytes k ≡ n
  long_in_header k n inside there fits = long_read bytes k n (stands_inside bytes 0 k k (header (counts_of f.version h)) (long n) (header_stands bytes h f) inside there (omega arith)) fits

  -- the header: whose file it is, the version, the counts and the length
  pub magic_stands : take 8 bytes ≡ codes "CATCHUPH"
  unfolding header
  magic_stands = stands_inside bytes 0 0 0 (header (counts_of f.version h)) (codes "CATCHUPH") (header_stands bytes h f) (omega arith) refl refl

  pub version_read : short_at bytes 8 ≡ f.version
  unfolding header
  version_read = short_in_header 8 f.version (omega arith) refl (version_small f.version f.known)

  pub nodes_read : short_at bytes 12 ≡ h.network.nodes
  unfolding header
  nodes_read = let limits = in_limits f.version h f.sound in short_in_header 12 h.network.nodes (omega arith) refl (omega (arith, limits.nodes))

  pub arcs_read : short_at bytes 16 ≡ length h.network.arcs
  unfolding header
  arcs_read = let limits = in_limits f.version h f.sound in short_in_header 16 (length h.network.arcs) (omega arith) refl (omega (arith, limits.arcs))

  pub profiles_read : short_at bytes 20 ≡ length h.network.profiles
  unfolding header
  profiles_read = let limits = in_limits f.version h f.sound in short_in_header 20 (length h.network.profiles) (omega arith) refl (omega (arith, limits.profiles))

  pub edges_read : short_at bytes 24 ≡ length h.edges
  unfolding header
  edges_read = let limits = in_limits f.version h f.sound in short_in_header 24 (length h.edges) (omega arith) refl (omega (arith, limits.edges))

  pub pieces_read : long_at bytes 28 ≡ total h.network.profiles
  unfolding header
  pieces_read = let limits = in_limits f.version h f.sound in long_in_header 28 (total h.network.profiles) (omega arith) refl (omega (arith, limits.pieces))

  pub entries_read : long_at bytes 36 ≡ total h.lists
  unfolding header
  entries_read = let limits = in_limits f.version h f.sound in long_in_header 36 (total h.lists) (omega arith) refl (omega (arith, limits.entries))

  pub length_read : long_at bytes 44 ≡ file_length (counts_of f.version h)
  unfolding header
  length_read = let limits = in_limits f.version h f.sound in long_in_header 44 (file_length (counts_of f.version h)) (omega arith) refl
      (omega (arith, limits.nodes, limits.arcs, limits.profiles, limits.edges, limits.pieces, limits.entries, bounds_length-most (counts_of f.version h)))

  -- the node at a rank, and the rank of a node
  pub node_read : (rank node : ℕ) → slice_get h.order.node_at rank ≡ Some node → short_at bytes (52 + 4 * rank) ≡ node
  node_read rank node there =
      let limits = in_limits f.version h f.sound in
      let within = slice_get_within h.order.rank_of node rank (f.sound.order.ranked rank node there) in
      short_read bytes (52 + 4 * rank) node (stands_ith short 4 (λ n. refl) bytes 52 h.order.node_at rank node (nodes_stand bytes h f) there)
      (omega (arith, within, f.sound.order.same, f.sound.order.few))

  pub rank_read : (node rank : ℕ) → slice_get h.order.rank_of node ≡ Some rank → short_at bytes (rank_of_at (counts_of f.version h) + 4 * node) ≡ rank
  rank_read node rank there =
      let within = slice_get_within h.order.node_at rank node (f.sound.order.placed node rank there) in
      short_read bytes (rank_of_at (counts_of f.version h) + 4 * node) rank
      (stands_ith short 4 (λ n. refl) bytes (rank_of_at (counts_of f.version h)) h.order.rank_of node rank (ranks_stand bytes h f) there)
      (omega (arith, within, f.sound.order.few))

  -- a road
  pub arc_read : (number : ℕ) (arc : RoadArc) → slice_get h.network.arcs number ≡ Some arc → ReadsRow bytes (arcs_at (counts_of f.version h) + 12 * number) arc.tail arc.head arc.profile
  unfolding arc_bytes
  arc_read number arc there =
      let range = all_at (IsArcInRange h.network) h.network.arcs number arc f.sound.network.in_range there in
      let nodes = f.sound.network.few_nodes in
      let profiles = f.sound.network.few_profiles in
      row_read bytes (arcs_at (counts_of f.version h) + 12 * number) arc.tail arc.head arc.profile
      (stands_ith arc_bytes 12 arc_long bytes (arcs_at (counts_of f.version h)) h.network.arcs number arc (arcs_stand bytes h f) there)
      (omega (arith, range.0, nodes)) (omega (arith, range.1, nodes)) (omega (arith, range.2, profiles))

  -- how many pieces are before a profile
  pub profile_start_read : (profile : ℕ) → profile ≤ length h.network.profiles → long_at bytes (profile_starts_at (counts_of f.version h) + 8 * profile) ≡ total (take profile h.network.profiles)
  profile_start_read profile inside =
      let before = total (take profile h.network.profiles) in
      let within = sum_by-take-le length h.network.profiles profile in
      let limit = pieces_in_limit h.network f.sound.network in
      long_read bytes (profile_starts_at (counts_of f.version h) + 8 * profile) before
      (stands_ith long 8 (λ n. refl) bytes (profile_starts_at (counts_of f.version h)) (starts_from 0 h.network.profiles) profile before (profile_starts_stand bytes h f)
      (start_there 0 h.network.profiles profile inside ∙ ap Some (omega arith)))
      (omega (arith, within, limit))

  -- a piece of a profile
  pub piece_read : (profile index : ℕ) (pieces : List Piece) (piece : Piece) → slice_get h.network.profiles profile ≡ Some pieces → slice_get pieces index ≡ Some piece
      → ReadsRule bytes (pieces_at (counts_of f.version h) + 12 * (total (take profile h.network.profiles) + index)) piece.from piece.rule
  unfolding piece_bytes
  piece_read profile index pieces piece list there =
      let valid = all_at IsProfile h.network.profiles profile pieces f.sound.network.valid list in
      let limit = all_at (λ (p : Piece). is_in_limit p ≡ true) pieces index piece valid.limits there in
      let begins = piece_begins piece limit in
      rule_read bytes (pieces_at (counts_of f.version h) + 12 * (total (take profile h.network.profiles) + index)) piece.from piece.rule
      (stands_jth piece_bytes 12 piece_long bytes (pieces_at (counts_of f.version h)) h.network.profiles profile index pieces piece (pieces_stand bytes h f) list there)
      (omega (arith, begins)) (and_parts (nat_lt piece.from day) (is_rule_in_limit piece.rule) limit).1

  -- how many edges are before a rank
  pub edge_start_read : (rank : ℕ) → rank ≤ h.network.nodes → short_at bytes (edge_starts_at (counts_of f.version h) + 4 * rank) ≡ first_edge_of h.edges rank
  edge_start_read rank inside =
      let within = first_edge_within h.edges rank in
      let limit = f.sound.graph.few_edges in
      short_read bytes (edge_starts_at (counts_of f.version h) + 4 * rank) (first_edge_of h.edges rank)
      (stands_ith short 4 (λ n. refl) bytes (edge_starts_at (counts_of f.version h)) (edge_starts h) rank (first_edge_of h.edges rank) (edge_starts_stand bytes h f)
      (counted_there (first_edge_of h.edges) (suc h.network.nodes) rank (omega (arith, inside))))
      (omega (arith, within, limit))

  -- the higher rank of an edge
  pub upper_read : (edge : ℕ) (ends : Ends) → slice_get h.edges edge ≡ Some ends → short_at bytes (uppers_at (counts_of f.version h) + 4 * edge) ≡ ends.high
  upper_read edge ends there =
      let high = λ (e : Ends). e.high in
      let range = all_at (λ (e : Ends). (e.low < e.high) × (e.high < h.network.nodes)) h.edges edge ends f.sound.graph.in_range there in
      let limit = f.sound.network.few_nodes in
      short_read bytes (uppers_at (counts_of f.version h) + 4 * edge) ends.high
      (stands_ith short 4 (λ n. refl) bytes (uppers_at (counts_of f.version h)) (map high h.edges) edge ends.high (uppers_stand bytes h f)
      (slice_get-map high h.edges edge ∙ ap (option_map high) there))
      (omega (arith, range.1, limit))

  -- how many entries are before a way list
  pub way_start_read : (number : ℕ) → number ≤ length h.lists → long_at bytes (way_starts_at (counts_of f.version h) + 8 * number) ≡ total (take number h.lists)
  way_start_read number inside =
      let before = total (take number h.lists) in
      let within = sum_by-take-le length h.lists number in
      let limit = entries_in_limit h f.sound in
      long_read bytes (way_starts_at (counts_of f.version h) + 8 * number) before
      (stands_ith long 8 (λ n. refl) bytes (way_starts_at (counts_of f.version h)) (starts_from 0 h.lists) number before (way_starts_stand bytes h f)
      (start_there 0 h.lists number inside ∙ ap Some (omega arith)))
      (omega (arith, within, limit))

  -- an entry's way is a road or a rank that is there
  way_read : (bytes : List ℕ) (at from u v : ℕ) (way : Way) → u < h.network.nodes → StandsAt bytes at (way_bytes from way) → from < 2 ^ 32 → IsWellFormed h u v way → ReadsWay bytes at from way
  way_read bytes at from u v (Road arc) end row fits formed =
      let within = slice_get_within h.network.arcs arc formed.2.0.0 formed.2.0.1 in
      row_read bytes at from 0 arc row fits (omega arith) (omega (arith, within, f.sound.network.few_arcs))
  way_read bytes at from u v (Via rank) end row fits formed = row_read bytes at from 1 rank row fits (omega arith) (omega (arith, formed.0, end, f.sound.network.few_nodes))

  -- an entry of the list of an edge in a direction
  pub entry_read : (edge : ℕ) (dir : Dir) (index : ℕ) (ends : Ends) (entry : Entry) → slice_get h.edges edge ≡ Some ends → slice_get (list_of h edge dir) index ≡ Some entry
      → ReadsWay bytes (entries_at (counts_of f.version h) + 12 * (total (take (list_number edge dir) h.lists) + index)) entry.from entry.way
  unfolding entry_bytes
  entry_read edge dir index ends entry edge_there there =
      let at = entries_at (counts_of f.version h) + 12 * (total (take (list_number edge dir) h.lists) + index) in
      let list = list_there h edge dir f.sound (slice_get_within h.edges edge ends edge_there) in
      let valid = all_at IsWayList h.lists (list_number edge dir) (list_of h edge dir) f.sound.spelled list in
      let begins = all_at (λ (e : Entry). e.from < day) (list_of h edge dir) index entry valid.within there in
      let formed = all_at (λ (e : Entry). IsWellFormed h (start_of ends dir) (end_of ends dir) e.way) (list_of h edge dir) index entry (f.sound.formed edge dir ends edge_there) there in
      let range = all_at (λ (e : Ends). (e.low < e.high) × (e.high < h.network.nodes)) h.edges edge ends f.sound.graph.in_range edge_there in
      way_read bytes at entry.from (start_of ends dir) (end_of ends dir) entry.way (start_below ends dir h.network.nodes range.0 range.1)
      (stands_jth entry_bytes 12 entry_long bytes (entries_at (counts_of f.version h)) h.lists (list_number edge dir) index (list_of h edge dir) entry
      (entries_stand bytes h f) list there) (omega (arith, begins)) formed

  -- the same, by the list's number
  pub listed_read : (number index : ℕ) (list : List Entry) (entry : Entry) → slice_get h.lists number ≡ Some list → slice_get list index ≡ Some entry
      → ReadsWay bytes (entries_at (counts_of f.version h) + 12 * (total (take number h.lists) + index)) entry.from entry.way
  listed_read number index list entry listed there =
      let within = slice_get_within h.lists number list listed in
      let parts = list_parts number (length h.edges) (omega (arith, within, f.sound.lists)) in
      let edge = parts.0 in
      let dir = parts.1 in
      let inside = parts.2 in
      let same_number = sym parts.3 in
      let found : slice_get h.lists number ≡ Some (list_of h edge dir) = subst (λ (n : ℕ). slice_get h.lists n ≡ Some (list_of h edge dir)) same_number (list_there h edge dir f.sound inside) in
      let same : list ≡ list_of h edge dir = cc in
      let read = entry_read edge dir index (get_or h.edges edge nowhere) entry (slice_get-get_or h.edges edge nowhere inside)
      (subst (λ (es : List Entry). slice_get es index ≡ Some entry) same there) in
      subst (λ (n : ℕ). ReadsWay bytes (entries_at (counts_of f.version h) + 12 * (total (take n h.lists) + index)) entry.from entry.way) same_number read
