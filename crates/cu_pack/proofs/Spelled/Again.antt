-- The packed file of a hierarchy says that hierarchy.
use Rattle.std.proofs.Common.{◌≡◌, ◌≤◌, ◌+◌, ◌*◌, ◌∙◌, ℕ, suc, List, Some, get_or, length, take, map, refl, sym, ap, subst, arith, inr}
use Rattle.std.specs.Prelude.{slice_get}
use Rattle.std.specs.List.{range_with_len}
use Rattle.std.specs.Option.{option_map}
use Rattle.std.proofs.lemmas.List.{length-map}
use Rattle.std.proofs.lemmas.List.FromFn.{length-map-range_with_len}
use Rattle.std.proofs.lemmas.Option.{same_Some, slice_get-get_or, slice_get-map, slice_get_within}
use Rattle.cu_model.specs.declared.profiles.Piece.{Piece}
use Rattle.cu_model.specs.declared.profiles.Rule.{Rule}
use Rattle.cu_model.specs.declared.profiles.Rule.TheVariants.{Travel, Until, Closed}
use Rattle.cu_model.specs.declared.roads.RoadArc.{RoadArc}
use Rattle.cu_model.specs.Networks.{NetworkValue}
use Rattle.cu_model.specs.Orders.{OrderValue}
use Rattle.cu_chordal.specs.declared.graph.Ends.{Ends}
use Rattle.cu_chordal.specs.Graphs.{first_edge_of}
use Rattle.cu_chordal.specs.Lists.{edges_of_lists}
use Rattle.cu_interval.specs.declared.ways.Entry.{Entry}
use Rattle.cu_interval.specs.declared.ways.Way.{Way}
use Rattle.cu_interval.specs.declared.ways.Way.TheVariants.{Road, Via}
use Rattle.cu_interval.specs.Hierarchies.{HierarchyValue, IsHierarchy}
use Rattle.cu_pack.specs.declared.layout.Counts.{Counts}
use Rattle.cu_pack.specs.Layouts.{arcs_at, edge_starts_at, entries_at, pieces_at, profile_starts_at, rank_of_at, uppers_at, way_starts_at}
use Rattle.cu_pack.specs.Places.{ReadsRow, ReadsRule, ReadsWay, long_at, short_at}
use Rattle.cu_pack.specs.Reading.{arc_from, arc_in, counts_in, decoded, edge_starts_in, entry_from, entry_place, list_in, network_in, order_in, piece_from, piece_place, profile_in}
use Rattle.cu_pack.specs.Reading.{profile_start, rule_of, uppers_in, way_of, way_start, shorts_in}
use Rattle.cu_pack.specs.Spelling.{IsVersion, counts_of, edge_starts, spelling, spelling_in, total}
use Rattle.cu_pack.specs.Checks.{Spells, SpellsIn}
use Rattle.cu_pack.specs.Steps.Fronts.{SpellsSections}
use Rattle.cu_pack.proofs.Spelled.Parts.{sections_spelled, sections_version}
use Rattle.cu_pack.proofs.Read.EdgeLists.{edges_again, highs}
use Rattle.cu_pack.proofs.Numbering.Items.{counted_there, list_made, made_again}
use Rattle.cu_pack.proofs.Read.ReadBack.{arc_read, arcs_read, edge_start_read, edges_read, entries_read, listed_read, node_read, nodes_read, nowhere, piece_read, pieces_read}
use Rattle.cu_pack.proofs.Read.ReadBack.{profile_start_read, profiles_read, rank_read, upper_read, version_read, way_start_read}
use Rattle.cu_pack.proofs.Numbering.Totals.{same_counts}

-- a row says its road, its piece or its entry
module _ (bytes : List ℕ) (at : ℕ) where
  arc_said : (arc : RoadArc) → ReadsRow bytes at arc.tail arc.head arc.profile → arc_from bytes at ≡ arc
  arc_said arc row =
      let of : ℕ → ℕ → ℕ → RoadArc = λ t h p. record { tail = t; head = h; profile = p } in
      ap (λ (n : ℕ). of n (short_at bytes (at + 4)) (short_at bytes (at + 8))) row.0 ∙ ap (λ (n : ℕ). of arc.tail n (short_at bytes (at + 8))) row.1 ∙ ap (of arc.tail arc.head) row.2

  piece_row : (from kind value : ℕ) → ReadsRow bytes at from kind value → piece_from bytes at ≡ record { from = from; rule = rule_of kind value }
  piece_row from kind value row =
      let of : ℕ → ℕ → ℕ → Piece = λ f k v. record { from = f; rule = rule_of k v } in
      ap (λ (n : ℕ). of n (short_at bytes (at + 4)) (short_at bytes (at + 8))) row.0 ∙ ap (λ (n : ℕ). of from n (short_at bytes (at + 8))) row.1 ∙ ap (of from kind) row.2

  piece_said : (from : ℕ) (rule : Rule) → ReadsRule bytes at from rule → piece_from bytes at ≡ record { from = from; rule = rule }
  piece_said from (Travel seconds) row = piece_row from 0 seconds row
  piece_said from (Until arrival) row = piece_row from 1 arrival row
  piece_said from (Closed value) row = piece_row from 2 value row

  entry_row : (from kind number : ℕ) → ReadsRow bytes at from kind number → entry_from bytes at ≡ record { from = from; way = way_of kind number }
  entry_row from kind number row =
      let of : ℕ → ℕ → ℕ → Entry = λ f k n. record { from = f; way = way_of k n } in
      ap (λ (n : ℕ). of n (short_at bytes (at + 4)) (short_at bytes (at + 8))) row.0 ∙ ap (λ (n : ℕ). of from n (short_at bytes (at + 8))) row.1 ∙ ap (of from kind) row.2

  entry_said : (from : ℕ) (way : Way) → ReadsWay bytes at from way → entry_from bytes at ≡ record { from = from; way = way }
  entry_said from (Road arc) row = entry_row from 0 arc row
  entry_said from (Via rank) row = entry_row from 1 rank row

module _ (bytes : List ℕ) (h : HierarchyValue) (f : SpellsSections bytes h) where
  -- the counts, and so the places
  pub counts_again : counts_in bytes ≡ counts_of f.version h
  unfolding counts_in
  counts_again =
      same_counts (counts_in bytes) (counts_of f.version h) (version_read bytes h f) (nodes_read bytes h f) (arcs_read bytes h f) (profiles_read bytes h f) (edges_read bytes h f)
      (pieces_read bytes h f) (entries_read bytes h f)

  -- what is so where these counts say it is so where the file's do
  pub placed : (P : Counts → Type 0) → P (counts_of f.version h) → P (counts_in bytes)
  placed P held = subst P (sym counts_again) held

  -- each start, each piece and each entry, where the file says that they stand
  pub profile_start_said : (profile : ℕ) → profile ≤ length h.network.profiles → profile_start bytes profile ≡ total (take profile h.network.profiles)
  profile_start_said profile inside =
      placed (λ (c : Counts). long_at bytes (profile_starts_at c + 8 * profile) ≡ total (take profile h.network.profiles)) (profile_start_read bytes h f profile inside)

  pub piece_there : (profile index : ℕ) (pieces : List Piece) (piece : Piece) → slice_get h.network.profiles profile ≡ Some pieces → slice_get pieces index ≡ Some piece
      → ReadsRule bytes (piece_place bytes (total (take profile h.network.profiles) + index)) piece.from piece.rule
  piece_there profile index pieces piece list there =
      placed (λ (c : Counts). ReadsRule bytes (pieces_at c + 12 * (total (take profile h.network.profiles) + index)) piece.from piece.rule)
      (piece_read bytes h f profile index pieces piece list there)

  pub way_start_said : (number : ℕ) → number ≤ length h.lists → way_start bytes number ≡ total (take number h.lists)
  way_start_said number inside =
      placed (λ (c : Counts). long_at bytes (way_starts_at c + 8 * number) ≡ total (take number h.lists)) (way_start_read bytes h f number inside)

  pub entry_there : (number index : ℕ) (list : List Entry) (entry : Entry) → slice_get h.lists number ≡ Some list → slice_get list index ≡ Some entry
      → ReadsWay bytes (entry_place bytes (total (take number h.lists) + index)) entry.from entry.way
  entry_there number index list entry listed there =
      placed (λ (c : Counts). ReadsWay bytes (entries_at c + 12 * (total (take number h.lists) + index)) entry.from entry.way) (listed_read bytes h f number index list entry listed there)

  -- a profile and a way list
  piece_again : (profile index : ℕ) (pieces : List Piece) (piece : Piece) → slice_get h.network.profiles profile ≡ Some pieces → slice_get pieces index ≡ Some piece
      → piece_from bytes (piece_place bytes (total (take profile h.network.profiles) + index)) ≡ piece
  piece_again profile index pieces piece list there =
      piece_said bytes (piece_place bytes (total (take profile h.network.profiles) + index)) piece.from piece.rule (piece_there profile index pieces piece list there)

  entry_again : (number index : ℕ) (list : List Entry) (entry : Entry) → slice_get h.lists number ≡ Some list → slice_get list index ≡ Some entry
      → entry_from bytes (entry_place bytes (total (take number h.lists) + index)) ≡ entry
  entry_again number index list entry listed there =
      entry_said bytes (entry_place bytes (total (take number h.lists) + index)) entry.from entry.way (entry_there number index list entry listed there)

  pub profile_again : (profile : ℕ) (pieces : List Piece) → slice_get h.network.profiles profile ≡ Some pieces → profile_in bytes profile ≡ pieces
  profile_again profile pieces list =
      list_made (profile_start bytes) h.network.profiles profile_start_said profile pieces list (λ piece. piece_from bytes (piece_place bytes piece))
      (λ index piece there. piece_again profile index pieces piece list there)

  pub list_again : (number : ℕ) (list : List Entry) → slice_get h.lists number ≡ Some list → list_in bytes number ≡ list
  list_again number list listed =
      list_made (way_start bytes) h.lists way_start_said number list listed (λ entry. entry_from bytes (entry_place bytes entry))
      (λ index entry there. entry_again number index list entry listed there)

  -- the network, the order, the edges and the lists
  pub arc_again : (number : ℕ) (arc : RoadArc) → slice_get h.network.arcs number ≡ Some arc → arc_in bytes number ≡ arc
  arc_again number arc there =
      placed (λ (c : Counts). arc_from bytes (arcs_at c + 12 * number) ≡ arc) (arc_said bytes (arcs_at (counts_of f.version h) + 12 * number) arc (arc_read bytes h f number arc there))

  many_arcs : length h.network.arcs ≡ (counts_in bytes).arcs
  many_arcs = sym (ap (λ (c : Counts). c.arcs) counts_again)

  many_profiles : length h.network.profiles ≡ (counts_in bytes).profiles
  many_profiles = sym (ap (λ (c : Counts). c.profiles) counts_again)

  many_lists : length h.lists ≡ 2 * (counts_in bytes).edges
  many_lists = f.sound.lists ∙ sym (ap (λ (c : Counts). 2 * c.edges) counts_again)

  pub network_again : network_in bytes ≡ h.network
  unfolding network_in
  network_again =
      let of : ℕ → List RoadArc → List (List Piece) → NetworkValue = λ n arcs profiles. record { nodes = n; arcs = arcs; profiles = profiles } in
      let nodes = ap (λ (c : Counts). c.nodes) counts_again in
      let arcs = made_again (arc_in bytes) (counts_in bytes).arcs h.network.arcs many_arcs arc_again in
      let profiles = made_again (profile_in bytes) (counts_in bytes).profiles h.network.profiles many_profiles profile_again in
      ap (λ (n : ℕ). of n (map (arc_in bytes) (range_with_len 0 (counts_in bytes).arcs)) (map (profile_in bytes) (range_with_len 0 (counts_in bytes).profiles))) nodes
      ∙ ap (λ (xs : List RoadArc). of h.network.nodes xs (map (profile_in bytes) (range_with_len 0 (counts_in bytes).profiles))) arcs ∙ ap (of h.network.nodes h.network.arcs) profiles

  pub order_again : order_in bytes ≡ h.order
  unfolding order_in
  order_again =
      let of : List ℕ → List ℕ → OrderValue = λ ats ranks. record { node_at = ats; rank_of = ranks } in
      let nodes = placed (λ (c : Counts). shorts_in bytes 52 c.nodes ≡ h.order.node_at)
      (made_again (λ rank. short_at bytes (52 + 4 * rank)) h.network.nodes h.order.node_at f.sound.same (node_read bytes h f)) in
      let ranks = placed (λ (c : Counts). shorts_in bytes (rank_of_at c) c.nodes ≡ h.order.rank_of)
      (made_again (λ node. short_at bytes (rank_of_at (counts_of f.version h) + 4 * node)) h.network.nodes h.order.rank_of (f.sound.order.same ∙ f.sound.same) (rank_read bytes h f)) in
      ap (λ (xs : List ℕ). of xs (shorts_in bytes (rank_of_at (counts_in bytes)) (counts_in bytes).nodes)) nodes ∙ ap (of h.order.node_at) ranks

  pub starts_again : edge_starts_in bytes ≡ edge_starts h
  starts_again =
      let ranks = suc h.network.nodes in
      let long = length-map-range_with_len (first_edge_of h.edges) 0 ranks in
      placed (λ (c : Counts). shorts_in bytes (edge_starts_at c) (suc c.nodes) ≡ edge_starts h)
      (made_again (λ rank. short_at bytes (edge_starts_at (counts_of f.version h) + 4 * rank)) ranks (edge_starts h) long
      (λ rank first there.
      let inside = slice_get_within (edge_starts h) rank first there in
      let counted = counted_there (first_edge_of h.edges) ranks rank (omega (arith, inside, long)) in
      edge_start_read bytes h f rank (omega (arith, inside, long)) ∙ same_Some (first_edge_of h.edges rank) first (sym counted ∙ there)))

  pub uppers_again : uppers_in bytes ≡ highs h.edges
  uppers_again =
      let high : Ends → ℕ = λ ends. ends.high in
      let long = length-map h.edges high in
      placed (λ (c : Counts). shorts_in bytes (uppers_at c) c.edges ≡ highs h.edges)
      (made_again (λ edge. short_at bytes (uppers_at (counts_of f.version h) + 4 * edge)) (length h.edges) (highs h.edges) long
      (λ edge upper there.
      let inside = slice_get_within (highs h.edges) edge upper there in
      let ends = get_or h.edges edge nowhere in
      let found = slice_get-get_or h.edges edge nowhere (omega (arith, inside, long)) in
      let same : Some ends.high ≡ Some upper = sym (ap (option_map high) found) ∙ sym (slice_get-map high h.edges edge) ∙ there in
      upper_read bytes h f edge ends found ∙ same_Some ends.high upper same))

  edges_said : edges_of_lists (edge_starts_in bytes) (uppers_in bytes) ≡ h.edges
  edges_said = ap (λ (xs : List ℕ). edges_of_lists xs (uppers_in bytes)) starts_again ∙ ap (edges_of_lists (edge_starts h)) uppers_again ∙ edges_again h f.sound

  -- the hierarchy
  pub decoded_again : decoded bytes ≡ h
  unfolding decoded
  decoded_again =
      let of : NetworkValue → OrderValue → List Ends → List (List Entry) → HierarchyValue = λ n o es ls. record { network = n; order = o; edges = es; lists = ls } in
      let edges = edges_of_lists (edge_starts_in bytes) (uppers_in bytes) in
      let lists = map (list_in bytes) (range_with_len 0 (2 * (counts_in bytes).edges)) in
      ap (λ (n : NetworkValue). of n (order_in bytes) edges lists) network_again ∙ ap (λ (o : OrderValue). of h.network o edges lists) order_again
      ∙ ap (λ (es : List Ends). of h.network h.order es lists) edges_said
      ∙ ap (of h.network h.order h.edges) (made_again (list_in bytes) (2 * (counts_in bytes).edges) h.lists many_lists list_again)

-- and so bytes say one hierarchy alone, and hierarchies with the same file are the same
pub told_once : (bytes : List ℕ) (h other : HierarchyValue) → SpellsSections bytes h → SpellsSections bytes other → h ≡ other
told_once bytes h other one two = sym (decoded_again bytes h one) ∙ decoded_again bytes other two

pub one_hierarchy : (version : ℕ) (h other : HierarchyValue) → IsVersion version → IsHierarchy h → IsHierarchy other → spelling_in version h ≡ spelling_in version other → h ≡ other
one_hierarchy version h other known f g same =
    told_once (spelling_in version other) h other (subst (λ (bs : List ℕ). SpellsSections bs h) same (sections_spelled version h f known)) (sections_spelled version other g known)

-- the file of each version says this version, and the hierarchy
pub version_said : (version : ℕ) (h : HierarchyValue) → IsVersion version → IsHierarchy h → short_at (spelling_in version h) 8 ≡ version
version_said version h known f = version_read (spelling_in version h) h (sections_spelled version h f known) ∙ sections_version version h f known

pub version_again : (version : ℕ) (h : HierarchyValue) → IsVersion version → IsHierarchy h → decoded (spelling_in version h) ≡ h
version_again version h known f = decoded_again (spelling_in version h) h (sections_spelled version h f known)

pub read_again : (h : HierarchyValue) → IsHierarchy h → decoded (spelling h) ≡ h
read_again h f = version_again 2 h (inr refl) f

-- a file of either version has the header, the sections, the length and the digest of its hierarchy's
pub spelled_in_sections : (version : ℕ) (bytes : List ℕ) (h : HierarchyValue) → IsVersion version → SpellsIn version bytes h → SpellsSections bytes h
spelled_in_sections version bytes h known f = subst (λ (bs : List ℕ). SpellsSections bs h) (sym f.spelled) (sections_spelled version h f.sound known)

pub spelled_sections : (bytes : List ℕ) (h : HierarchyValue) → Spells bytes h → SpellsSections bytes h
spelled_sections bytes h f = spelled_in_sections 2 bytes h (inr refl) f

-- the same bytes spell the same hierarchy
pub same_hierarchy : (bytes : List ℕ) (h other : HierarchyValue) → Spells bytes h → Spells bytes other → h ≡ other
same_hierarchy bytes h other one two = told_once bytes h other (spelled_sections bytes h one) (spelled_sections bytes other two)
