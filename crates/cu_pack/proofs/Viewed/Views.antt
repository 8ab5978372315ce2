-- What the sections say of bytes that are the packed file of a hierarchy.
use Rattle.std.proofs.Common.{◌≡◌, ◌≤◌, ◌<◌, ◌+◌, ◌*◌, ◌∙◌, ℕ, List, [], Some, get_or, length, take, sym, ap, subst, arith, inr, refl}
use Rattle.std.specs.Prelude.{slice_get}
use Rattle.std.proofs.lemmas.Option.{slice_get-get_or}
use Rattle.cu_model.proofs.RoadLaws.{all_at}
use Rattle.cu_chordal.specs.declared.graph.Ends.{Ends}
use Rattle.cu_chordal.specs.Graphs.{first_edge_of}
use Rattle.cu_interval.specs.declared.ways.Dir.{Dir}
use Rattle.cu_interval.specs.Hierarchies.{HierarchyValue, entries_or_none, list_number, list_of}
use Rattle.cu_interval.specs.LeastBounds.{least_bound}
use Rattle.cu_interval.specs.WayLists.{IsWayList}
use Rattle.cu_interval.proofs.EndsLaws.{number_within}
use Rattle.cu_pack.specs.declared.layout.Counts.{Counts}
use Rattle.cu_pack.specs.Checks.{IsGraph, IsIn, Spells}
use Rattle.cu_pack.specs.Layouts.{AreInLimits, edge_starts_at, file_length, rank_of_at, uppers_at}
use Rattle.cu_pack.specs.Places.{short_at}
use Rattle.cu_pack.specs.Reading.{bound_in, counts_in, decoded, edge_start, edge_starts_in, list_in, network_in, node_at_in, order_in, rank_of_in, upper_in, uppers_in, way_start}
use Rattle.cu_pack.specs.Spelling.{counts_of, edge_starts, total}
use Rattle.cu_pack.specs.Steps.Fronts.{SpellsSections}
use Rattle.cu_pack.specs.Steps.Parts.{HasList}
use Rattle.cu_pack.proofs.Spelled.Accepted.{bound_again, graph_right}
use Rattle.cu_pack.proofs.Spelled.Again.{counts_again, decoded_again, list_again, network_again, order_again, placed, read_again, starts_again, uppers_again, version_said, way_start_said}
use Rattle.cu_pack.proofs.Read.EdgeLists.{highs}
use Rattle.cu_pack.proofs.Numbering.Items.{lead_on, lead_within}
use Rattle.cu_pack.proofs.Read.ReadBack.{edge_start_read, node_read, rank_read, upper_read}
use Rattle.cu_pack.proofs.Numbering.Totals.{in_limits}

-- bytes that a hierarchy is packed as say it, and so do those that its sections are in
pub said_again : (bytes : List ℕ) (h : HierarchyValue) → Spells bytes h → Spells bytes (decoded bytes)
said_again bytes h f =
    let same : h ≡ decoded bytes = sym (ap decoded f.spelled ∙ read_again h f.sound) in
    subst (Spells bytes) same f

pub sections_again : (bytes : List ℕ) (h : HierarchyValue) → SpellsSections bytes h → SpellsSections bytes (decoded bytes)
sections_again bytes h f = subst (SpellsSections bytes) (sym (decoded_again bytes h f)) f

-- and keep its bounds, in their version
pub kind_known : (bytes : List ℕ) (h : HierarchyValue) → Spells bytes h → IsIn 2 bytes
kind_known bytes h f = ap (λ (bs : List ℕ). short_at bs 8) f.spelled ∙ version_said 2 h (inr refl) f.sound

pub bound_known : (bytes : List ℕ) (h : HierarchyValue) → Spells bytes h → (edge : ℕ) (dir : Dir) → edge < length h.edges → bound_in bytes (list_number edge dir) ≡ least_bound h edge dir
bound_known bytes h f edge dir inside = ap (λ (bs : List ℕ). bound_in bs (list_number edge dir)) f.spelled ∙ bound_again h f.sound edge dir inside

module _ (bytes : List ℕ) (h : HierarchyValue) (f : SpellsSections bytes h) where
  pub counts_known : counts_in bytes ≡ counts_of f.version h
  counts_known = counts_again bytes h f

  -- the counts are within their limits, and the file is as long as they ask
  pub limits_known : AreInLimits (counts_in bytes)
  limits_known = subst AreInLimits (sym counts_known) (in_limits f.version h f.sound)

  pub size_known : file_length (counts_in bytes) ≡ length bytes
  size_known = ap file_length counts_known ∙ sym f.long

  -- how many there are of each
  pub nodes_known : (counts_in bytes).nodes ≡ h.network.nodes
  nodes_known = ap (λ (c : Counts). c.nodes) counts_known

  pub arcs_known : (counts_in bytes).arcs ≡ length h.network.arcs
  arcs_known = ap (λ (c : Counts). c.arcs) counts_known

  pub profiles_known : (counts_in bytes).profiles ≡ length h.network.profiles
  profiles_known = ap (λ (c : Counts). c.profiles) counts_known

  pub edges_known : (counts_in bytes).edges ≡ length h.edges
  edges_known = ap (λ (c : Counts). c.edges) counts_known

  -- no check refuses them, and they say its network
  pub graph_known : IsGraph bytes
  graph_known = graph_right bytes h f

  pub network_known : network_in bytes ≡ h.network
  network_known = network_again bytes h f

  -- its order and the columns of its edges
  pub order_known : order_in bytes ≡ h.order
  order_known = order_again bytes h f

  pub starts_known : edge_starts_in bytes ≡ edge_starts h
  starts_known = starts_again bytes h f

  pub uppers_known : uppers_in bytes ≡ highs h.edges
  uppers_known = uppers_again bytes h f

  -- the node at a rank, and the rank of a node
  pub node_known : (rank : ℕ) → rank < h.network.nodes → slice_get h.order.node_at rank ≡ Some (node_at_in bytes rank)
  node_known rank inside =
      let node = get_or h.order.node_at rank 0 in
      let there = slice_get-get_or h.order.node_at rank 0 (omega (arith, inside, f.sound.same)) in
      there ∙ ap Some (sym (node_read bytes h f rank node there))

  pub rank_known : (node : ℕ) → node < h.network.nodes → slice_get h.order.rank_of node ≡ Some (rank_of_in bytes node)
  rank_known node inside =
      let rank = get_or h.order.rank_of node 0 in
      let there = slice_get-get_or h.order.rank_of node 0 (omega (arith, inside, f.sound.same, f.sound.order.same)) in
      let read = placed bytes h f (λ (c : Counts). short_at bytes (rank_of_at c + 4 * node) ≡ rank) (rank_read bytes h f node rank there) in
      there ∙ ap Some (sym read)

  -- how many edges are before each rank, and the higher rank of each
  pub edge_start_known : (rank : ℕ) → rank ≤ h.network.nodes → edge_start bytes rank ≡ first_edge_of h.edges rank
  edge_start_known rank inside =
      placed bytes h f (λ (c : Counts). short_at bytes (edge_starts_at c + 4 * rank) ≡ first_edge_of h.edges rank) (edge_start_read bytes h f rank inside)

  pub upper_known : (edge : ℕ) (ends : Ends) → slice_get h.edges edge ≡ Some ends → upper_in bytes edge ≡ ends.high
  upper_known edge ends there =
      placed bytes h f (λ (c : Counts). short_at bytes (uppers_at c + 4 * edge) ≡ ends.high) (upper_read bytes h f edge ends there)

  -- a way list
  pub list_known : (number : ℕ) → number < length h.lists → slice_get h.lists number ≡ Some (list_in bytes number)
  list_known number inside =
      let list = get_or h.lists number [] in
      let there = slice_get-get_or h.lists number [] inside in
      there ∙ ap Some (sym (list_again bytes h f number list there))

  pub has_list : (number : ℕ) → number < length h.lists → HasList bytes number
  has_list number inside =
      let there = list_known number inside in
      let starts : (i : ℕ) → i ≤ length h.lists → way_start bytes i ≡ total (take i h.lists) = way_start_said bytes h f in
      let on = lead_on (way_start bytes) h.lists starts number (list_in bytes number) there in
      let within = lead_within (way_start bytes) h.lists starts number (list_in bytes number) there in
      let entries = ap (λ (c : Counts). c.entries) counts_known in
      record {
        inside = omega (arith, inside, edges_known, f.sound.lists);
        order = omega (arith, on);
        within = omega (arith, within, entries);
        spelled = all_at IsWayList h.lists number (list_in bytes number) f.sound.spelled there;
      }

  -- the list of an edge in a direction
  pub has_ways : (edge : ℕ) (dir : Dir) → edge < length h.edges → HasList bytes (list_number edge dir)
  has_ways edge dir inside = let within = number_within edge (length h.edges) dir inside in has_list (list_number edge dir) (omega (arith, within, f.sound.lists))

  pub ways_known : (edge : ℕ) (dir : Dir) → edge < length h.edges → list_in bytes (list_number edge dir) ≡ list_of h edge dir
  ways_known edge dir inside =
      let within = number_within edge (length h.edges) dir inside in
      sym (ap entries_or_none (list_known (list_number edge dir) (omega (arith, within, f.sound.lists))))
