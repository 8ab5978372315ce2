-- Parts of bytes that are the packed file of a hierarchy.
use Rattle.std.proofs.Common.{◌≡◌, ◌≤◌, ◌+◌, ◌*◌, ◌∙◌, ℕ, suc, List, length, take, map, flat_map, refl, sym, ap, arith, length-append}
use Rattle.std.specs.Prelude.{slice_range}
use Rattle.cu_chordal.specs.declared.graph.Ends.{Ends}
use Rattle.cu_interval.specs.Hierarchies.{HierarchyValue}
use Rattle.cu_pack.specs.declared.layout.Counts.{Counts}
use Rattle.cu_pack.specs.Layouts.{arcs_at, bounds_at, edge_starts_at, entries_at, pieces_at, profile_starts_at, rank_of_at, uppers_at, way_starts_at}
use Rattle.cu_pack.specs.Reading.{counts_in, profile_start, way_start}
use Rattle.cu_pack.specs.Spelling.{arc_bytes, counts_of, edge_starts, edges_section, entry_bytes, header, long, order_section, piece_bytes, profiles_section, short, starts_from, total}
use Rattle.cu_pack.specs.Steps.Fronts.{SpellsSections, front, parts}
use Rattle.cu_pack.proofs.Spelled.Again.{placed, profile_start_said, way_start_said}
use Rattle.cu_pack.proofs.Spelled.Parts.{arc_long, arcs_stand, edge_starts_long, edge_starts_stand, entries_stand, entry_long, nodes_long, nodes_stand, piece_long, pieces_long}
use Rattle.cu_pack.proofs.Spelled.Parts.{front_long, header_long, pieces_stand, profile_starts_long, profile_starts_stand}
use Rattle.cu_pack.proofs.Spelled.Parts.{ranks_long, ranks_stand, starts_long, uppers_long, uppers_stand, way_starts_stand}
use Rattle.cu_pack.proofs.Read.Standing.{stands_second}
use Rattle.cu_pack.proofs.Numbering.Slices.{part_then}
use Rattle.cu_pack.proofs.Numbering.Stretches.{stretch_even, stretch_lists, stretch_of}

module _ (bytes : List ℕ) (h : HierarchyValue) (f : SpellsSections bytes h) where
  -- whole sections
  pub order_part : slice_range bytes 52 (arcs_at (counts_in bytes)) ≡ order_section h
  order_part =
      let c : Counts = counts_of f.version h in
      let nodes = stretch_of bytes 52 (rank_of_at c) (flat_map short h.order.node_at) (nodes_stand bytes h f) (omega (arith, nodes_long h f.sound)) in
      let ranks = stretch_of bytes (rank_of_at c) (arcs_at c) (flat_map short h.order.rank_of) (ranks_stand bytes h f) (omega (arith, ranks_long h f.sound)) in
      placed bytes h f (λ (k : Counts). slice_range bytes 52 (arcs_at k) ≡ order_section h)
      (sym (part_then bytes 52 (rank_of_at c) (arcs_at c) (flat_map short h.order.node_at) (flat_map short h.order.rank_of) (omega arith) (omega arith) (sym nodes) (sym ranks)))

  pub edges_part : slice_range bytes (edge_starts_at (counts_in bytes)) (way_starts_at (counts_in bytes)) ≡ edges_section h
  edges_part =
      let c : Counts = counts_of f.version h in
      let first = flat_map short (edge_starts h) in
      let second = flat_map short (map (λ (ends : Ends). ends.high) h.edges) in
      let starts = stretch_of bytes (edge_starts_at c) (uppers_at c) first (edge_starts_stand bytes h f) (omega (arith, edge_starts_long h f.sound)) in
      let uppers = stretch_of bytes (uppers_at c) (way_starts_at c) second (uppers_stand bytes h f) (omega (arith, uppers_long h f.sound)) in
      placed bytes h f (λ (k : Counts). slice_range bytes (edge_starts_at k) (way_starts_at k) ≡ edges_section h)
      (sym (part_then bytes (edge_starts_at c) (uppers_at c) (way_starts_at c) first second (omega arith) (omega arith) (sym starts) (sym uppers)))

  -- all of them
  pub all_parts : slice_range bytes 52 (bounds_at (counts_in bytes)) ≡ parts h
  unfolding front
  all_parts =
      let c : Counts = counts_of f.version h in
      let whole = front_long f.version h f.sound in
      let head = header_long c in
      let both = length-append (header c) (parts h) in
      let stands = stands_second bytes 0 (header c) (parts h) f.begins 52 (omega (arith, head)) in
      placed bytes h f (λ (k : Counts). slice_range bytes 52 (bounds_at k) ≡ parts h) (stretch_of bytes 52 (bounds_at c) (parts h) stands (omega (arith, whole, head, both)))

  -- how many pieces are before a profile, and how many entries before a list
  pub profile_start_known : (profile : ℕ) → profile ≤ length h.network.profiles → profile_start bytes profile ≡ total (take profile h.network.profiles)
  profile_start_known profile inside =
      profile_start_said bytes h f profile inside

  pub way_start_known : (list : ℕ) → list ≤ length h.lists → way_start bytes list ≡ total (take list h.lists)
  way_start_known list inside = way_start_said bytes h f list inside

  module _ (a b : ℕ) (order : a ≤ b) where
    -- stretches of sections

    pub way_starts_part : b ≤ suc (length h.lists)
        → slice_range bytes (way_starts_at (counts_in bytes) + 8 * a) (way_starts_at (counts_in bytes) + 8 * b) ≡ flat_map long (slice_range (starts_from 0 h.lists) a b)
    way_starts_part inside =
        let starts = starts_from 0 h.lists in
        placed bytes h f (λ (k : Counts). slice_range bytes (way_starts_at k + 8 * a) (way_starts_at k + 8 * b) ≡ flat_map long (slice_range starts a b))
        (stretch_even long bytes (way_starts_at (counts_of f.version h)) starts (way_starts_stand bytes h f) a b order 8 (λ n. refl) (omega (arith, inside, starts_long 0 h.lists)))

    pub entries_part : (first end : ℕ) → first ≡ total (take a h.lists) → end ≡ total (take b h.lists)
        → slice_range bytes (entries_at (counts_in bytes) + 12 * first) (entries_at (counts_in bytes) + 12 * end) ≡ flat_map (flat_map entry_bytes) (slice_range h.lists a b)
    entries_part first end first_is end_is =
        placed bytes h f (λ (k : Counts). slice_range bytes (entries_at k + 12 * first) (entries_at k + 12 * end) ≡ flat_map (flat_map entry_bytes) (slice_range h.lists a b))
        (stretch_lists entry_bytes entry_long bytes (entries_at (counts_of f.version h)) h.lists (entries_stand bytes h f) a b first end order first_is end_is)

-- the same part, by other names of its places
pub same_part : (bytes : List ℕ) (a b x y : ℕ) → x ≡ a → y ≡ b → slice_range bytes x y ≡ slice_range bytes a b
same_part bytes a b x y first second = ap (λ (n : ℕ). slice_range bytes n y) first ∙ ap (slice_range bytes a) second
