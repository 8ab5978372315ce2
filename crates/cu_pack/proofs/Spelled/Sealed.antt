-- Bytes that pass every check are the packed file of the hierarchy that they say.
use Rattle.std.proofs.Common.{◌≡◌, ◌≤◌, ◌<◌, ◌+◌, ◌-◌, ◌*◌, ◌∙◌, ℕ, suc, List, Some, ◌++◌, length, map, take, flat_map, refl, sym, ap, arith}
use Rattle.std.specs.Prelude.{codes, slice_get, slice_range}
use Rattle.std.specs.List.{range_with_len}
use Rattle.std.proofs.lemmas.List.FromFn.{length-map-range_with_len}
use Rattle.std.proofs.lemmas.Option.{same_Some, slice_get_within}
use Rattle.sha2.specs.Sha256.{sha256}
use Rattle.cu_chordal.specs.declared.graph.Ends.{Ends}
use Rattle.cu_chordal.specs.Graphs.{first_edge_of}
use Rattle.cu_interval.specs.Hierarchies.{HierarchyValue}
use Rattle.cu_interval.specs.LeastBounds.{least_bound}
use Rattle.cu_bounds.specs.KeptBounds.{bounds_of}
use Rattle.cu_pack.specs.declared.layout.Counts.{Counts}
use Rattle.cu_pack.specs.Checks.{IsGraph, IsSized, IsWrongBound, IsWrongList, NoneWrong, Spells, SpellsIn, body_in}
use Rattle.cu_pack.specs.Layouts.{arcs_at, bounds_at, digest_at, edge_starts_at, entries_at, file_length, pieces_at, profile_starts_at, rank_of_at, uppers_at, way_starts_at}
use Rattle.cu_pack.specs.Places.{long_at, short_at}
use Rattle.cu_pack.specs.Reading.{arc_in, bound_in, counts_in, decoded, entry_from, entry_place, list_in}
use Rattle.cu_pack.specs.Reading.{network_in, order_in, piece_from, piece_place, profile_in, profile_start, way_start, shorts_in}
use Rattle.cu_pack.specs.Spelling.{arcs_section, body, bounds_section, counts_of, edge_starts, edges_section, entry_bytes, header, long, order_section, piece_bytes, profiles_section, spelling_in}
use Rattle.cu_pack.specs.Spelling.{total, ways_section, short}
use Rattle.cu_pack.specs.Steps.Fronts.{SpellsSections, front}
use Rattle.cu_pack.proofs.Viewed.Adopted.{AreEdges}
use Rattle.cu_pack.proofs.Read.Bodies.{sealed_same}
use Rattle.cu_pack.proofs.Read.Laid.{first_list, first_profile, last_list, last_profile, list_kinds, list_rises, list_within, lists_lead, profile_kinds, profile_rises, profile_within, profiles_lead}
use Rattle.cu_pack.proofs.Numbering.Items.{made_again}
use Rattle.cu_pack.proofs.Numbering.ListNumbers.{list_parts}
use Rattle.cu_pack.proofs.Numbering.PairedLists.{bound_there, bounds_count}
use Rattle.cu_pack.proofs.Numbering.Slices.{no_part, part_then}
use Rattle.cu_pack.proofs.Numbering.Unrefuted.{same_unrefuted}
use Rattle.cu_pack.proofs.Spelled.Parts.{body_parts, bounds_kept, front_long, no_bounds_kept}
use Rattle.cu_pack.proofs.Spelled.Passed.{edges_right, hierarchy_sound}
use Rattle.cu_pack.proofs.Spelled.Respelled.{arcs_again, entry_again, lists_again, longs_again, piece_again, shorts_again, shorts_made_again}
use Rattle.cu_pack.proofs.Numbering.Runs.{starts_again, total_again}
use Rattle.cu_pack.proofs.Numbering.Totals.{same_counts}
use Rattle.cu_pack.proofs.Numbering.Numbers.{AreBytes, long_again, short_again}

module _ (bytes : List ℕ) (small : AreBytes bytes) (f : IsSized bytes) where
  -- a number written again, and what is behind it
  short_then : (at end : ℕ) (rest : List ℕ) → at + 4 ≤ end → end ≤ length bytes → rest ≡ slice_range bytes (at + 4) end → short (short_at bytes at) ++ rest ≡ slice_range bytes at end
  short_then at end rest before inside same =
      part_then bytes at (at + 4) end (short (short_at bytes at)) rest (omega arith) before (short_again bytes small at (omega (arith, before, inside))) same

  long_then : (at end : ℕ) (rest : List ℕ) → at + 8 ≤ end → end ≤ length bytes → rest ≡ slice_range bytes (at + 8) end → long (long_at bytes at) ++ rest ≡ slice_range bytes at end
  long_then at end rest before inside same =
      part_then bytes at (at + 8) end (long (long_at bytes at)) rest (omega arith) before (long_again bytes small at (omega (arith, before, inside))) same

  -- the counts and the length
  counts_written : List ℕ
  counts_written =
      let c : Counts = counts_in bytes in
      short c.nodes ++ (short c.arcs ++ (short c.profiles ++ (short c.edges ++ (long c.pieces ++ (long c.entries ++ long (file_length c))))))

  counts_in_place : counts_written ≡ slice_range bytes 12 52
  unfolding counts_written counts_in
  counts_in_place =
      let whole = f.limited.sealed.whole in
      let inside : 52 ≤ length bytes = omega (arith, whole.version.ours.long) in
      let said : file_length (counts_in bytes) ≡ long_at bytes 44 = f.size ∙ sym whole.said in
      let length_is = ap long said ∙ long_again bytes small 44 inside in
      let entries_is = long_then 36 52 _ (omega arith) inside length_is in
      let pieces_is = long_then 28 52 _ (omega arith) inside entries_is in
      let edges_is = short_then 24 52 _ (omega arith) inside pieces_is in
      let profiles_is = short_then 20 52 _ (omega arith) inside edges_is in
      let arcs_is = short_then 16 52 _ (omega arith) inside profiles_is in
      short_then 12 52 _ (omega arith) inside arcs_is

  header_again : header (counts_in bytes) ≡ slice_range bytes 0 52
  unfolding header counts_written counts_in
  header_again =
      let whole = f.limited.sealed.whole in
      let inside : 52 ≤ length bytes = omega (arith, whole.version.ours.long) in
      let version = short_then 8 52 counts_written (omega arith) inside counts_in_place in
      part_then bytes 0 8 52 (codes "CATCHUPH") (short (short_at bytes 8) ++ counts_written) (omega arith) (omega arith) (sym whole.version.ours.magic) version

module _ (bytes : List ℕ) (small : AreBytes bytes) (f : IsGraph bytes) (none : NoneWrong (IsWrongList bytes) (suc (2 * (counts_in bytes).edges))) where
  -- the sections, one by one
  size : file_length (counts_in bytes) ≡ length bytes
  size = f.roads.joined.ordered.sized.size

  order_again : order_section (decoded bytes) ≡ slice_range bytes 52 (arcs_at (counts_in bytes))
  unfolding decoded order_in
  order_again =
      let c : Counts = counts_in bytes in
      let one = shorts_again bytes small 52 c.nodes (omega (arith, size)) in
      let two = shorts_again bytes small (rank_of_at c) c.nodes (omega (arith, size)) in
      part_then bytes 52 (rank_of_at c) (arcs_at c) (flat_map short (shorts_in bytes 52 c.nodes)) (flat_map short (shorts_in bytes (rank_of_at c) c.nodes)) (omega arith) (omega arith) one two

  roads_again : arcs_section (decoded bytes) ≡ slice_range bytes (arcs_at (counts_in bytes)) (profile_starts_at (counts_in bytes))
  unfolding decoded network_in
  roads_again = arcs_again bytes small (counts_in bytes).arcs (omega (arith, size))

  profiles_again : profiles_section (decoded bytes) ≡ slice_range bytes (profile_starts_at (counts_in bytes)) (edge_starts_at (counts_in bytes))
  unfolding decoded network_in
  profiles_again =
      let c : Counts = counts_in bytes in
      let valid = f.roads.profiles in
      let first = first_profile bytes valid in
      let start_end : profile_starts_at c + 8 * suc c.profiles ≡ pieces_at c = omega arith in
      let starts = ap (flat_map long) (starts_again (profile_start bytes) (profile_in bytes) 0 c.profiles 0 (profiles_lead bytes valid) (sym first))
      ∙ longs_again bytes small (profile_starts_at c) (suc c.profiles) (omega (arith, size)) ∙ ap (slice_range bytes (profile_starts_at c)) start_end in
      let pieces = lists_again bytes small piece_bytes (λ piece. piece_from bytes (piece_place bytes piece)) (pieces_at c) (profile_start bytes) c.profiles
      c.pieces first (last_profile bytes valid) (λ k lt.
      let rises = profile_rises bytes valid k lt in
      let within = profile_within bytes valid k lt in (
        omega (arith, rises),
        λ j low high. piece_again bytes small (pieces_at c + 12 * j) (omega (arith, high, within, size)) (profile_kinds bytes valid k lt j low high),
      )) in
      part_then bytes (profile_starts_at c) (pieces_at c) (edge_starts_at c) _ _ (omega arith) (omega arith) starts pieces

  nodes_same : (decoded bytes).network.nodes ≡ (counts_in bytes).nodes
  unfolding decoded network_in
  nodes_same = refl

  edges_again : edges_section (decoded bytes) ≡ slice_range bytes (edge_starts_at (counts_in bytes)) (way_starts_at (counts_in bytes))
  edges_again =
      let c : Counts = counts_in bytes in
      let edges : List Ends = (decoded bytes).edges in
      let known : AreEdges bytes edges = edges_right bytes f none in
      let start_end : edge_starts_at c + 4 * suc c.nodes ≡ uppers_at c = omega arith in
      let starts : flat_map short (edge_starts (decoded bytes)) ≡ slice_range bytes (edge_starts_at c) (uppers_at c) =
      ap (λ n. flat_map short (map (first_edge_of edges) (range_with_len 0 (suc n)))) nodes_same
      ∙ shorts_made_again bytes small (first_edge_of edges) (edge_starts_at c) (suc c.nodes) (omega (arith, size)) (λ k lt. known.firsts k (omega (arith, lt)))
      ∙ ap (slice_range bytes (edge_starts_at c)) start_end in
      let uppers = ap (flat_map short) known.highs ∙ shorts_again bytes small (uppers_at c) c.edges (omega (arith, size)) in
      part_then bytes (edge_starts_at c) (uppers_at c) (way_starts_at c) _ _ (omega arith) (omega arith) starts uppers

  ways_again : ways_section (decoded bytes) ≡ slice_range bytes (way_starts_at (counts_in bytes)) (bounds_at (counts_in bytes))
  unfolding decoded
  ways_again =
      let c : Counts = counts_in bytes in
      let first = first_list bytes none in
      let start_end : way_starts_at c + 8 * suc (2 * c.edges) ≡ entries_at c = omega arith in
      let starts = ap (flat_map long) (starts_again (way_start bytes) (list_in bytes) 0 (2 * c.edges) 0 (lists_lead bytes none) (sym first))
      ∙ longs_again bytes small (way_starts_at c) (suc (2 * c.edges)) (omega (arith, size)) ∙ ap (slice_range bytes (way_starts_at c)) start_end in
      let entries = lists_again bytes small entry_bytes (λ entry. entry_from bytes (entry_place bytes entry)) (entries_at c) (way_start bytes) (2 * c.edges)
      c.entries first (last_list bytes none) (λ k lt.
      let within = list_within bytes none k lt in (
        list_rises bytes none k lt,
        λ j low high. entry_again bytes small (entries_at c + 12 * j) (omega (arith, high, within, size)) (list_kinds bytes none k lt j low high),
      )) in
      part_then bytes (way_starts_at c) (entries_at c) (bounds_at c) _ _ (omega arith) (omega arith) starts entries

  -- how many there are of each is what the header says
  pieces_counted : total (decoded bytes).network.profiles ≡ (counts_in bytes).pieces
  unfolding decoded network_in
  pieces_counted =
      let count : ℕ = (counts_in bytes).profiles in
      let valid = f.roads.profiles in
      let all = total_again (profile_start bytes) (profile_in bytes) 0 count (profiles_lead bytes valid) in
      let end : profile_start bytes (0 + count) ≡ profile_start bytes count = ap (profile_start bytes) (omega arith) in
      omega (arith, all, end, first_profile bytes valid, last_profile bytes valid)

  entries_counted : total (decoded bytes).lists ≡ (counts_in bytes).entries
  unfolding decoded
  entries_counted =
      let count : ℕ = 2 * (counts_in bytes).edges in
      let all = total_again (way_start bytes) (list_in bytes) 0 count (lists_lead bytes none) in
      let end : way_start bytes (0 + count) ≡ way_start bytes count = ap (way_start bytes) (omega arith) in
      omega (arith, all, end, first_list bytes none, last_list bytes none)

  arcs_counted : length (decoded bytes).network.arcs ≡ (counts_in bytes).arcs
  unfolding decoded network_in
  arcs_counted = length-map-range_with_len (arc_in bytes) 0 (counts_in bytes).arcs

  profiles_counted : length (decoded bytes).network.profiles ≡ (counts_in bytes).profiles
  unfolding decoded network_in
  profiles_counted = length-map-range_with_len (profile_in bytes) 0 (counts_in bytes).profiles

  version_same : (counts_in bytes).version ≡ short_at bytes 8
  unfolding counts_in
  version_same = refl

  counts_again : counts_of (short_at bytes 8) (decoded bytes) ≡ counts_in bytes
  counts_again =
      same_counts (counts_of (short_at bytes 8) (decoded bytes)) (counts_in bytes) (sym version_same) nodes_same arcs_counted profiles_counted
      (edges_right bytes f none).count pieces_counted entries_counted

  -- all that is before the bounds
  front_again : front (short_at bytes 8) (decoded bytes) ≡ slice_range bytes 0 (bounds_at (counts_in bytes))
  unfolding front
  front_again =
      let h : HierarchyValue = decoded bytes in
      let c : Counts = counts_in bytes in
      let heads = ap header counts_again ∙ header_again bytes small f.roads.joined.ordered.sized in
      let edges_on = part_then bytes (edge_starts_at c) (way_starts_at c) (bounds_at c) (edges_section h) (ways_section h) (omega arith) (omega arith) edges_again ways_again in
      let profiles_on = part_then bytes (profile_starts_at c) (edge_starts_at c) (bounds_at c) (profiles_section h) _ (omega arith) (omega arith) profiles_again edges_on in
      let arcs_on = part_then bytes (arcs_at c) (profile_starts_at c) (bounds_at c) (arcs_section h) _ (omega arith) (omega arith) roads_again profiles_on in
      let order_on = part_then bytes 52 (arcs_at c) (bounds_at c) (order_section h) _ (omega arith) (omega arith) order_again arcs_on in
      part_then bytes 0 52 (bounds_at c) (header (counts_of (short_at bytes 8) h)) _ (omega arith) (omega arith) heads order_on

  -- the bytes have the header, the sections, the length and the digest of what they say
  pub sections_pass : SpellsSections bytes (decoded bytes)
  sections_pass =
      let h : HierarchyValue = decoded bytes in
      let sound = hierarchy_sound bytes f none in
      let version : ℕ = short_at bytes 8 in
      let sized = f.roads.joined.ordered.sized in
      let many : length (front version h) ≡ bounds_at (counts_in bytes) - 0 = omega (arith, front_long version h sound, ap bounds_at counts_again) in
      record {
        version = version;
        known = sized.limited.sealed.whole.version.version;
        sound = sound;
        begins = ap (λ n. take n bytes) many ∙ sym front_again;
        long = sym (ap file_length counts_again ∙ size);
        digest = sized.limited.sealed.digest;
      }

  -- where the bounds of a version stand behind it, the bytes are those that the hierarchy is packed as
  bounds_pass : (version : ℕ) → short_at bytes 8 ≡ version → bounds_section version (decoded bytes) ≡ slice_range bytes (bounds_at (counts_in bytes)) (digest_at (counts_in bytes))
      → SpellsIn version bytes (decoded bytes)
  unfolding spelling_in
  bounds_pass version is there =
      let h : HierarchyValue = decoded bytes in
      let c : Counts = counts_in bytes in
      let begins : front version h ≡ slice_range bytes 0 (bounds_at c) = ap (λ v. front v h) (sym is) ∙ front_again in
      let end : digest_at c - 0 ≡ length bytes - 32 = omega (arith, size) in
      let body_again : body version h ≡ body_in bytes =
      body_parts version h ∙ part_then bytes 0 (bounds_at c) (digest_at c) (front version h) (bounds_section version h) (omega arith) (omega arith) begins there ∙ ap (λ n. take n bytes) end in
      record {
        sound = hierarchy_sound bytes f none;
        spelled =
            let digest = f.roads.joined.ordered.sized.limited.sealed.digest in
            sym (sealed_same bytes digest) ∙ ap (λ front. front ++ sha256 front) (sym body_again);
      }

  -- the first version keeps no bounds
  pub first_pass : short_at bytes 8 ≡ 1 → SpellsIn 1 bytes (decoded bytes)
  first_pass is =
      let c : Counts = counts_in bytes in
      bounds_pass 1 is (no_part bytes (bounds_at c) (digest_at c) (omega (arith, no_bounds_kept bytes is)))

  -- the second keeps those of all lists
  module _ (is : short_at bytes 8 ≡ 2) (right : NoneWrong (IsWrongBound bytes) (2 * (counts_in bytes).edges)) where
    bound_right : (list bound : ℕ) → slice_get (bounds_of (decoded bytes)) list ≡ Some bound → bound_in bytes list ≡ bound
    bound_right list bound there =
        let h : HierarchyValue = decoded bytes in
        let many = (edges_right bytes f none).count in
        let inside : list < 2 * (counts_in bytes).edges = omega (arith, slice_get_within (bounds_of h) list bound there, bounds_count h, many) in
        let (edge, dir, within, number) = list_parts list (counts_in bytes).edges inside in
        let own = bound_there h edge dir (omega (arith, within, many)) in
        let same : least_bound h edge dir ≡ bound = same_Some (least_bound h edge dir) bound (sym own ∙ ap (slice_get (bounds_of h)) (sym number) ∙ there) in
        same_unrefuted (bound_in bytes list) (least_bound h edge dir) (λ other. right list inside (edge, dir, within, number, other)) ∙ same

    bounds_again : bounds_section 2 (decoded bytes) ≡ slice_range bytes (bounds_at (counts_in bytes)) (digest_at (counts_in bytes))
    bounds_again =
        let h : HierarchyValue = decoded bytes in
        let c : Counts = counts_in bytes in
        let all_kept = bounds_kept bytes is in
        let many : length (bounds_of h) ≡ 2 * c.edges = bounds_count h ∙ ap (λ n. 2 * n) (edges_right bytes f none).count in
        let made = made_again (bound_in bytes) (2 * c.edges) (bounds_of h) many bound_right in
        let end : bounds_at c + 8 * (2 * c.edges) ≡ digest_at c = omega (arith, all_kept) in
        ap (flat_map long) (sym made) ∙ longs_again bytes small (bounds_at c) (2 * c.edges) (omega (arith, size, all_kept)) ∙ ap (slice_range bytes (bounds_at c)) end

    pub all_pass : Spells bytes (decoded bytes)
    all_pass = bounds_pass 2 is bounds_again
