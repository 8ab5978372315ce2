-- Where the parts of a packed file stand, and how long it is.
use Rattle.std.proofs.Common.{◌≡◌, ◌≤◌, ◌+◌, ◌-◌, ◌*◌, ◌∙◌, ◌==◌, Bool, true, false, if◌then◌else◌, ℕ, zero, suc, List}
use Rattle.std.proofs.Common.{[], ◌∷◌, ◌++◌, Some, length, take, map, flat_map, refl, ap, sym, subst, arith, append_assoc, length-append}
use Rattle.std.specs.Prelude.{slice_get}
use Rattle.std.proofs.lemmas.List.{drop_at, length-map, take_at}
use Rattle.std.proofs.lemmas.List.FromFn.{length-map-range_with_len}
use Rattle.std.proofs.lemmas.List.Sums.{sum_by-cons}
use Rattle.sha2.specs.Sha256.{sha256}
use Rattle.sha2.proofs.Facts256.{length-sha256}
use Rattle.cu_model.specs.declared.profiles.Piece.{Piece}
use Rattle.cu_model.specs.declared.profiles.Rule.{Rule}
use Rattle.cu_model.specs.declared.profiles.Rule.TheVariants.{Travel, Until, Closed}
use Rattle.cu_model.specs.declared.roads.RoadArc.{RoadArc}
use Rattle.cu_chordal.specs.declared.graph.Ends.{Ends}
use Rattle.cu_chordal.specs.Graphs.{first_edge_of}
use Rattle.cu_interval.specs.declared.ways.Entry.{Entry}
use Rattle.cu_interval.specs.declared.ways.Way.{Way}
use Rattle.cu_interval.specs.declared.ways.Way.TheVariants.{Road, Via}
use Rattle.cu_interval.specs.Hierarchies.{HierarchyValue, IsHierarchy}
use Rattle.cu_pack.specs.declared.layout.Counts.{Counts}
use Rattle.cu_pack.specs.Checks.{body_in, digest_in}
use Rattle.cu_pack.specs.Layouts.{rank_of_at, arcs_at, profile_starts_at, pieces_at, edge_starts_at, uppers_at, way_starts_at, entries_at, bounds_at, bounds_length, digest_at, file_length}
use Rattle.cu_pack.specs.Places.{StandsAt, short_at}
use Rattle.cu_pack.specs.Reading.{counts_in}
use Rattle.cu_pack.specs.Spelling.{arc_bytes, arcs_section, body, counts_of, edge_starts, edges_section, entry_bytes, header, long, order_section, piece_bytes, profiles_section}
use Rattle.cu_pack.specs.Spelling.{IsVersion, bounds_section, rule_bytes, short, spelling_in, starts_from, total, way_bytes, ways_section}
use Rattle.cu_pack.specs.Steps.Fronts.{SpellsSections, front}
use Rattle.cu_bounds.specs.KeptBounds.{bounds_of}
use Rattle.cu_pack.proofs.Numbering.PairedLists.{bounds_count}
use Rattle.cu_pack.proofs.Read.Standing.{flat_flat_length, flat_length, stands_first, stands_pair, stands_second, stands_whole}

-- how long each row is
pub arc_long : (arc : RoadArc) → length (arc_bytes arc) ≡ 12
unfolding arc_bytes
arc_long arc = refl

rule_long : (from : ℕ) (rule : Rule) → length (rule_bytes from rule) ≡ 12
rule_long from (Travel seconds) = refl
rule_long from (Until arrival) = refl
rule_long from (Closed value) = refl

pub piece_long : (piece : Piece) → length (piece_bytes piece) ≡ 12
unfolding piece_bytes
piece_long piece = rule_long piece.from piece.rule

way_long : (from : ℕ) (way : Way) → length (way_bytes from way) ≡ 12
way_long from (Road arc) = refl
way_long from (Via rank) = refl

pub entry_long : (entry : Entry) → length (entry_bytes entry) ≡ 12
unfolding entry_bytes
entry_long entry = way_long entry.from entry.way

-- starts: one more than there are lists, and each how many there are before
pub starts_long : {T : Type 0} (start : ℕ) (lists : List (List T)) → length (starts_from start lists) ≡ length lists + 1
unfolding starts_from
starts_long start [] = refl
starts_long start (list ∷ lists) = omega (arith, starts_long (start + length list) lists)

pub start_there : {T : Type 0} (start : ℕ) (lists : List (List T)) (i : ℕ) → i ≤ length lists → slice_get (starts_from start lists) i ≡ Some (start + total (take i lists))
unfolding starts_from
start_there start [] zero h = ap Some (omega arith)
start_there start [] (suc i) h = absurd (omega (arith, h))
start_there start (list ∷ lists) zero h = ap Some (omega arith)
start_there start (list ∷ lists) (suc i) h =
    let rest = start_there (start + length list) lists i (omega (arith, h)) in
    let sum = sum_by-cons length list (take i lists) in
    rest ∙ ap Some (omega (arith, sum))

pub header_long : (c : Counts) → length (header c) ≡ 52
unfolding header
header_long c = refl

-- what stands behind each section, up to the bounds
abbrev behind_profiles : HierarchyValue → List ℕ
behind_profiles h = edges_section h ++ ways_section h

abbrev behind_arcs : HierarchyValue → List ℕ
behind_arcs h = profiles_section h ++ behind_profiles h

abbrev behind_order : HierarchyValue → List ℕ
behind_order h = arcs_section h ++ behind_arcs h

abbrev behind_header : HierarchyValue → List ℕ
behind_header h = order_section h ++ behind_order h

module _ (h : HierarchyValue) (f : IsHierarchy h) where
  -- how long each section is
  pub nodes_long : length (flat_map short h.order.node_at) ≡ 4 * h.network.nodes
  nodes_long = flat_length short 4 (λ n. refl) h.order.node_at ∙ ap (λ (n : ℕ). 4 * n) f.same

  pub ranks_long : length (flat_map short h.order.rank_of) ≡ 4 * h.network.nodes
  ranks_long = flat_length short 4 (λ n. refl) h.order.rank_of ∙ ap (λ (n : ℕ). 4 * n) (f.order.same ∙ f.same)

  pub arcs_long : length (arcs_section h) ≡ 12 * length h.network.arcs
  arcs_long = flat_length arc_bytes 12 arc_long h.network.arcs

  pub profile_starts_long : length (flat_map long (starts_from 0 h.network.profiles)) ≡ 8 * (length h.network.profiles + 1)
  profile_starts_long = flat_length long 8 (λ n. refl) (starts_from 0 h.network.profiles) ∙ ap (λ (n : ℕ). 8 * n) (starts_long 0 h.network.profiles)

  pub pieces_long : length (flat_map (flat_map piece_bytes) h.network.profiles) ≡ 12 * total h.network.profiles
  pieces_long = flat_flat_length piece_bytes 12 piece_long h.network.profiles

  pub edge_starts_long : length (flat_map short (edge_starts h)) ≡ 4 * (h.network.nodes + 1)
  edge_starts_long =
      flat_length short 4 (λ n. refl) (edge_starts h) ∙ ap (λ (n : ℕ). 4 * n) (length-map-range_with_len (first_edge_of h.edges) 0 (suc h.network.nodes) ∙ omega arith)

  pub uppers_long : length (flat_map short (map (λ (ends : Ends). ends.high) h.edges)) ≡ 4 * length h.edges
  uppers_long = flat_length short 4 (λ n. refl) (map (λ (ends : Ends). ends.high) h.edges) ∙ ap (λ (n : ℕ). 4 * n) (length-map h.edges (λ (ends : Ends). ends.high))

  pub way_starts_long : length (flat_map long (starts_from 0 h.lists)) ≡ 8 * (2 * length h.edges + 1)
  way_starts_long = flat_length long 8 (λ n. refl) (starts_from 0 h.lists) ∙ ap (λ (n : ℕ). 8 * n) (starts_long 0 h.lists ∙ ap (λ (n : ℕ). n + 1) f.lists)

  pub entries_long : length (flat_map (flat_map entry_bytes) h.lists) ≡ 12 * total h.lists
  entries_long = flat_flat_length entry_bytes 12 entry_long h.lists

-- the bounds, which a version keeps or not
chosen_long : (kept : Bool) (part : List ℕ) (count : ℕ) → length part ≡ count → length (if kept then part else []) ≡ (if kept then count else 0)
chosen_long true part count long = long
chosen_long false part count long = refl

chosen_most : (kept : Bool) (count : ℕ) → (if kept then count else 0) ≤ count
chosen_most true count = omega arith
chosen_most false count = omega arith

pub bounds_length-most : (c : Counts) → bounds_length c ≤ 16 * c.edges
bounds_length-most c = chosen_most (c.version == 2) (16 * c.edges)

module _ (bytes : List ℕ) where
  pub bounds_kept : short_at bytes 8 ≡ 2 → bounds_length (counts_in bytes) ≡ 16 * (counts_in bytes).edges
  unfolding counts_in
  bounds_kept second = ap (λ version. if version == 2 then 16 * short_at bytes 24 else 0) second

  pub no_bounds_kept : short_at bytes 8 ≡ 1 → bounds_length (counts_in bytes) ≡ 0
  unfolding counts_in
  no_bounds_kept first = ap (λ version. if version == 2 then 16 * short_at bytes 24 else 0) first

module _ (bytes : List ℕ) (h : HierarchyValue) (f : SpellsSections bytes h) where
  -- where each section stands
  pub header_stands : StandsAt bytes 0 (header (counts_of f.version h))
  unfolding front
  header_stands = stands_first bytes 0 (header (counts_of f.version h)) (behind_header h) f.begins

  header_left : StandsAt bytes 52 (behind_header h)
  unfolding front
  header_left = stands_second bytes 0 (header (counts_of f.version h)) (behind_header h) f.begins 52 (omega (arith, header_long (counts_of f.version h)))

  order_stands :
      StandsAt bytes 52 (flat_map short h.order.node_at) × StandsAt bytes (rank_of_at (counts_of f.version h)) (flat_map short h.order.rank_of)
      × StandsAt bytes (arcs_at (counts_of f.version h)) (behind_order h)
  order_stands =
      stands_pair bytes 52 (rank_of_at (counts_of f.version h)) (arcs_at (counts_of f.version h)) (flat_map short h.order.node_at) (flat_map short h.order.rank_of)
      (behind_order h) header_left (omega (arith, nodes_long h f.sound)) (omega (arith, ranks_long h f.sound))

  pub nodes_stand : StandsAt bytes 52 (flat_map short h.order.node_at)
  nodes_stand = order_stands.0

  pub ranks_stand : StandsAt bytes (rank_of_at (counts_of f.version h)) (flat_map short h.order.rank_of)
  ranks_stand = order_stands.1

  pub arcs_stand : StandsAt bytes (arcs_at (counts_of f.version h)) (arcs_section h)
  arcs_stand = stands_first bytes (arcs_at (counts_of f.version h)) (arcs_section h) (behind_arcs h) order_stands.2

  arcs_left : StandsAt bytes (profile_starts_at (counts_of f.version h)) (behind_arcs h)
  arcs_left = stands_second bytes (arcs_at (counts_of f.version h)) (arcs_section h) (behind_arcs h) order_stands.2 (profile_starts_at (counts_of f.version h)) (omega (arith, arcs_long h f.sound))

  profiles_stand :
      StandsAt bytes (profile_starts_at (counts_of f.version h)) (flat_map long (starts_from 0 h.network.profiles))
      × StandsAt bytes (pieces_at (counts_of f.version h)) (flat_map (flat_map piece_bytes) h.network.profiles)
      × StandsAt bytes (edge_starts_at (counts_of f.version h)) (behind_profiles h)
  profiles_stand =
      stands_pair bytes (profile_starts_at (counts_of f.version h)) (pieces_at (counts_of f.version h)) (edge_starts_at (counts_of f.version h))
      (flat_map long (starts_from 0 h.network.profiles)) (flat_map (flat_map piece_bytes) h.network.profiles)
      (behind_profiles h) arcs_left (omega (arith, profile_starts_long h f.sound)) (omega (arith, pieces_long h f.sound))

  pub profile_starts_stand : StandsAt bytes (profile_starts_at (counts_of f.version h)) (flat_map long (starts_from 0 h.network.profiles))
  profile_starts_stand = profiles_stand.0

  pub pieces_stand : StandsAt bytes (pieces_at (counts_of f.version h)) (flat_map (flat_map piece_bytes) h.network.profiles)
  pieces_stand = profiles_stand.1

  edges_stand :
      StandsAt bytes (edge_starts_at (counts_of f.version h)) (flat_map short (edge_starts h)) × StandsAt bytes (uppers_at (counts_of f.version h))
      (flat_map short (map (λ (ends : Ends). ends.high) h.edges))
      × StandsAt bytes (way_starts_at (counts_of f.version h)) (ways_section h)
  edges_stand =
      stands_pair bytes (edge_starts_at (counts_of f.version h)) (uppers_at (counts_of f.version h)) (way_starts_at (counts_of f.version h)) (flat_map short (edge_starts h))
      (flat_map short (map (λ (ends : Ends). ends.high) h.edges)) (ways_section h)
      profiles_stand.2 (omega (arith, edge_starts_long h f.sound)) (omega (arith, uppers_long h f.sound))

  pub edge_starts_stand : StandsAt bytes (edge_starts_at (counts_of f.version h)) (flat_map short (edge_starts h))
  edge_starts_stand = edges_stand.0

  pub uppers_stand : StandsAt bytes (uppers_at (counts_of f.version h)) (flat_map short (map (λ (ends : Ends). ends.high) h.edges))
  uppers_stand = edges_stand.1

  pub way_starts_stand : StandsAt bytes (way_starts_at (counts_of f.version h)) (flat_map long (starts_from 0 h.lists))
  way_starts_stand = stands_first bytes (way_starts_at (counts_of f.version h)) (flat_map long (starts_from 0 h.lists)) (flat_map (flat_map entry_bytes) h.lists) edges_stand.2

  pub entries_stand : StandsAt bytes (entries_at (counts_of f.version h)) (flat_map (flat_map entry_bytes) h.lists)
  entries_stand =
      stands_second bytes (way_starts_at (counts_of f.version h)) (flat_map long (starts_from 0 h.lists)) (flat_map (flat_map entry_bytes) h.lists) edges_stand.2
      (entries_at (counts_of f.version h)) (omega (arith, way_starts_long h f.sound))

-- all before the digest is what stands before the bounds, and these
pub body_parts : (version : ℕ) (h : HierarchyValue) → body version h ≡ front version h ++ bounds_section version h
unfolding body front
body_parts version h =
    let bounds = bounds_section version h in
    let one = append_assoc (edges_section h) (ways_section h) bounds in
    let two = append_assoc (profiles_section h) (behind_profiles h) bounds ∙ ap (λ (bs : List ℕ). profiles_section h ++ bs) one in
    let three = append_assoc (arcs_section h) (behind_arcs h) bounds ∙ ap (λ (bs : List ℕ). arcs_section h ++ bs) two in
    let four = append_assoc (order_section h) (behind_order h) bounds ∙ ap (λ (bs : List ℕ). order_section h ++ bs) three in
    sym (append_assoc (header (counts_of version h)) (behind_header h) bounds ∙ ap (λ (bs : List ℕ). header (counts_of version h) ++ bs) four)

module _ (version : ℕ) (h : HierarchyValue) (f : IsHierarchy h) where
  -- how long the file is up to the bounds, with them, and with the digest
  pub front_long : length (front version h) ≡ bounds_at (counts_of version h)
  unfolding front
  front_long =
      omega (
        arith,
        header_long (counts_of version h),
        nodes_long h f,
        ranks_long h f,
        arcs_long h f,
        profile_starts_long h f,
        pieces_long h f,
        edge_starts_long h f,
        uppers_long h f,
        way_starts_long h f,
        entries_long h f,
        length-append (header (counts_of version h)) (behind_header h),
        length-append (order_section h) (behind_order h),
        length-append (flat_map short h.order.node_at) (flat_map short h.order.rank_of),
        length-append (arcs_section h) (behind_arcs h),
        length-append (profiles_section h) (behind_profiles h),
        length-append (flat_map long (starts_from 0 h.network.profiles)) (flat_map (flat_map piece_bytes) h.network.profiles),
        length-append (edges_section h) (ways_section h),
        length-append (flat_map short (edge_starts h)) (flat_map short (map (λ (ends : Ends). ends.high) h.edges)),
        length-append (flat_map long (starts_from 0 h.lists)) (flat_map (flat_map entry_bytes) h.lists),
      )

  bounds_long : length (bounds_section version h) ≡ bounds_length (counts_of version h)
  bounds_long =
      chosen_long (version == 2) (flat_map long (bounds_of h)) (16 * length h.edges)
      (flat_length long 8 (λ n. refl) (bounds_of h) ∙ ap (λ (n : ℕ). 8 * n) (bounds_count h) ∙ omega arith)

  body_long : length (body version h) ≡ digest_at (counts_of version h)
  body_long =
      ap length (body_parts version h) ∙ length-append (front version h) (bounds_section version h) ∙ ap (λ (n : ℕ). n + length (bounds_section version h)) front_long
      ∙ ap (λ (n : ℕ). bounds_at (counts_of version h) + n) bounds_long

  pub file_long : length (spelling_in version h) ≡ file_length (counts_of version h)
  unfolding spelling_in
  file_long =
      length-append (body version h) (sha256 (body version h)) ∙ ap (λ (n : ℕ). n + length (sha256 (body version h))) body_long
      ∙ ap (λ (n : ℕ). digest_at (counts_of version h) + n) (length-sha256 (body version h))

  -- the digest is that of the bytes before it
  digest_right : digest_in (spelling_in version h) ≡ sha256 (body_in (spelling_in version h))
  unfolding spelling_in
  digest_right =
      let size : length (body version h) ≡ length (spelling_in version h) - 32 = omega (arith, file_long, body_long) in
      drop_at (body version h) (sha256 (body version h)) (length (spelling_in version h) - 32) size
      ∙ ap sha256 (sym (take_at (body version h) (sha256 (body version h)) (length (spelling_in version h) - 32) size))

  -- what stands first in the file, and the bounds behind it
  front_stands : StandsAt (spelling_in version h) 0 (body version h)
  unfolding spelling_in
  front_stands = stands_first (spelling_in version h) 0 (body version h) (sha256 (body version h)) (stands_whole (spelling_in version h))

  file_parts : StandsAt (spelling_in version h) 0 (front version h ++ bounds_section version h)
  file_parts = subst (StandsAt (spelling_in version h) 0) (body_parts version h) front_stands

  pub bounds_stand : StandsAt (spelling_in version h) (bounds_at (counts_of version h)) (bounds_section version h)
  bounds_stand = stands_second (spelling_in version h) 0 (front version h) (bounds_section version h) file_parts (bounds_at (counts_of version h)) (omega (arith, front_long))

  -- the file has the header, the sections, the length and the digest
  pub sections_spelled : IsVersion version → SpellsSections (spelling_in version h) h
  sections_spelled known = record {
    version = version;
    known = known;
    sound = f;
    begins = stands_first (spelling_in version h) 0 (front version h) (bounds_section version h) file_parts;
    long = file_long;
    digest = digest_right;
  }

  pub sections_version : (known : IsVersion version) → (sections_spelled known).version ≡ version
  unfolding sections_spelled
  sections_version known = refl
