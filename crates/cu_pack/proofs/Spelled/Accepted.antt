-- No check refuses the packed file of a hierarchy.
use Rattle.std.proofs.Common.{◌≡◌, ◌≢◌, ◌⊎◌, ◌≤◌, ◌<◌, ◌+◌, ◌*◌, ◌∙◌, ℕ, suc, List, [], ◌∷◌, Some, length, get_or, refl, sym, ap, subst, arith, inl, inr}
use Rattle.std.specs.Prelude.{slice_get}
use Rattle.std.specs.List.{Contains}
use Rattle.std.specs.Option.{option_map}
use Rattle.std.proofs.lemmas.List.{take_all}
use Rattle.std.proofs.lemmas.Option.{none-some, slice_get-get_or, slice_get_within}
use Rattle.cu_model.specs.declared.profiles.Piece.{Piece}
use Rattle.cu_model.specs.declared.profiles.Rule.{Rule}
use Rattle.cu_model.specs.declared.profiles.Rule.TheVariants.{Travel, Until, Closed}
use Rattle.cu_model.specs.declared.roads.RoadArc.{RoadArc}
use Rattle.cu_model.specs.Networks.{IsArcInRange, NetworkValue}
use Rattle.cu_model.specs.Orders.{OrderValue}
use Rattle.cu_model.specs.Profiles.{IsProfile}
use Rattle.cu_model.specs.Roads.{pieces_of}
use Rattle.cu_model.proofs.RoadLaws.{all_at, road_at}
use Rattle.cu_chordal.specs.declared.graph.Ends.{Ends}
use Rattle.cu_chordal.specs.WrongParts.{IsWrongPart}
use Rattle.cu_interval.specs.declared.ways.Dir.{Dir}
use Rattle.cu_interval.specs.declared.ways.Entry.{Entry}
use Rattle.cu_interval.specs.declared.ways.Way.{Way}
use Rattle.cu_interval.specs.declared.ways.Way.TheVariants.{Road, Via}
use Rattle.cu_interval.specs.Hierarchies.{HierarchyValue, IsHierarchy, IsWellFormed, end_of, list_number, list_of, start_of}
use Rattle.cu_interval.specs.WayLists.{IsWayList}
use Rattle.cu_pack.specs.declared.layout.Counts.{Counts}
use Rattle.cu_pack.specs.declared.refusals.Field.{Field}
use Rattle.cu_pack.specs.declared.refusals.Field.TheVariants as field
use Rattle.cu_pack.specs.declared.refusals.PackRefusal.{PackRefusal}
use Rattle.cu_pack.specs.declared.refusals.PackRefusal.TheVariants as refused
use Rattle.cu_pack.specs.Checks.{AreEntriesWrong, ArePiecesWrong, HasWays, HasWrongWay, IsFirstWrong, IsGraph, IsPastLimit, IsRefused}
use Rattle.cu_pack.specs.Checks.{IsRefusedIn, IsSized, IsWrongBound, IsWrongArc, IsWrongList, IsWrongProfile, IsWrongRank, IsWrongRankUp, NoneWrong}
use Rattle.cu_pack.specs.Layouts.{AreInLimits, bounds_at, file_length, rank_of_at}
use Rattle.cu_pack.specs.Places.{ReadsRule, ReadsWay, long_at, short_at}
use Rattle.cu_pack.specs.Reading.{arc_in, bound_in, counts_in, decoded, edge_starts_in, entry_kind, node_at_in, order_in, piece_kind, profile_start, rank_of_in, uppers_in, way_start}
use Rattle.cu_pack.specs.Spelling.{IsVersion, counts_of, edge_starts, long, spelling, spelling_in, total}
use Rattle.cu_pack.specs.Steps.Fronts.{SpellsSections}
use Rattle.cu_pack.proofs.Spelled.Again.{arc_again, counts_again, entry_there, list_again, network_again, order_again, piece_there, placed, profile_again, profile_start_said}
use Rattle.cu_pack.proofs.Spelled.Again.{decoded_again, read_again, starts_again, uppers_again, version_said, way_start_said}
use Rattle.cu_pack.proofs.Read.EdgeLists.{none_wrong}
use Rattle.cu_pack.proofs.Numbering.Items.{item_at, lead_on, lead_within}
use Rattle.cu_pack.proofs.Spelled.Parts.{bounds_stand, sections_spelled}
use Rattle.cu_pack.proofs.Read.Standing.{long_read, stands_ith}
use Rattle.cu_pack.proofs.Numbering.PairedLists.{bound_near, bound_there}
use Rattle.cu_bounds.specs.KeptBounds.{bounds_of}
use Rattle.cu_interval.specs.LeastBounds.{least_bound}
use Rattle.cu_pack.proofs.Read.ReadBack.{length_read, magic_stands, node_read, rank_read, version_read}
use Rattle.cu_pack.proofs.Numbering.Totals.{in_limits, list_there, pieces_there}

-- the kinds of rules and of ways
rule_kind : (bytes : List ℕ) (at from : ℕ) (rule : Rule) → ReadsRule bytes at from rule → short_at bytes (at + 4) ≤ 2
rule_kind bytes at from (Travel seconds) row = let kind = row.1 in omega (arith, kind)
rule_kind bytes at from (Until arrival) row = let kind = row.1 in omega (arith, kind)
rule_kind bytes at from (Closed value) row = let kind = row.1 in omega (arith, kind)

way_kind : (bytes : List ℕ) (at from : ℕ) (way : Way) → ReadsWay bytes at from way → short_at bytes (at + 4) ≤ 1
way_kind bytes at from (Road arc) row = let kind = row.1 in omega (arith, kind)
way_kind bytes at from (Via rank) row = let kind = row.1 in omega (arith, kind)

-- a profile has a piece
some_piece : (pieces : List Piece) → option_map (λ (piece : Piece). piece.from) (slice_get pieces 0) ≡ Some 0 → 0 < length pieces
some_piece [] starts = absurd (none-some 0 starts)
some_piece (piece ∷ pieces) starts = omega arith

-- what no limit forbids is past none
limits_kept : (bytes : List ℕ) (field : Field) → AreInLimits (counts_in bytes) → IsPastLimit bytes field → ⊥
limits_kept bytes field.Nodes limits past = omega (arith, limits.nodes, past)
limits_kept bytes field.Arcs limits past = omega (arith, limits.arcs, past)
limits_kept bytes field.Profiles limits past = omega (arith, limits.profiles, past)
limits_kept bytes field.Edges limits past = omega (arith, limits.edges, past)
limits_kept bytes field.Pieces limits past = omega (arith, limits.pieces, past)
limits_kept bytes field.Entries limits past = omega (arith, limits.entries, past)

module _ (bytes : List ℕ) (h : HierarchyValue) (f : SpellsSections bytes h) where
  -- the header, the digest and the length
  version_there : (short_at bytes 8 ≡ 1) ⊎ (short_at bytes 8 ≡ 2)
  version_there = subst IsVersion (sym (version_read bytes h f)) f.known

  sized : IsSized bytes
  sized =
      let long = f.long in
      record {
        limited = record {
          sealed = record {
            whole = record { version = record { ours = record { long = omega (arith, long); magic = magic_stands bytes h f }; version = version_there }; said = length_read bytes h f ∙ sym long };
            digest = f.digest;
          };
          limits = subst AreInLimits (sym (counts_again bytes h f)) (in_limits f.version h f.sound);
        };
        size = ap file_length (counts_again bytes h f) ∙ sym long;
      }

  nodes_said : (counts_in bytes).nodes ≡ h.network.nodes
  nodes_said = ap (λ (c : Counts). c.nodes) (counts_again bytes h f)

  -- the order
  ranks_right : NoneWrong (IsWrongRank bytes) (counts_in bytes).nodes
  ranks_right rank inside wrong =
      let within : rank < length h.order.node_at = omega (arith, inside, nodes_said, f.sound.same) in
      let node = get_or h.order.node_at rank 0 in
      let there = slice_get-get_or h.order.node_at rank 0 within in
      let ranked = f.sound.order.ranked rank node there in
      let said : node_at_in bytes rank ≡ node = node_read bytes h f rank node there in
      let back : rank_of_in bytes node ≡ rank = placed bytes h f (λ (c : Counts). short_at bytes (rank_of_at c + 4 * node) ≡ rank) (rank_read bytes h f node rank ranked) in
      let below = slice_get_within h.order.rank_of node rank ranked in
      elim wrong [
        | inl none ↦ omega (arith, none, said, below, nodes_said, f.sound.order.same, f.sound.same)
        | inr other ↦ other (ap (rank_of_in bytes) said ∙ back)
      ]

  -- the roads
  arcs_right : NoneWrong (IsWrongArc bytes) (counts_in bytes).arcs
  arcs_right number inside wrong =
      let arcs = ap (λ (c : Counts). c.arcs) (counts_again bytes h f) in
      let profiles = ap (λ (c : Counts). c.profiles) (counts_again bytes h f) in
      let road = road_at h.network number (omega (arith, inside, arcs)) in
      let arc : RoadArc = road.0 in
      let there = road.1 in
      let range : IsArcInRange h.network (arc_in bytes number) =
      subst (IsArcInRange h.network) (sym (arc_again bytes h f number arc there))
      (all_at (IsArcInRange h.network) h.network.arcs number arc f.sound.network.in_range there) in
      elim wrong [
        | inl tail ↦ omega (arith, tail, range.0, nodes_said)
        | inr (inl head) ↦ omega (arith, head, range.1, nodes_said)
        | inr (inr profile) ↦ omega (arith, profile, range.2, profiles)
      ]

  -- the profiles
  profiles_said : (counts_in bytes).profiles ≡ length h.network.profiles
  profiles_said = ap (λ (c : Counts). c.profiles) (counts_again bytes h f)

  pieces_said : (counts_in bytes).pieces ≡ total h.network.profiles
  pieces_said = ap (λ (c : Counts). c.pieces) (counts_again bytes h f)

  module _ (profile : ℕ) (inside : profile < (counts_in bytes).profiles) where
    pieces : List Piece
    pieces = pieces_of h.network profile

    pieces_found : slice_get h.network.profiles profile ≡ Some pieces
    unfolding pieces
    pieces_found = pieces_there h.network profile (omega (arith, inside, profiles_said))

    pieces_valid : IsProfile pieces
    pieces_valid = all_at IsProfile h.network.profiles profile pieces f.sound.network.valid pieces_found

    kind_of_piece : (piece : ℕ) → profile_start bytes profile ≤ piece → piece < profile_start bytes (suc profile) → piece_kind bytes piece ≤ 2
    kind_of_piece piece low high =
        let item = item_at (profile_start bytes) h.network.profiles (profile_start_said bytes h f) profile pieces pieces_found piece low high in
        let row = piece_there bytes h f profile item.0 pieces item.1 pieces_found item.2 in
        subst (λ (n : ℕ). piece_kind bytes n ≤ 2) item.3 (rule_kind bytes _ item.1.from item.1.rule row)

    pieces_right : ArePiecesWrong bytes profile → ⊥
    pieces_right (inl falls) =
        let on = lead_on (profile_start bytes) h.network.profiles (profile_start_said bytes h f) profile pieces pieces_found in
        let some = some_piece pieces pieces_valid.starts in
        omega (arith, falls, on, some)
    pieces_right (inr (inl past)) =
        let within = lead_within (profile_start bytes) h.network.profiles (profile_start_said bytes h f) profile pieces pieces_found in
        omega (arith, past, within, pieces_said)
    pieces_right (inr (inr (inl (piece, low, high, kind)))) = let most = kind_of_piece piece low high in omega (arith, kind, most)
    pieces_right (inr (inr (inr off))) = off (subst IsProfile (sym (profile_again bytes h f profile pieces pieces_found)) pieces_valid)

  profiles_right : NoneWrong (IsWrongProfile bytes) (suc (counts_in bytes).profiles)
  profiles_right number inside (inl (same, other)) = other (profile_start_said bytes h f 0 (omega arith))
  profiles_right number inside (inr (inl (within, wrong))) = pieces_right number within wrong
  profiles_right number inside (inr (inr (same, other))) =
      let profiles = h.network.profiles in
      let count : number ≡ length profiles = same ∙ profiles_said in
      other (profile_start_said bytes h f number (omega (arith, count)) ∙ ap total (take_all number profiles (omega (arith, count))) ∙ sym pieces_said)

  -- the edges
  edges_right : NoneWrong (IsWrongRankUp bytes) (suc (counts_in bytes).nodes)
  edges_right rank inside =
      let own = none_wrong h f.sound rank in
      let uppers = subst (λ (xs : List ℕ). IsWrongPart h.network h.order (edge_starts h) xs rank → ⊥) (sym (uppers_again bytes h f)) own in
      let starts = subst (λ (xs : List ℕ). IsWrongPart h.network h.order xs (uppers_in bytes) rank → ⊥) (sym (starts_again bytes h f)) uppers in
      let order = subst (λ (o : OrderValue). IsWrongPart h.network o (edge_starts_in bytes) (uppers_in bytes) rank → ⊥) (sym (order_again bytes h f)) starts in
      subst (λ (g : NetworkValue). IsWrongPart g (order_in bytes) (edge_starts_in bytes) (uppers_in bytes) rank → ⊥) (sym (network_again bytes h f)) order

  pub graph_right : IsGraph bytes
  graph_right = record {
    roads = record {
      joined = record { ordered = record { sized = sized; ranks = ranks_right }; arcs = arcs_right };
      profiles = profiles_right;
    };
    ranks = edges_right;
  }

  -- the way lists
  edges_said : (counts_in bytes).edges ≡ length h.edges
  edges_said = ap (λ (c : Counts). c.edges) (counts_again bytes h f)

  entries_said : (counts_in bytes).entries ≡ total h.lists
  entries_said = ap (λ (c : Counts). c.entries) (counts_again bytes h f)

  module _ (list edge : ℕ) (dir : Dir) (inside : edge < (counts_in bytes).edges) (number : list ≡ list_number edge dir) where
    entries : List Entry
    entries = list_of h edge dir

    entries_found : slice_get h.lists list ≡ Some entries
    unfolding entries
    entries_found = subst (λ (n : ℕ). slice_get h.lists n ≡ Some (list_of h edge dir)) (sym number) (list_there h edge dir f.sound (omega (arith, inside, edges_said)))

    kind_of_entry : (entry : ℕ) → way_start bytes list ≤ entry → entry < way_start bytes (suc list) → entry_kind bytes entry ≤ 1
    kind_of_entry entry low high =
        let item = item_at (way_start bytes) h.lists (way_start_said bytes h f) list entries entries_found entry low high in
        let row = entry_there bytes h f list item.0 entries item.1 entries_found item.2 in
        subst (λ (n : ℕ). entry_kind bytes n ≤ 1) item.3 (way_kind bytes _ item.1.from item.1.way row)

    ways_formed : (ends : Ends) → slice_get (decoded bytes).edges edge ≡ Some ends → HasWrongWay bytes list ends dir → ⊥
    unfolding entries
    ways_formed ends at (entry, listed, off) =
        let there = subst (λ (k : HierarchyValue). slice_get k.edges edge ≡ Some ends) (decoded_again bytes h f) at in
        let formed = f.sound.formed edge dir ends there in
        let found = subst (λ (es : List Entry). Contains es entry) (list_again bytes h f list (list_of h edge dir) entries_found) listed in
        let way = subst (λ (e : Entry). IsWellFormed h (start_of ends dir) (end_of ends dir) e.way) found.2 (formed found.0 entry found.1) in
        off (subst (λ (k : HierarchyValue). IsWellFormed k (start_of ends dir) (end_of ends dir) entry.way) (sym (decoded_again bytes h f)) way)

    entries_right : AreEntriesWrong bytes list edge dir → ⊥
    entries_right (inl falls) =
        let on = lead_on (way_start bytes) h.lists (way_start_said bytes h f) list entries entries_found in
        omega (arith, falls, on)
    entries_right (inr (inl past)) =
        let within = lead_within (way_start bytes) h.lists (way_start_said bytes h f) list entries entries_found in
        omega (arith, past, within, entries_said)
    entries_right (inr (inr (inl (entry, low, high, kind)))) = let most = kind_of_entry entry low high in omega (arith, kind, most)
    entries_right (inr (inr (inr (inl off)))) = off (subst IsWayList (sym (list_again bytes h f list entries entries_found)) (all_at IsWayList h.lists list entries f.sound.spelled entries_found))
    entries_right (inr (inr (inr (inr (ends, at, wrong))))) = ways_formed ends at wrong

  pub lists_right : NoneWrong (IsWrongList bytes) (suc (2 * (counts_in bytes).edges))
  lists_right list inside (inl (same, other)) = other (way_start_said bytes h f 0 (omega arith))
  lists_right list inside (inr (inl (edge, dir, within, number, wrong))) = entries_right list edge dir within number wrong
  lists_right list inside (inr (inr (same, other))) =
      let count : list ≡ length h.lists = omega (arith, same, edges_said, f.sound.lists) in
      other (way_start_said bytes h f list (omega (arith, count)) ∙ ap total (take_all list h.lists (omega (arith, count))) ∙ sym entries_said)

  pub ways_right : HasWays bytes
  ways_right = record { graph = graph_right; lists = lists_right }

-- the bounds of a file of version 2
module _ (h : HierarchyValue) (f : IsHierarchy h) where
  own : SpellsSections (spelling h) h
  own = sections_spelled 2 h f (inr refl)

  pub bound_again : (edge : ℕ) (dir : Dir) → edge < length h.edges → bound_in (spelling h) (list_number edge dir) ≡ least_bound h edge dir
  bound_again edge dir inside =
      let near = bound_near h edge dir in
      let place = bounds_at (counts_of 2 h) in
      let there = stands_ith long 8 (λ n. refl) (spelling h) place (bounds_of h) (list_number edge dir) (least_bound h edge dir) (bounds_stand 2 h f) (bound_there h edge dir inside) in
      placed (spelling h) h own (λ (c : Counts). long_at (spelling h) (bounds_at c + 8 * list_number edge dir) ≡ least_bound h edge dir)
      (long_read (spelling h) (bounds_at (counts_of 2 h) + 8 * list_number edge dir) (least_bound h edge dir) there (omega (arith, near)))

  pub bounds_right : NoneWrong (IsWrongBound (spelling h)) (2 * (counts_in (spelling h)).edges)
  bounds_right list inside (edge, dir, within, number, other) =
      let many = ap (λ (c : Counts). c.edges) (counts_again (spelling h) h own) in
      other (ap (bound_in (spelling h)) number ∙ bound_again edge dir (omega (arith, within, many)) ∙ ap (λ (k : HierarchyValue). least_bound k edge dir) (sym (read_again h f)))

-- and so no check refuses a file
module _ (version : ℕ) (h : HierarchyValue) (f : IsHierarchy h) (known : IsVersion version) where
  file : SpellsSections (spelling_in version h) h
  file = sections_spelled version h f known

  whole : HasWays (spelling_in version h)
  whole = ways_right (spelling_in version h) h file

  sized_file : IsSized (spelling_in version h)
  sized_file = whole.graph.roads.joined.ordered.sized

  bounds_kept : (edge : ℕ) (dir : Dir) → version ≡ 2 → IsFirstWrong (IsWrongBound (spelling_in version h)) (2 * (counts_in (spelling_in version h)).edges) (list_number edge dir) → ⊥
  bounds_kept edge dir second first =
      let there = subst (λ (v : ℕ). IsFirstWrong (IsWrongBound (spelling_in v h)) (2 * (counts_in (spelling_in v h)).edges) (list_number edge dir)) second first in
      bounds_right h f (list_number edge dir) there.0 there.1

  pub not_refused_in : (refusal : PackRefusal) → refusal ≢ refused.NoMemory → IsRefusedIn version (spelling_in version h) refusal → ⊥
  not_refused_in refused.Short room short = let long = sized_file.limited.sealed.whole.version.ours.long in omega (arith, short, long)
  not_refused_in refused.Magic room wrong = wrong.1 (magic_stands (spelling_in version h) h file)
  not_refused_in (refused.Version found) room (ours, same, other) = other (same ∙ version_said version h known f)
  not_refused_in (refused.Length said found) room (is, ours, one, two, other) = other (one ∙ sized_file.limited.sealed.whole.said ∙ sym two)
  not_refused_in refused.Digest room (is, before, wrong) = wrong sized_file.limited.sealed.digest
  not_refused_in (refused.Limit field) room (is, before, rest, past) = limits_kept (spelling_in version h) field sized_file.limited.limits past
  not_refused_in (refused.Size counted found) room (is, limited, one, two, other) = other (one ∙ sized_file.size ∙ sym two)
  not_refused_in (refused.Order rank) room (is, before, first) = whole.graph.roads.joined.ordered.ranks rank first.0 first.1
  not_refused_in (refused.RoadArc arc) room (is, before, first) = whole.graph.roads.joined.arcs arc first.0 first.1
  not_refused_in (refused.Profile number) room (is, before, first) = whole.graph.roads.profiles number first.0 first.1
  not_refused_in (refused.Graph rank) room (is, before, first) = whole.graph.ranks rank first.0 first.1
  not_refused_in (refused.Ways edge dir) room (is, before, first) = whole.lists (list_number edge dir) first.0 first.1
  not_refused_in (refused.Bound edge dir) room (second, is, before, first) = bounds_kept edge dir second first
  not_refused_in refused.NoMemory room wrong = room refl

pub not_refused : (h : HierarchyValue) → IsHierarchy h → (refusal : PackRefusal) → refusal ≢ refused.NoMemory → IsRefused (spelling h) refusal → ⊥
not_refused h f refusal room wrong = not_refused_in 2 h f (inr refl) refusal room wrong
