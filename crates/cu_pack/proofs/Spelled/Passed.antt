-- What bytes that pass every check say is a hierarchy.
use Rattle.std.proofs.Common.{◌<◌, ◌*◌, ℕ, suc, List, get_or, map, refl, sym, subst, arith, inl, inr}
use Rattle.std.specs.Prelude.{All}
use Rattle.std.specs.List.{range_with_len}
use Rattle.std.proofs.lemmas.List.{get_or_default}
use Rattle.std.proofs.lemmas.List.FromFn.{get_or-map-range_with_len, length-map-range_with_len}
use Rattle.std.proofs.lemmas.Option.{slice_get_within}
use Rattle.cu_model.specs.declared.roads.RoadArc.{RoadArc}
use Rattle.cu_model.specs.Networks.{IsArcInRange, IsNetwork}
use Rattle.cu_model.specs.Profiles.{IsProfile}
use Rattle.cu_interval.specs.declared.ways.Entry.{Entry}
use Rattle.cu_interval.specs.Hierarchies.{EachList, IsHierarchy, IsWellFormed, end_of, list_number, start_of}
use Rattle.cu_interval.specs.WayLists.{IsWayList}
use Rattle.cu_pack.specs.Checks.{HasRoads, IsGraph, IsWrongArc, IsWrongList, NoneWrong}
use Rattle.cu_pack.specs.Reading.{arc_in, counts_in, decoded, list_in, network_in, order_in, profile_in}
use Rattle.cu_pack.proofs.Viewed.Adopted.{AreEdges, edges_known}
use Rattle.cu_pack.proofs.Read.Laid.{list_spelled, profile_valid, right_entries}
use Rattle.cu_pack.proofs.Spelled.Ordered.{ordered, shorts_count}
use Rattle.cu_pack.proofs.Numbering.Unrefuted.{less_else, well_formed_unrefuted}
use Rattle.cu_pack.proofs.Read.WayEntries.{list_read}

-- a fact of what is made of each number
all_counted : {X : Type 0} (P : X → Type 0) (made : ℕ → X) (count : ℕ) → ((k : ℕ) → k < count → P (made k)) → All P (map made (range_with_len 0 count))
all_counted P made count each k d h =
    let long = length-map-range_with_len made 0 count in
    let lt : k < count = omega (arith, long, h) in
    subst P (sym (get_or-map-range_with_len made 0 count k k d lt (omega arith))) (each k lt)

module _ (bytes : List ℕ) (f : HasRoads bytes) where
  -- the network that the bytes say
  arc_inside : (arc : ℕ) → arc < (counts_in bytes).arcs → IsArcInRange (network_in bytes) (arc_in bytes arc)
  unfolding network_in
  arc_inside arc inside =
      let road : RoadArc = arc_in bytes arc in
      let nodes : ℕ = (counts_in bytes).nodes in
      let profiles : ℕ = (counts_in bytes).profiles in
      let right : IsWrongArc bytes arc → ⊥ = f.joined.arcs arc inside in
      let many = length-map-range_with_len (profile_in bytes) 0 profiles in
      let profile : road.profile < profiles = less_else road.profile profiles (λ wrong. right (inr (inr wrong))) in (
        less_else road.tail nodes (λ wrong. right (inl wrong)),
        less_else road.head nodes (λ wrong. right (inr (inl wrong))),
        omega (arith, profile, many),
      )

  pub network_valid : IsNetwork (network_in bytes)
  unfolding network_in
  network_valid =
      let counts = counts_in bytes in
      let limits = f.joined.ordered.sized.limited.limits in
      let arcs = length-map-range_with_len (arc_in bytes) 0 counts.arcs in
      let profiles = length-map-range_with_len (profile_in bytes) 0 counts.profiles in
      record {
        few_nodes = limits.nodes;
        few_arcs = omega (arith, arcs, limits.arcs);
        few_profiles = omega (arith, profiles, limits.profiles);
        in_range = all_counted (IsArcInRange (network_in bytes)) (arc_in bytes) counts.arcs arc_inside;
        valid = all_counted IsProfile (profile_in bytes) counts.profiles (profile_valid bytes f.profiles);
      }

module _ (bytes : List ℕ) (f : IsGraph bytes) (none : NoneWrong (IsWrongList bytes) (suc (2 * (counts_in bytes).edges))) where
  -- the edges, and the way lists of each
  pub edges_right : AreEdges bytes (decoded bytes).edges
  unfolding decoded
  edges_right = edges_known bytes f

  ways_formed : EachList (decoded bytes) (λ u v entries. All (λ (entry : Entry). IsWellFormed (decoded bytes) u v entry.way) entries)
  ways_formed edge dir ends at =
      let number : ℕ = list_number edge dir in
      let u : ℕ = start_of ends dir in
      let v : ℕ = end_of ends dir in
      let entries : List Entry = list_in bytes number in
      let inside : edge < (counts_in bytes).edges = omega (arith, slice_get_within (decoded bytes).edges edge ends at, edges_right.count) in
      subst (All (λ (entry : Entry). IsWellFormed (decoded bytes) u v entry.way)) (sym (list_read bytes edge dir inside)) (λ k d h.
      let entry : Entry = get_or entries k d in
      well_formed_unrefuted (decoded bytes) u v entry.way (λ off.
      right_entries bytes none number edge dir inside refl (inr (inr (inr (inr (ends, at, (entry, (k, h, get_or_default entries k entry d h), off))))))))

  -- what the bytes say is a hierarchy
  pub hierarchy_sound : IsHierarchy (decoded bytes)
  unfolding decoded network_in order_in
  hierarchy_sound =
      let counts = counts_in bytes in
      let order = f.roads.joined.ordered in
      let many = length-map-range_with_len (list_in bytes) 0 (2 * counts.edges) in
      record {
        network = network_valid bytes f.roads;
        order = ordered bytes order.ranks order.sized.limited.limits.nodes;
        same = shorts_count bytes 52 counts.nodes;
        graph = edges_right.chordal;
        edges = edges_right.listed;
        lists = omega (arith, many, edges_right.count);
        spelled = all_counted IsWayList (list_in bytes) (2 * counts.edges) (list_spelled bytes none);
        formed = ways_formed;
      }
