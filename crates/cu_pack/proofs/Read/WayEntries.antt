-- Way lists read entry by entry: which ways are well formed, and which lists are wrong.
use Rattle.std.proofs.Common.{◌≡◌, ◌≢◌, ◌≤◌, ◌<◌, ◌+◌, ◌-◌, ◌*◌, ◌∙◌, ℕ, suc, Bool, true, false, List, [], ◌∷◌, Option, Some, length, get_or, refl, sym, ap, subst, arith, inl, inr}
use Rattle.std.proofs.Common.{ltb, if◌then◌else◌, IsTrue}
use Rattle.std.specs.Prelude.{◌↔◌, slice_get}
use Rattle.std.proofs.lemmas.Bool.{cases_eq}
use Rattle.std.proofs.lemmas.List.FromFn.{get_or-map-range_with_len, length-map-range_with_len}
use Rattle.std.proofs.lemmas.Option.{same_Some, slice_get_within}
use Rattle.cu_model.specs.Days.{day}
use Rattle.cu_model.specs.Roads.{is_closed_arc}
use Rattle.cu_model.proofs.RoadLaws.{all_at, links_within}
use Rattle.cu_chordal.specs.declared.graph.Ends.{Ends}
use Rattle.cu_chordal.proofs.Members.{member_at}
use Rattle.cu_interval.specs.declared.ways.Dir.{Dir}
use Rattle.cu_interval.specs.declared.ways.Dir.TheVariants.{Up, Down}
use Rattle.cu_interval.specs.declared.ways.Way.TheVariants.{Road}
use Rattle.cu_interval.specs.declared.ways.Entry.{Entry}
use Rattle.cu_interval.specs.Hierarchies.{HierarchyValue, IsWellFormed, end_of, entries_or_none, list_from, list_number, list_of, list_of_some, number_from, start_of}
use Rattle.cu_interval.specs.Low.{LeadsRanks}
use Rattle.cu_interval.specs.WayLists.{BeginsAtZero, IsWayList, Turns}
use Rattle.cu_interval.proofs.Lookups.{number_finds}
use Rattle.cu_interval.proofs.EndsLaws.{number_within}
use Rattle.cu_pack.specs.Checks.{AreEntriesWrong, HasRoads, IsGraph, IsWrongArc}
use Rattle.cu_pack.specs.Layouts.{rank_of_at}
use Rattle.cu_pack.specs.Places.{short_at}
use Rattle.cu_pack.specs.Reading.{arc_in, counts_in, decoded, list_in, network_in, order_in, rank_of_in, way_start}
use Rattle.cu_pack.specs.Steps.Entries.{HasWay, HasWrongEntry, IsOutOfTurn, entry_at}
use Rattle.cu_pack.proofs.Numbering.Columns.{made_there}
use Rattle.cu_pack.proofs.Read.Driven.{arc_there, arcs_long}
use Rattle.cu_pack.proofs.Read.EdgesRead.{known}
use Rattle.cu_pack.proofs.Numbering.Unrefuted.{leads_from, less_else}

begins_first : (entries : List Entry) (entry : Entry) → BeginsAtZero entries → slice_get entries 0 ≡ Some entry → entry.from ≡ 0
begins_first [] entry f e = absurd (cc e)
begins_first (x ∷ xs) entry f e = let same : x ≡ entry = cc e in ap (λ (y : Entry). y.from) (sym same) ∙ f

begins_where : (entries : List Entry) → ((entry : Entry) → slice_get entries 0 ≡ Some entry → entry.from ≡ 0) → BeginsAtZero entries
begins_where [] f = tt
begins_where (x ∷ xs) f = f x refl

empty_long : (entries : List Entry) → (entries ≢ []) → 0 < length entries
empty_long [] f = absurd (f refl)
empty_long (x ∷ xs) f = omega arith

long_some : (entries : List Entry) → 0 < length entries → entries ≢ []
long_some entries f e = let none : length entries ≡ 0 = ap length e in omega (arith, f, none)

module _ (bytes : List ℕ) where
  pub rank_there : (node : ℕ) → node < (counts_in bytes).nodes → slice_get (order_in bytes).rank_of node ≡ Some (rank_of_in bytes node)
  unfolding order_in
  rank_there node inside = made_there (λ index. short_at bytes (rank_of_at (counts_in bytes) + 4 * index)) 0 (counts_in bytes).nodes node inside
      ∙ ap (λ (k : ℕ). Some (rank_of_in bytes k)) (omega arith)

  -- the entries of a list
  pub entries_long : (list : ℕ) → length (list_in bytes list) ≡ way_start bytes (suc list) - way_start bytes list
  entries_long list = length-map-range_with_len (entry_at bytes) (way_start bytes list) (way_start bytes (suc list) - way_start bytes list)

  entry_there : (list index : ℕ) → index < length (list_in bytes list) → slice_get (list_in bytes list) index ≡ Some (entry_at bytes (way_start bytes list + index))
  entry_there list index inside = made_there (entry_at bytes) (way_start bytes list) (way_start bytes (suc list) - way_start bytes list) index (omega (arith, inside, entries_long list))

  entry_read : (list index : ℕ) (d : Entry) → index < length (list_in bytes list) → get_or (list_in bytes list) index d ≡ entry_at bytes (way_start bytes list + index)
  entry_read list index d inside =
      get_or-map-range_with_len (entry_at bytes) (way_start bytes list) (way_start bytes (suc list) - way_start bytes list) index (way_start bytes list + index) d
      (omega (arith, inside, entries_long list)) (omega arith)

  module _ (f : HasRoads bytes) (arc : ℕ) (inside : arc < (counts_in bytes).arcs) where
    right : IsWrongArc bytes arc → ⊥
    right = f.joined.arcs arc inside

    pub tail_inside : (arc_in bytes arc).tail < (counts_in bytes).nodes
    tail_inside = less_else (arc_in bytes arc).tail (counts_in bytes).nodes (λ wrong. right (inl wrong))

    pub head_inside : (arc_in bytes arc).head < (counts_in bytes).nodes
    head_inside = less_else (arc_in bytes arc).head (counts_in bytes).nodes (λ wrong. right (inr (inl wrong)))

    -- a road leads from one rank to another where its ends have these and it is open
    pub leads_where : (from to : ℕ) → rank_of_in bytes (arc_in bytes arc).tail ≡ from → rank_of_in bytes (arc_in bytes arc).head ≡ to
        → is_closed_arc (network_in bytes) arc ≡ false → LeadsRanks (network_in bytes) (order_in bytes) arc from to
    leads_where from to low high driven = (
      (arc_in bytes arc).tail,
      (arc_in bytes arc).head,
      ((arc_in bytes arc, arc_there bytes arc inside, refl, refl), driven),
      rank_there (arc_in bytes arc).tail tail_inside ∙ ap Some low,
      rank_there (arc_in bytes arc).head head_inside ∙ ap Some high,
    )

    pub leads_what : (from to : ℕ) → LeadsRanks (network_in bytes) (order_in bytes) arc from to
        → (is_closed_arc (network_in bytes) arc ≡ false) × (rank_of_in bytes (arc_in bytes arc).tail ≡ from) × (rank_of_in bytes (arc_in bytes arc).head ≡ to)
    leads_what from to leads =
        let (driven, low, high) = leads_from (network_in bytes) (order_in bytes) arc from to (arc_in bytes arc) (arc_there bytes arc inside) leads in (
          driven,
          same_Some _ from (sym (rank_there (arc_in bytes arc).tail tail_inside) ∙ low),
          same_Some _ to (sym (rank_there (arc_in bytes arc).head head_inside) ∙ high),
        )

  pub road_formed : (arc u v : ℕ) → LeadsRanks (network_in bytes) (order_in bytes) arc u v ↔ IsWellFormed (decoded bytes) u v (Road arc)
  unfolding decoded
  road_formed arc u v = (λ x. x, λ x. x)

  pub leads_inside : (arc from to : ℕ) → LeadsRanks (network_in bytes) (order_in bytes) arc from to → arc < (counts_in bytes).arcs
  leads_inside arc from to leads =
      let within = links_within (network_in bytes) arc leads.0 leads.1 leads.2.0 in
      omega (arith, within, arcs_long bytes)

  pub list_read : (edge : ℕ) (dir : Dir) → edge < (counts_in bytes).edges → list_of (decoded bytes) edge dir ≡ list_in bytes (list_number edge dir)
  unfolding decoded
  list_read edge dir inside =
      ap entries_or_none (made_there (list_in bytes) 0 (2 * (counts_in bytes).edges) (list_number edge dir) (number_within edge (counts_in bytes).edges dir inside)
      ∙ ap (λ (k : ℕ). Some (list_in bytes k)) (omega arith))

  module _ (f : IsGraph bytes) where
    pub number_inside : (edge : ℕ) (ends : Ends) → slice_get (decoded bytes).edges edge ≡ Some ends → edge < (counts_in bytes).edges
    number_inside edge ends there = let within = slice_get_within (decoded bytes).edges edge ends there in omega (arith, within, (known bytes f).count)

    -- the ends of an edge
    pub ends_inside : (edge : ℕ) (ends : Ends) → slice_get (decoded bytes).edges edge ≡ Some ends → (ends.low < ends.high) × (ends.high < (counts_in bytes).nodes)
    ends_inside edge ends there = all_at (λ (e : Ends). (e.low < e.high) × (e.high < (counts_in bytes).nodes)) (decoded bytes).edges edge ends (known bytes f).chordal.in_range there

    pub start_inside : (edge : ℕ) (ends : Ends) (dir : Dir) → slice_get (decoded bytes).edges edge ≡ Some ends → start_of ends dir < (counts_in bytes).nodes
    start_inside edge ends Up there = let inside = ends_inside edge ends there in omega (arith, inside.0, inside.1)
    start_inside edge ends Down there = (ends_inside edge ends there).1

    -- the list between the ends of an edge
    list_between : (edge : ℕ) (dir : Dir) (low high : ℕ) → low < high → slice_get (decoded bytes).edges edge ≡ Some (record { low = low; high = high })
        → list_from (decoded bytes) (start_of (record { low = low; high = high }) dir) (end_of (record { low = low; high = high }) dir) ≡ list_in bytes (list_number edge dir)
    list_between edge Up low high less there =
        let h : HierarchyValue = decoded bytes in
        let test : ltb low high ≡ true = grind (arith, less) in
        let number : number_from 0 h.edges low high ≡ Some edge = number_finds h.edges (known bytes f).chordal.rising low high (Some edge) there in
        ap (λ (b : Bool). if b then list_of_some h (number_from 0 h.edges low high) Up else list_of_some h (number_from 0 h.edges high low) Down) test
        ∙ ap (λ (o : Option ℕ). list_of_some h o Up) number ∙ list_read edge Up (number_inside edge (record { low = low; high = high }) there)
    list_between edge Down low high less there =
        let h : HierarchyValue = decoded bytes in
        let test : ltb high low ≡ false = grind (arith, less) in
        let number : number_from 0 h.edges low high ≡ Some edge = number_finds h.edges (known bytes f).chordal.rising low high (Some edge) there in
        ap (λ (b : Bool). if b then list_of_some h (number_from 0 h.edges high low) Up else list_of_some h (number_from 0 h.edges low high) Down) test
        ∙ ap (λ (o : Option ℕ). list_of_some h o Down) number ∙ list_read edge Down (number_inside edge (record { low = low; high = high }) there)

    -- an edge that is there has a way where its list has entries
    pub way_where : (edge : ℕ) (dir : Dir) (ends : Ends) → ends.low < ends.high → slice_get (decoded bytes).edges edge ≡ Some ends
        → way_start bytes (list_number edge dir) < way_start bytes (suc (list_number edge dir)) → HasWay bytes ends dir
    way_where edge dir ends less there more = (
      member_at (decoded bytes).edges ends edge there,
      let between = list_between edge dir ends.low ends.high less there in
          let long = entries_long (list_number edge dir) in
          subst (λ (xs : List Entry). xs ≢ []) (sym between) (long_some (list_in bytes (list_number edge dir)) (omega (arith, long, more))),
    )

    pub way_what : (edge : ℕ) (dir : Dir) (ends : Ends) → ends.low < ends.high → slice_get (decoded bytes).edges edge ≡ Some ends → HasWay bytes ends dir
        → way_start bytes (list_number edge dir) < way_start bytes (suc (list_number edge dir))
    way_what edge dir ends less there has =
        let between = list_between edge dir ends.low ends.high less there in
        let some = empty_long (list_in bytes (list_number edge dir)) (subst (λ (xs : List Entry). xs ≢ []) between has.1) in
        omega (arith, entries_long (list_number edge dir), some)

  -- a list whose entries are in order is wrong where one of them is
  module _ (list edge : ℕ) (dir : Dir) (ends : Ends) (there : slice_get (decoded bytes).edges edge ≡ Some ends) where
    out_of_turn : (entry : ℕ) → way_start bytes list ≤ entry → entry < way_start bytes (suc list) → IsOutOfTurn bytes (way_start bytes list) entry → IsWayList (list_in bytes list) → ⊥
    out_of_turn entry low high (inl past) valid =
        let long = entries_long list in
        let index : ℕ = entry - way_start bytes list in
        let inside : index < length (list_in bytes list) = omega (arith, long, low, high) in
        let place : way_start bytes list + index ≡ entry = omega (arith, low) in
        let within = valid.within index (entry_at bytes entry) inside in
        let read = ap (λ (x : Entry). x.from) (entry_read list index (entry_at bytes entry) inside ∙ ap (entry_at bytes) place) in
        omega (arith, within, read, past)
    out_of_turn entry low high (inr (inl (first, other))) valid =
        let long = entries_long list in
        let inside : 0 < length (list_in bytes list) = omega (arith, long, low, high) in
        let place : way_start bytes list + 0 ≡ entry = omega (arith, first) in
        other (begins_first (list_in bytes list) (entry_at bytes entry) valid.begins (entry_there list 0 inside ∙ ap (λ k. Some (entry_at bytes k)) place))
    out_of_turn entry low high (inr (inr (later, off))) valid =
        let long = entries_long list in
        let index : ℕ = entry - 1 - way_start bytes list in
        let next : index + 1 < length (list_in bytes list) = omega (arith, long, later, high) in
        let here : way_start bytes list + index ≡ entry - 1 = omega (arith, later) in
        let there : way_start bytes list + (index + 1) ≡ entry = omega (arith, later) in
        let one = entry_read list index (entry_at bytes entry) (omega (arith, next)) ∙ ap (entry_at bytes) here in
        let two = entry_read list (index + 1) (entry_at bytes entry) next ∙ ap (entry_at bytes) there in
        off (subst (λ (x : Entry). Turns (entry_at bytes (entry - 1)) x) two (subst (λ (x : Entry). Turns x (get_or (list_in bytes list) (index + 1) (entry_at bytes entry))) one
        (valid.turns index (entry_at bytes entry) next)))

    pub wrong_entry : HasWrongEntry bytes (way_start bytes list) (way_start bytes (suc list)) (start_of ends dir) (end_of ends dir) → AreEntriesWrong bytes list edge dir
    wrong_entry (entry, low, high, inl kind) = inr (inr (inl (entry, low, high, kind)))
    wrong_entry (entry, low, high, inr (inl turn)) = inr (inr (inr (inl (out_of_turn entry low high turn))))
    wrong_entry (entry, low, high, inr (inr off)) =
        let long = entries_long list in
        let index : ℕ = entry - way_start bytes list in
        let inside : index < length (list_in bytes list) = omega (arith, long, low, high) in
        let place : way_start bytes list + index ≡ entry = omega (arith, low) in
        let read = entry_read list index (entry_at bytes entry) inside ∙ ap (entry_at bytes) place in
        inr (inr (inr (inr (ends, there, (entry_at bytes entry, (index, inside, read), off)))))

    module _ (none : HasWrongEntry bytes (way_start bytes list) (way_start bytes (suc list)) (start_of ends dir) (end_of ends dir) → ⊥) where
      in_turn : (index : ℕ) → index < length (list_in bytes list) → IsOutOfTurn bytes (way_start bytes list) (way_start bytes list + index) → ⊥
      in_turn index inside out =
          let long = entries_long list in
          none (way_start bytes list + index, omega arith, omega (arith, long, inside), inr (inl out))

      way_list : IsWayList (list_in bytes list)
      way_list = record {
        begins = begins_where (list_in bytes list) (λ entry first.
            let inside = slice_get_within (list_in bytes list) 0 entry first in
            let same : entry_at bytes (way_start bytes list + 0) ≡ entry = same_Some _ entry (sym (entry_there list 0 inside) ∙ first) in
            elim (cases_eq (entry_at bytes (way_start bytes list + 0)).from 0) [
              | inl zero ↦ ap (λ (x : Entry). x.from) (sym same) ∙ zero
              | inr other ↦ absurd (in_turn 0 inside (inr (inl (omega arith, other))))
            ]);
        within = λ index d inside.
            let read = ap (λ (x : Entry). x.from) (entry_read list index d inside) in
            let less = less_else (entry_at bytes (way_start bytes list + index)).from day (λ past. in_turn index inside (inl past)) in
            omega (arith, read, less);
        turns = λ index d next.
            let one = entry_read list index d (omega (arith, next)) in
            let two = entry_read list (index + 1) d next in
            let before : way_start bytes list + (index + 1) - 1 ≡ way_start bytes list + index = omega arith in
            let turned : (Turns (entry_at bytes (way_start bytes list + index)) (entry_at bytes (way_start bytes list + (index + 1))) → ⊥) → ⊥ = λ off.
            in_turn (index + 1) next (inr (inr (omega arith, λ t. off (subst (λ k. Turns (entry_at bytes k) (entry_at bytes (way_start bytes list + (index + 1)))) before t)))) in
            let both : Turns (entry_at bytes (way_start bytes list + index)) (entry_at bytes (way_start bytes list + (index + 1))) = (
              less_else _ _ (λ falls. turned (λ t. let rises = t.0 in omega (arith, rises, falls))),
              λ same. turned (λ t. t.1 same),
            ) in
            subst (λ (x : Entry). Turns (get_or (list_in bytes list) index d) x) (sym two)
            (subst (λ (x : Entry). Turns x (entry_at bytes (way_start bytes list + (index + 1)))) (sym one) both);
      }

      -- where no entry is wrong the list isn't
      pub no_wrong_entry : way_start bytes list ≤ way_start bytes (suc list) → way_start bytes (suc list) ≤ (counts_in bytes).entries → AreEntriesWrong bytes list edge dir → ⊥
      no_wrong_entry order within (inl falls) = absurd (omega (arith, order, falls))
      no_wrong_entry order within (inr (inl past)) = absurd (omega (arith, within, past))
      no_wrong_entry order within (inr (inr (inl (entry, low, high, kind)))) = none (entry, low, high, inl kind)
      no_wrong_entry order within (inr (inr (inr (inl off)))) = off way_list
      no_wrong_entry order within (inr (inr (inr (inr (others, at, (entry, (index, inside, read), off)))))) =
          let same : others ≡ ends = same_Some others ends (sym at ∙ there) in
          let is : entry_at bytes (way_start bytes list + index) ≡ entry = sym (entry_read list index entry inside) ∙ read in
          let long = entries_long list in
          none (
            way_start bytes list + index,
            omega arith,
            omega (arith, long, inside),
            inr (inr (λ formed.
                off (subst (λ (e : Ends). IsWellFormed (decoded bytes) (start_of e dir) (end_of e dir) entry.way) (sym same)
                (subst (λ (x : Entry). IsWellFormed (decoded bytes) (start_of ends dir) (end_of ends dir) x.way) is formed)))),
          )

true_unless : (b : Bool) → ((IsTrue b → ⊥) → ⊥) → IsTrue b
true_unless true f = refl
true_unless false f = absurd (f (λ h. absurd (cc h)))

-- the test of the entries tests the list
pub entries_decided : (bytes : List ℕ) (edge : ℕ) (dir : Dir) (ends : Ends) (list start end from to : ℕ) (b : Bool) → slice_get (decoded bytes).edges edge ≡ Some ends
    → list ≡ list_number edge dir → start ≡ way_start bytes list → end ≡ way_start bytes (list + 1) → from ≡ start_of ends dir → to ≡ end_of ends dir
    → start ≤ end → end ≤ (counts_in bytes).entries → (IsTrue b ↔ HasWrongEntry bytes start end from to) → IsTrue b ↔ AreEntriesWrong bytes (list_number edge dir) edge dir
entries_decided bytes edge dir ends list start end from to b there number start_is end_is from_is to_is order within test =
    let own : ℕ = list_number edge dir in
    let first : start ≡ way_start bytes own = start_is ∙ ap (way_start bytes) number in
    let next : list + 1 ≡ suc own = omega (arith, number) in
    let last : end ≡ way_start bytes (suc own) = end_is ∙ ap (way_start bytes) next in
    let tested : IsTrue b ↔ HasWrongEntry bytes (way_start bytes own) (way_start bytes (suc own)) (start_of ends dir) (end_of ends dir) =
    subst (λ (k : ℕ). IsTrue b ↔ HasWrongEntry bytes (way_start bytes own) (way_start bytes (suc own)) (start_of ends dir) k) to_is
    (subst (λ (k : ℕ). IsTrue b ↔ HasWrongEntry bytes (way_start bytes own) (way_start bytes (suc own)) k to) from_is
    (subst (λ (k : ℕ). IsTrue b ↔ HasWrongEntry bytes (way_start bytes own) k from to) last
    (subst (λ (k : ℕ). IsTrue b ↔ HasWrongEntry bytes k end from to) first test))) in (
      λ h. wrong_entry bytes own edge dir ends there (tested.0 h),
      λ wrong. true_unless b (λ off. no_wrong_entry bytes own edge dir ends there (λ has. off (tested.1 has)) (omega (arith, order, first, last)) (omega (arith, within, last)) wrong),
    )
