-- The list of an edge that is settled next: it stands, or it is the settled one of what is known.
use Rattle.std.proofs.Common.{◌≡◌, ◌≢◌, ◌≤◌, ◌<◌, ◌+◌, ◌^◌, ◌∙◌, ◌⊎◌, ℕ, zero, suc, Bool, List, [], Option, Some, None, refl, ap, sym, subst, arith, inl, inr, length, min, get_or, true, false, IsSome, if◌then◌else◌}
use Rattle.std.specs.Prelude.{All, slice_get}
use Rattle.std.proofs.lemmas.List.Elements.{All-contains}
use Rattle.std.proofs.lemmas.Option.{slice_get-get_or, slice_get_within}
use Rattle.cu_model.specs.Days.{day}
use Rattle.cu_model.specs.Networks.{NetworkValue}
use Rattle.cu_model.specs.Roads.{arc_value, is_closed_arc}
use Rattle.cu_model.proofs.RoadLaws.{all_at}
use Rattle.cu_model.proofs.OptionLaws.{none_some}
use Rattle.cu_arrival.specs.declared.runs.Run.{Run}
use Rattle.cu_arrival.specs.Runs.{arrival_value}
use Rattle.cu_chordal.specs.declared.graph.Ends.{Ends}
use Rattle.cu_chordal.specs.Edges.{LinksRanks}
use Rattle.cu_chordal.specs.Graphs.{ChordalValue, HasEdge}
use Rattle.cu_interval.specs.declared.ways.Dir.{Dir}
use Rattle.cu_interval.specs.declared.ways.Dir.TheVariants.{Up, Down}
use Rattle.cu_interval.specs.declared.ways.Way.{Way}
use Rattle.cu_interval.specs.declared.ways.Way.TheVariants.{Road, Via}
use Rattle.cu_interval.specs.declared.ways.Entry.{Entry}
use Rattle.cu_interval.specs.EdgeArcs.{AreArcsFrom}
use Rattle.cu_interval.specs.Hierarchies.{HierarchyValue, IsWellFormed, end_of, list_number, list_of, start_of}
use Rattle.cu_interval.specs.LeastBounds.{bound_from, far, least_bound}
use Rattle.cu_interval.specs.Resettling.{ArrivesIn, IsCandidateIn, IsResettledList}
use Rattle.cu_interval.specs.WayLists.{GoesFirst, IsFirstEarliest}
use Rattle.cu_interval.proofs.Lookups.{way_held}
use Rattle.cu_interval.proofs.Unpacked.{way_there}
use Rattle.cu_interval.proofs.EndsLaws.{ends_rise, number_within}
use Rattle.cu_customize.specs.Functions.{FunctionsState, kept_state, road_if}
use Rattle.cu_runs.specs.Layers.{value_kept, layered}
use Rattle.cu_customize.specs.Settling.{ArrivesBy, IsCandidateBy, IsDayValueOf, IsSettledList, function_from}
use Rattle.cu_runs.proofs.Layers.{layered_newer, layered_older}
use Rattle.cu_unpack.specs.RebuiltRuns.{IsKnownList, IsRebuiltRuns, PackedValue}
use Rattle.cu_edits.specs.Customized.{AreCustomized}
use Rattle.cu_edits.specs.Settling.{HasFinalSides, IsLowerSide, SettlingValue, settled_so_far}
use Rattle.cu_edits.specs.Steps.Bounds.{HalvesTakeMore, SomeTakeNoMore}
use Rattle.cu_edits.specs.Steps.Packed.{IsAtHand, IsSettlingPacked, IsWayAtHand, functions_at_hand}
use Rattle.cu_edits.specs.Steps.Frames.{IsFramed, LeadsOver}
use Rattle.cu_edits.specs.Steps.Known.{values_of}
use Rattle.cu_edits.specs.Steps.Moving.{HalvesAre, IsUnmoved, IsUnmovedWay, LeadsUpTo, MayStand, MovedValue, SayValue, StandingPair}
use Rattle.cu_edits.proofs.Frames.{candidates_alone, runs_alike, via_same}
use Rattle.cu_edits.proofs.Halves.{HasValues, IsHalf, KnowsWay, arrives_by, arrives_in, by_ranks, candidate_by, candidate_in, function_at}
use Rattle.cu_edits.proofs.SettledOnce.{listed}
use Rattle.cu_edits.proofs.SettledValues as values
use Rattle.cu_edits.proofs.Sides.{halves_at, edge_down, edge_up, list_at, over}
use Rattle.cu_edits.proofs.StandingChoices as standing
use Rattle.cu_resettled.proofs.Unchanged.{leads_joins}
use Rattle.cu_edits.proofs.RebuiltBounds.{bound_of_ends, middle_takes}
use Rattle.cu_edits.proofs.PackedStay.{packed_stay}
use Rattle.cu_resettled.specs.ResettlingAll.{IsChangedBySome, edited_all}
use Rattle.cu_resettled.proofs.TouchedBySome.{all_alike}

pub packed_values : (h : HierarchyValue) (edge : ℕ) (dir : Dir) (function : Option (List Run)) → IsRebuiltRuns h edge dir function → HasValues h edge dir function
packed_values h edge dir None is = is
packed_values h edge dir (Some packed) (some, is, onward, values) = (some, values)

kept_values : (function : Option (List Run)) → value_kept (Some function) ≡ values_of function
kept_values None = refl
kept_values (Some packed) = refl

road_same : (g : NetworkValue) (a : ℕ) (closed : Bool) → road_if closed g a ≡ (if closed then None else Some (arc_value g a))
road_same g a true = refl
road_same g a false = refl

-- which of three ways goes first
first_of_three : (x y z : Way) → (x ≡ y) ⊎ GoesFirst x y → (y ≡ z) ⊎ GoesFirst y z → (x ≡ z) ⊎ GoesFirst x z
first_of_three x y z (inl same) second = subst (λ (w : Way). (w ≡ z) ⊎ GoesFirst w z) (sym same) second
first_of_three x y z (inr first) (inl same) = subst (λ (w : Way). (x ≡ w) ⊎ GoesFirst x w) same (inr first)
first_of_three (Road a) (Road b) (Road c) (inr first) (inr second) = inr (omega (arith, first, second))
first_of_three (Road a) (Road b) (Via m) (inr first) (inr second) = inr tt
first_of_three (Road a) (Via m) (Via n) (inr first) (inr second) = inr tt
first_of_three (Road a) (Via m) (Road b) (inr first) (inr second) = absurd second
first_of_three (Via m) (Road a) z (inr first) (inr second) = absurd first
first_of_three (Via m) (Via n) (Road a) (inr first) (inr second) = absurd second
first_of_three (Via m) (Via n) (Via k) (inr first) (inr second) = inr (omega (arith, first, second))

module _ (s : SettlingValue) (graph : ChordalValue) (arcs : List (List ℕ)) (packed : PackedValue) (moved : MovedValue) (holds : IsSettlingPacked s graph arcs packed moved) (edge : ℕ) (dir : Dir)
    (sides : HasFinalSides s edge) (ends : Ends) (at : slice_get s.before.edges edge ≡ Some ends) (low : moved.low ≤ ends.low) where
  abbrev pub now : HierarchyValue
  now = settled_so_far s

  abbrev pub u : ℕ
  u = start_of ends dir

  abbrev pub v : ℕ
  v = end_of ends dir

  -- the list before the edit
  abbrev pub old : List Entry
  old = list_of s.before edge dir

  -- ways lead to none but lists that stand
  abbrev pub AreFramed : List Entry → Type 0
  AreFramed es = All (λ (entry : Entry). IsFramed s.before now (StandingPair s moved) u v entry.way) es

  leads : LeadsOver s.before.edges edge dir u v
  leads = over s.before.edges edge dir ends at

  -- both halves of a way by a middle stand where they weren't moved
  pub both_stand : (m : ℕ) → HalvesAre (IsUnmoved moved) s.before.edges ends dir m → HasEdge s.before.edges m u → HasEdge s.before.edges m v → StandingPair s moved u m × StandingPair s moved m v
  both_stand m unmoved to on =
      let halves = halves_at s.before.edges edge dir u v m leads to on in
      let both = unmoved halves.first halves.second (record { to = halves.to; on = halves.on }) in (
        (halves.first, Down, over s.before.edges halves.first Down (record { low = m; high = u }) halves.to, sides halves.first halves.first_side, both.0),
        (halves.second, Up, over s.before.edges halves.second Up (record { low = m; high = v }) halves.on, sides halves.second halves.second_side, both.1),
      )

  -- ways that are as they were stand, and lead to none but lists that stand
  way_stands : (way : Way) → IsUnmovedWay s.before.network s.edit s.before.edges moved ends dir way → standing.StandsWay s.before s.edit s.settled (StandingPair s moved) holds.stands u v way
  way_stands (Road a) unchanged = λ links. unchanged
  way_stands (Via m) unmoved = both_stand m unmoved

  way_framed : (way : Way) → IsWellFormed s.before u v way → IsUnmovedWay s.before.network s.edit s.before.edges moved ends dir way → IsFramed s.before now (StandingPair s moved) u v way
  way_framed (Road a) formed unchanged = λ t. sym ((all_alike s.before.network s.edit a unchanged).value t)
  way_framed (Via m) (to, on, first, second, some, more) unmoved = let both = both_stand m unmoved first second in (to, on, both.0, both.1)

  pub old_framed : All (λ (entry : Entry). IsUnmovedWay s.before.network s.edit s.before.edges moved ends dir entry.way) old
      → AreFramed old
  old_framed unmoved = λ k d lt. way_framed _ (holds.are.sound.formed edge dir ends at k d lt) (unmoved k d lt)

  -- where nothing has changed that a list may be made of, it stands
  module _ (marks : List Bool) (customized : AreCustomized s.before marks) (may : MayStand s.before s.edit arcs marks moved edge dir) where
    unchanged : (a : ℕ) → LinksRanks s.before.network s.before.order a u v → IsChangedBySome s.before.network s.edit a → ⊥
    unchanged a links changed =
        let (list, there) = listed s.before arcs holds.parts.roads edge dir ends at in
        let among = ((holds.parts.roads.each edge dir ends list at there).exact a).1 links in
        All-contains (λ (b : ℕ). IsChangedBySome s.before.network s.edit b → ⊥) list a (may.roads list there) among changed

    halves : (m : ℕ) → HasEdge s.before.edges m u → HasEdge s.before.edges m v → StandingPair s moved u m × StandingPair s moved m v
    halves m = both_stand m (may.halves ends at m)

    before : IsResettledList s.before u v old
    before = customized edge may.marked dir ends at

    pub old_resettled : IsResettledList now u v old
    old_resettled =
        runs_alike (IsCandidateIn s.before u v) (IsCandidateIn now u v) (ArrivesIn s.before u v) (ArrivesIn now u v) old
        (standing.choices_stand s.before s.edit s.settled (StandingPair s moved) holds.stands u v unchanged halves) before

    as_it_was : (way : Way) → IsCandidateIn s.before u v way → IsUnmovedWay s.before.network s.edit s.before.edges moved ends dir way
    as_it_was (Road a) c = unchanged a (leads_joins s.before.network s.before.order a u v c).0
    as_it_was (Via m) c = may.halves ends at m

    pub old_unmoved : All (λ (entry : Entry). IsUnmovedWay s.before.network s.edit s.before.edges moved ends dir entry.way) old
    old_unmoved = λ k d lt. as_it_was _ (candidates_alone (IsCandidateIn s.before u v) (ArrivesIn s.before u v) old before k d lt)

  -- else it is settled by functions of the hierarchy before, but of moved lists by their functions after
  abbrev pub asked : FunctionsState
  asked = kept_state (edited_all s.before.network s.edit) (layered packed.functions moved.places moved.functions)

  -- the packed runs of a half that stands
  half_before : (e : ℕ) (d : Dir) (x y : ℕ) (l : LeadsOver s.before.edges e d x y) → IsLowerSide s.before.edges edge e → IsUnmoved moved e d → IsKnownList packed (list_number e d)
      → IsHalf now asked x y
  half_before e d x y l side unmoved known =
      let inside = number_within e (length s.before.edges) d (slice_get_within s.before.edges e l.ends l.at) in
      let long = holds.known.size.functions in
      let function = get_or packed.functions (list_number e d) None in
      let there : slice_get packed.functions (list_number e d) ≡ Some function = slice_get-get_or packed.functions (list_number e d) None (omega (arith, inside, long)) in
      let pair : StandingPair s moved x y = (e, d, l, sides e side, unmoved) in
      let list : list_of now e d ≡ list_of s.before e d =
      sym (list_at s.before now holds.are.sound refl e d x y l) ∙ sym (holds.stands.lists x y pair) ∙ list_at s.before s.before holds.are.sound refl e d x y l in
      let is : IsRebuiltRuns now e d function =
      packed_stay s.before now (StandingPair s moved) holds.stands s.before.edges refl refl e d function
      (λ given here. (e, d, over s.before.edges e d given here, sides e side, unmoved)) list (holds.known.keeps e d tt known function there) in
      record {
        function = function;
        is = function_at s.before holds.are.sound asked e d x y l
            ∙ ap value_kept (layered_older packed.functions moved.places moved.functions (list_number e d) unmoved ∙ there) ∙ kept_values function;
        rebuilds = by_ranks s.before now holds.are.sound refl e d x y function l (packed_values now e d function is);
      }

  -- a half leads up to an end of the edge
  leads_up : (e : ℕ) → IsLowerSide s.before.edges edge e → LeadsUpTo s.before.edges moved.low e
  leads_up e (given, rank, here, lower, higher, either) =
      let same : given ≡ ends = cc (here, at) in
      let less = ends_rise s.before holds.are.sound edge given here in
      let kept : moved.low ≤ given.low = subst (λ (x : Ends). moved.low ≤ x.low) (sym same) low in
      elim either [
        | inl is ↦ (record { low = rank; high = given.low }, is, kept)
        | inr is ↦ (record { low = rank; high = given.high }, is, omega (arith, kept, less))
      ]

  -- of one that was moved
  half_moved : (e : ℕ) (d : Dir) (x y place : ℕ) (l : LeadsOver s.before.edges e d x y) → IsLowerSide s.before.edges edge e → slice_get moved.places (list_number e d) ≡ Some (suc place) → IsHalf now asked x y
  half_moved e d x y place l side there =
      let inside = number_within e (length s.before.edges) d (slice_get_within s.before.edges e l.ends l.at) in
      let long = holds.known.size.functions in
      let within = all_at (λ (k : ℕ). k ≤ length moved.functions) moved.places (list_number e d) (suc place) holds.inside there in
      let function = get_or moved.functions place None in
      let is_there : slice_get moved.functions place ≡ Some function = slice_get-get_or moved.functions place None (omega (arith, within)) in
      let is = (holds.moves e d function (place, there, is_there)).1 (leads_up e side) in
      record {
        function = function;
        is = function_at s.before holds.are.sound asked e d x y l
            ∙ ap value_kept (layered_newer packed.functions moved.places moved.functions (list_number e d) place (omega (arith, inside, long)) there
            (omega (arith, within)) ∙ is_there) ∙ kept_values function;
        rebuilds = by_ranks s.before now holds.are.sound refl e d x y function l (packed_values now e d function is);
      }

  -- what is at hand is a half
  half_by : (e : ℕ) (d : Dir) (x y place : ℕ) (l : LeadsOver s.before.edges e d x y) → IsLowerSide s.before.edges edge e → slice_get moved.places (list_number e d) ≡ Some place
      → IsAtHand moved packed e d → IsHalf now asked x y
  half_by e d x y zero l side there hand = half_before e d x y l side there (hand there)
  half_by e d x y (suc place) l side there hand = half_moved e d x y place l side there

  placed : (e : ℕ) (d : Dir) (x y : ℕ) → LeadsOver s.before.edges e d x y → slice_get moved.places (list_number e d) ≡ Some (get_or moved.places (list_number e d) 0)
  placed e d x y l =
      let inside = number_within e (length s.before.edges) d (slice_get_within s.before.edges e l.ends l.at) in
      let long = holds.places in
      slice_get-get_or moved.places (list_number e d) 0 (omega (arith, inside, long))

  half_at_hand : (e : ℕ) (d : Dir) (x y : ℕ) (l : LeadsOver s.before.edges e d x y) → IsLowerSide s.before.edges edge e → IsAtHand moved packed e d → IsHalf now asked x y
  half_at_hand e d x y l side hand = half_by e d x y (get_or moved.places (list_number e d) 0) l side (placed e d x y l) hand

  pub both_at_hand : (m : ℕ) → HalvesAre (IsAtHand moved packed) s.before.edges ends dir m → HasEdge s.before.edges m u → HasEdge s.before.edges m v → IsHalf now asked u m × IsHalf now asked m v
  both_at_hand m hand to on =
      let halves = halves_at s.before.edges edge dir u v m leads to on in
      let both = hand halves.first halves.second (record { to = halves.to; on = halves.on }) in (
        half_at_hand halves.first Down u m (over s.before.edges halves.first Down (record { low = m; high = u }) halves.to) halves.first_side both.0,
        half_at_hand halves.second Up m v (over s.before.edges halves.second Up (record { low = m; high = v }) halves.on) halves.second_side both.1,
      )

  -- each road is known
  knows_road : (a : ℕ) → KnowsWay now asked u v (Road a)
  knows_road a = road_same (edited_all s.before.network s.edit) a (is_closed_arc (edited_all s.before.network s.edit) a)

  -- and so is each way at hand
  pub knows_at_hand : (way : Way) → IsWayAtHand moved packed s.before.edges ends dir way → KnowsWay now asked u v way
  knows_at_hand (Road a) hand = knows_road a
  knows_at_hand (Via m) hand = λ to on first second. both_at_hand m hand first second

  -- a function that is there is a half
  half_there : (e : ℕ) (d : Dir) (x y place : ℕ) (known : Bool) (l : LeadsOver s.before.edges e d x y) → IsLowerSide s.before.edges edge e → slice_get moved.places (list_number e d) ≡ Some place
      → slice_get packed.known (list_number e d) ≡ Some known → IsSome (function_from s.before.edges asked x y) → IsHalf now asked x y
  half_there e d x y (suc place) known l side there at_known some = half_moved e d x y place l side there
  half_there e d x y zero true l side there at_known some = half_before e d x y l side there at_known
  half_there e d x y zero false l side there at_known some =
      let none = holds.known.unknown (list_number e d) at_known in
      absurd (none_some (function_from s.before.edges asked x y)
      (function_at s.before holds.are.sound asked e d x y l ∙ ap value_kept (layered_older packed.functions moved.places moved.functions (list_number e d) there ∙ none)) some)

  half_with : (e : ℕ) (d : Dir) (x y : ℕ) (l : LeadsOver s.before.edges e d x y) → IsLowerSide s.before.edges edge e → IsSome (function_from s.before.edges asked x y) → IsHalf now asked x y
  half_with e d x y l side some =
      let inside = number_within e (length s.before.edges) d (slice_get_within s.before.edges e l.ends l.at) in
      let long = holds.known.size.known in
      half_there e d x y (get_or moved.places (list_number e d) 0) (get_or packed.known (list_number e d) false) l side (placed e d x y l)
      (slice_get-get_or packed.known (list_number e d) false (omega (arith, inside, long))) some

  -- so what settling calls a candidate is known
  pub knows_candidate : (list : List ℕ) (way : Way) → IsCandidateBy s.before.edges list asked u v way → KnowsWay now asked u v way
  knows_candidate list (Road a) c = knows_road a
  knows_candidate list (Via m) (to, on, first, second) = λ lower higher in_first in_second.
      let halves = halves_at s.before.edges edge dir u v m leads in_first in_second in (
        half_with halves.first Down u m (over s.before.edges halves.first Down (record { low = m; high = u }) halves.to) halves.first_side first,
        half_with halves.second Up m v (over s.before.edges halves.second Up (record { low = m; high = v }) halves.on) halves.second_side second,
      )

  -- the best that could be made of the lists below before the edit, with ways that are as they were and at hand
  pub record IsOldBest : Type 0 where
    pub resettled : IsResettledList s.before u v old
    pub unmoved : All (λ (entry : Entry). IsUnmovedWay s.before.network s.edit s.before.edges moved ends dir entry.way) old
    pub known : All (λ (entry : Entry). KnowsWay now asked u v entry.way) old

  -- the ways that another, by a middle of which both halves have a function, is sooner than at each second
  pub record IsOvertaken (m : ℕ) : Type 0 where
    pub limit : ℕ
    pub few : limit < far
    pub late : limit < bound_from s.before u m + bound_from s.before m v
    pub middle : ℕ
    pub to : middle < u
    pub on : middle < v
    pub one : List Run
    pub first : function_from s.before.edges asked u middle ≡ Some (arrival_value one)
    pub two : List Run
    pub second : function_from s.before.edges asked middle v ≡ Some (arrival_value two)
    pub each : (t : ℕ) → t < day → arrival_value two (arrival_value one t) ≤ t + limit

  -- the function at hand of an edge's list
  there_at_hand : (e : ℕ) (d : Dir) (x y : ℕ) (function : List Run) → LeadsOver s.before.edges e d x y → slice_get (functions_at_hand moved packed) (list_number e d) ≡ Some (Some function)
      → function_from s.before.edges asked x y ≡ Some (arrival_value function)
  there_at_hand e d x y function l at = function_at s.before holds.are.sound asked e d x y l ∙ ap value_kept at

  -- the least bound of a half by a middle
  bound_between : (e : ℕ) (d : Dir) (ends : Ends) → slice_get s.before.edges e ≡ Some ends → least_bound s.before e d ≡ bound_from s.before (start_of ends d) (end_of ends d)
  bound_between e d given here = bound_of_ends s.before e d given here

  -- so is a way whose halves take longer than some way by a middle
  pub overtaken : (limit : ℕ) → SomeTakeNoMore (functions_at_hand moved packed) limit s.before.edges ends dir → (m : ℕ) → HalvesTakeMore s.before limit s.before.edges ends dir m
      → HasEdge s.before.edges m u → HasEdge s.before.edges m v → IsOvertaken m
  overtaken limit some m take to on =
      let halves = halves_at s.before.edges edge dir u v m leads to on in
      let more = take halves.first halves.second (record { to = halves.to; on = halves.on }) in
      let late = more.late in
      let one = bound_between halves.first Down (record { low = m; high = u }) halves.to in
      let two = bound_between halves.second Up (record { low = m; high = v }) halves.on in
      record {
        limit = limit;
        few = more.few;
        late = omega (arith, late, one, two);
        middle = some.middle;
        to = ends_rise s.before holds.are.sound some.first (record { low = some.middle; high = u }) some.are.to;
        on = ends_rise s.before holds.are.sound some.second (record { low = some.middle; high = v }) some.are.on;
        one = some.take.one;
        first = there_at_hand some.first Down u some.middle some.take.one (over s.before.edges some.first Down (record { low = some.middle; high = u }) some.are.to) some.take.first;
        two = some.take.two;
        second = there_at_hand some.second Up some.middle v some.take.two (over s.before.edges some.second Up (record { low = some.middle; high = v }) some.are.on) some.take.second;
        each = some.take.each;
      }

  -- both halves by a middle are known, or both stand, and the old list was the best that could be made or another way is sooner at each second
  abbrev pub IsKnownOrBehind : ℕ → Type 0
  IsKnownOrBehind m = m < u → m < v → HasEdge s.before.edges m u → HasEdge s.before.edges m v
      → (IsHalf now asked u m × IsHalf now asked m v) ⊎ (StandingPair s moved u m × StandingPair s moved m v × (IsOldBest ⊎ IsOvertaken m))

  module _ (list : List ℕ) (are : AreArcsFrom s.before.network s.before.order u v list) (cases : (m : ℕ) → IsKnownOrBehind m) (es : List Entry)
      (settled : IsSettledList s.before.edges list asked u v es) where
    there : (way : Way) → IsCandidateBy s.before.edges list asked u v way → IsCandidateIn now u v way
    there way c = candidate_in s.before s.edit now refl refl list asked u v are way (knows_candidate list way c) c

    arrives : (t : ℕ) (way : Way) (x : ℕ) → IsCandidateBy s.before.edges list asked u v way → ArrivesBy s.before.edges asked u v t way x → ArrivesIn now u v t way x
    arrives t way x c = arrives_in s.before s.edit now refl refl list asked u v are t way x (knows_candidate list way c) c

    back : (way : Way) → KnowsWay now asked u v way → IsCandidateIn now u v way → IsCandidateBy s.before.edges list asked u v way
    back way = candidate_by s.before s.edit now refl refl list asked u v are way

    arrived : (t : ℕ) (way : Way) (x : ℕ) → KnowsWay now asked u v way → IsCandidateBy s.before.edges list asked u v way → ArrivesIn now u v t way x → ArrivesBy s.before.edges asked u v t way x
    arrived t way x = arrives_by s.before s.edit now refl refl list asked u v are t way x

    -- a way by a middle whose halves stand was a candidate, and arrived as it does
    was_there : (m : ℕ) → StandingPair s moved u m → StandingPair s moved m v → IsCandidateIn now u v (Via m) → IsCandidateIn s.before u v (Via m)
    was_there m first second (to, on, some, more) =
        (to, on, subst (λ (x : List Entry). x ≢ []) (sym (holds.stands.lists u m first)) some, subst (λ (x : List Entry). x ≢ []) (sym (holds.stands.lists m v second)) more)

    was_at : (m t x : ℕ) → StandingPair s moved u m → StandingPair s moved m v → ArrivesIn now u v t (Via m) x → ArrivesIn s.before u v t (Via m) x
    was_at m t x first second e = via_same s.before now (StandingPair s moved) holds.stands u v m t first second ∙ e

    -- the old list's way in force is a candidate still, and arrives as it did
    pub record IsOldWay (t : ℕ) (way : Way) : Type 0 where
      pub first : IsFirstEarliest (IsCandidateIn s.before u v) (ArrivesIn s.before u v t) way
      pub candidate : IsCandidateBy s.before.edges list asked u v way
      pub arrives : ArrivesBy s.before.edges asked u v t way first.arrival

    old_way : (t : ℕ) → t < day → IsOldBest → old ≢ [] → (way : Way) × IsOldWay t way
    old_way t lt best some =
        let (way, in_force) = way_there old best.resettled.spelled some t in
        let first = best.resettled.first t way lt in_force in
        let unmoved = way_held (IsUnmovedWay s.before.network s.edit s.before.edges moved ends dir) old t way best.unmoved in_force in
        let known = way_held (KnowsWay now asked u v) old t way best.known in_force in
        let stands = way_stands way unmoved in
        let c = back way known (standing.way_there s.before s.edit s.settled (StandingPair s moved) holds.stands u v way stands first.candidate) in
        let a = arrived t way first.arrival known c (standing.way_arrives s.before s.edit s.settled (StandingPair s moved) holds.stands u v t way first.arrival stands first.candidate first.arrives) in
        (way, record { first = first; candidate = c; arrives = a })

    some_old : (m : ℕ) → IsOldBest → IsCandidateIn s.before u v (Via m) → old ≢ []
    some_old m best c = λ none. best.resettled.none none (Via m) c

    -- the first earliest of what is known is no later than a way that it knows nothing of
    behind : (t : ℕ) (way : Way) → t < day → (f : IsFirstEarliest (IsCandidateBy s.before.edges list asked u v) (ArrivesBy s.before.edges asked u v t) way) → (m later : ℕ)
        → IsCandidateIn s.before u v (Via m) → ArrivesIn s.before u v t (Via m) later → IsOldBest
        → (f.arrival < later) ⊎ ((f.arrival ≡ later) × ((way ≡ Via m) ⊎ GoesFirst way (Via m)))
    behind t way lt f m later c e best =
        let (mid, is) = old_way t lt best (some_old m best c) in
        elim (is.first.first (Via m) later c e) [
          | inl after ↦ elim (f.first mid is.first.arrival is.candidate is.arrives) [
            | inl less ↦ inl (omega (arith, after, less))
            | inr (tie, order) ↦ inl (omega (arith, after, tie))
          ]
          | inr (same, order) ↦ elim (f.first mid is.first.arrival is.candidate is.arrives) [
            | inl less ↦ inl (omega (arith, same, less))
            | inr (tie, before) ↦ inr (omega (arith, same, tie), first_of_three way mid (Via m) before order)
          ]
        ]

    -- the sooner way is a candidate
    sooner : (m : ℕ) (o : IsOvertaken m) → IsCandidateBy s.before.edges list asked u v (Via o.middle)
    sooner m o = (o.to, o.on, subst IsSome (sym o.first) refl, subst IsSome (sym o.second) refl)

    -- and the first earliest of what is known is no later
    overtaken_first : (t : ℕ) (way : Way) → t < day → (f : IsFirstEarliest (IsCandidateBy s.before.edges list asked u v) (ArrivesBy s.before.edges asked u v t) way) → (m later : ℕ)
        → ArrivesIn s.before u v t (Via m) later → IsOvertaken m → f.arrival < later
    overtaken_first t way lt f m later e o =
        let least = middle_takes s.before holds.are.sound u v m t later lt e in
        let few = o.few in
        let late = o.late in
        let most = o.each t lt in
        let arrival : ArrivesBy s.before.edges asked u v t (Via o.middle) (min (arrival_value o.two (arrival_value o.one t)) (2 ^ 62)) = rw (o.first, o.second) refl in
        elim (f.first (Via o.middle) (min (arrival_value o.two (arrival_value o.one t)) (2 ^ 62)) (sooner m o) arrival) [
          | inl less ↦ omega (arith, least, few, late, most, less)
          | inr (tie, order) ↦ omega (arith, least, few, late, most, tie)
        ]

    -- so it is no later than a way that it knows nothing of
    none_later : (t : ℕ) (way : Way) → t < day → (f : IsFirstEarliest (IsCandidateBy s.before.edges list asked u v) (ArrivesBy s.before.edges asked u v t) way) → (m later : ℕ)
        → IsCandidateIn s.before u v (Via m) → ArrivesIn s.before u v t (Via m) later → IsOldBest ⊎ IsOvertaken m
        → (f.arrival < later) ⊎ ((f.arrival ≡ later) × ((way ≡ Via m) ⊎ GoesFirst way (Via m)))
    none_later t way lt f m later c e (inl best) = behind t way lt f m later c e best
    none_later t way lt f m later c e (inr over) = inl (overtaken_first t way lt f m later e over)

    -- and something is known
    some_known : (m : ℕ) → IsCandidateIn s.before u v (Via m) → IsOldBest ⊎ IsOvertaken m → (way : Way) × IsCandidateBy s.before.edges list asked u v way
    some_known m c (inl best) = let (mid, is) = old_way 0 (omega arith) best (some_old m best c) in (mid, is.candidate)
    some_known m c (inr over) = (Via over.middle, sooner m over)

    first_over : (t : ℕ) (way : Way) → t < day → (f : IsFirstEarliest (IsCandidateBy s.before.edges list asked u v) (ArrivesBy s.before.edges asked u v t) way) → (other : Way) (later : ℕ)
        → IsCandidateIn now u v other → ArrivesIn now u v t other later → (f.arrival < later) ⊎ ((f.arrival ≡ later) × ((way ≡ other) ⊎ GoesFirst way other))
    first_over t way lt f (Road a) later c e =
        let by = back (Road a) (knows_road a) c in
        f.first (Road a) later by (arrived t (Road a) later (knows_road a) by e)
    first_over t way lt f (Via m) later c e = elim (cases m c.0 c.1 (edge_down now u m c.0 c.2) (edge_up now m v c.1 c.3)) [
      | inl both ↦
          let known : KnowsWay now asked u v (Via m) = λ to on first second. both in
          let by = back (Via m) known c in
          f.first (Via m) later by (arrived t (Via m) later known by e)
      | inr (first, second, which) ↦ none_later t way lt f m later (was_there m first second c) (was_at m t later first second e) which
    ]

    none_over : es ≡ [] → (way : Way) → IsCandidateIn now u v way → ⊥
    none_over empty (Road a) c = settled.none empty (Road a) (back (Road a) (knows_road a) c)
    none_over empty (Via m) c = elim (cases m c.0 c.1 (edge_down now u m c.0 c.2) (edge_up now m v c.1 c.3)) [
      | inl both ↦ settled.none empty (Via m) (back (Via m) (λ to on first second. both) c)
      | inr (first, second, which) ↦ (let (mid, is) = some_known m (was_there m first second c) which in settled.none empty mid is)
    ]

    -- the settled list is the resettled one
    pub new_resettled : IsResettledList now u v es
    new_resettled = record {
      spelled = settled.spelled;
      first = λ t way lt e.
          let f = settled.first t way lt e in record {
            candidate = there way f.candidate;
            arrival = f.arrival;
            arrives = arrives t way f.arrival f.candidate f.arrives;
            first = first_over t way lt f;
          };
      none = none_over;
    }

    by_candidates : All (λ (entry : Entry). IsCandidateBy s.before.edges list asked u v entry.way) es
    by_candidates = candidates_alone (IsCandidateBy s.before.edges list asked u v) (ArrivesBy s.before.edges asked u v) es settled

    all_arrive : values.AllArrive now u v es
    all_arrive t = λ k d lt.
        let c = by_candidates k d lt in
        values.way_arrives now asked u v t _ (knows_candidate list _ c) (there _ c)

    -- and its packed runs say when its ways arrive
    pub new_value : (function : Option (List Run)) → IsDayValueOf s.before.edges asked u v es function → SayValue now u v es function
    new_value None empty = empty
    new_value (Some runs) (some, is, onward, says) = (
      some,
      is,
      onward,
      values.values_least now u v es runs all_arrive new_resettled some (λ t way lt e. arrives t way (arrival_value runs t) (settled.first t way lt e).candidate (says t way lt e)),
    )
