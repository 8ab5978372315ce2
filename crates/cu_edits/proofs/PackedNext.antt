-- One edge more is settled by packed runs, or none.
use Rattle.std.proofs.Common.{◌≡◌, ◌≢◌, ◌≤◌, ◌<◌, ◌+◌, ◌++◌, ◌*◌, ◌∙◌, ℕ, suc, Bool, List, [], ◌∷◌, Option, Some, None, refl, ap, sym, subst, arith, inl, inr, length}
use Rattle.std.specs.Prelude.{All, IfSome, slice_get, slice_set}
use Rattle.std.proofs.lemmas.Option.{slice_get_within}
use Rattle.cu_model.specs.declared.roads.Edit.{Edit}
use Rattle.cu_model.specs.Networks.{NetworkValue}
use Rattle.cu_model.proofs.RoadLaws.{all_at}
use Rattle.cu_arrival.specs.declared.runs.Run.{Run}
use Rattle.cu_chordal.specs.declared.graph.Ends.{Ends}
use Rattle.cu_chordal.specs.Graphs.{ChordalValue}
use Rattle.cu_interval.specs.declared.ways.Dir.{Dir}
use Rattle.cu_interval.specs.declared.ways.Dir.TheVariants.{Up, Down}
use Rattle.cu_interval.specs.declared.ways.Entry.{Entry}
use Rattle.cu_interval.specs.declared.ways.TouchedEdge.{TouchedEdge}
use Rattle.cu_interval.specs.Hierarchies.{HierarchyValue, IsHierarchyOf, end_of, list_number, list_of, start_of}
use Rattle.cu_interval.specs.Resettling.{IsResettledList}
use Rattle.cu_customize.specs.Functions.{kept_state}
use Rattle.cu_runs.specs.Layers.{layered}
use Rattle.cu_customize.specs.Settling.{IsDayValueOf, IsSettledList}
use Rattle.cu_customize.specs.declared.pulling.SettledRuns.{SettledRuns}
use Rattle.cu_unpack.specs.RebuiltRuns.{IsRebuiltRuns, PackedValue}
use Rattle.cu_edits.specs.declared.new_list.Outcome.{Outcome}
use Rattle.cu_edits.specs.declared.new_list.Outcome.TheVariants.{Stands, Moves}
use Rattle.cu_edits.specs.declared.new_list.NewList.{NewList}
use Rattle.cu_edits.specs.Customized.{AreCustomized}
use Rattle.cu_edits.specs.Settling.{IsResettledEdge, SettlingValue, list_in, settled_so_far}
use Rattle.cu_edits.specs.Learned.{ArePackedOf}
use Rattle.cu_edits.specs.Steps.Packed.{AreCandidatesAtHand, IsPackedList, IsSettlingPacked, LearnsPacked}
use Rattle.cu_edits.specs.Steps.Frames.{IsFrame}
use Rattle.cu_edits.specs.Steps.Holding.{IsNext, settling_of}
use Rattle.cu_edits.specs.Steps.Moving.{IsOutcome, IsOutcomeOf, IsNewList, IsUnmoved, KeepsHalves, KeepsMore, KeepsOutcome, LeadsUpTo, MayStand, MovedValue, SayValue, StandingPair, StandsBy}
use Rattle.cu_edits.specs.Steps.Settled.{AreSettled}
use Rattle.cu_edits.proofs.AtHand.{same_edges}
use Rattle.cu_edits.proofs.NewLists as new
use Rattle.cu_edits.proofs.PackedStay.{packed_back}
use Rattle.cu_edits.proofs.Placing.{outcome_in, placed_both}
use Rattle.cu_edits.proofs.SettledFrames.{settled_itself, settled_with}
use Rattle.cu_edits.proofs.SettledOnce as once
use Rattle.cu_edits.proofs.Sides.{halves_at, over}
use Rattle.cu_edits.proofs.StandingLists.{ArePlaced, IsPlacedAs, moves_more, stands_more}
use Rattle.cu_resettled.specs.ResettlingAll.{edited_all}

-- the next edge is one of the graph's
pub edge_inside : (s : SettlingValue) (graph : ChordalValue) (edge : ℕ) → IsHierarchyOf graph s.before → IsNext s edge → edge < length graph.edges
edge_inside s graph edge of asked =
    let (ends, at, is) = asked.touched in
    let inside = slice_get_within s.before.edges edge ends at in
    let long : length graph.edges ≡ length s.before.edges = ap (λ (k : ChordalValue). length k.edges) of.0 in
    omega (arith, inside, long)

-- by other functions of the hierarchy before
pub packed_with : (s : SettlingValue) (graph : ChordalValue) (arcs : List (List ℕ)) (packed other : PackedValue) (moved : MovedValue) → IsSettlingPacked s graph arcs packed moved
    → ArePackedOf s.before other → IsSettlingPacked s graph arcs other moved
packed_with s graph arcs packed other moved old known = record {
  are = old.are;
  parts = old.parts;
  known = known;
  places = old.places;
  inside = old.inside;
  stands = old.stands;
  moves = old.moves;
}

-- more was learned
pub packed_learnt : (s : SettlingValue) (graph : ChordalValue) (arcs : List (List ℕ)) (packed learnt : PackedValue) (moved : MovedValue) → IsSettlingPacked s graph arcs packed moved
    → LearnsPacked s.before packed learnt → IsSettlingPacked s graph arcs learnt moved
packed_learnt s graph arcs packed learnt moved old learns = packed_with s graph arcs packed learnt moved old learns.packed

-- so it holds where no list was moved
pub packed_still : (s : SettlingValue) (graph : ChordalValue) (arcs : List (List ℕ)) (packed learnt : PackedValue) (moved now : MovedValue) → IsSettlingPacked s graph arcs packed moved
    → LearnsPacked s.before packed learnt → now ≡ moved → IsSettlingPacked s graph arcs learnt now
packed_still s graph arcs packed learnt moved now old learns same = subst (IsSettlingPacked s graph arcs learnt) (sym same) (packed_learnt s graph arcs packed learnt moved old learns)

module _ (s : SettlingValue) (graph : ChordalValue) (arcs : List (List ℕ)) (packed : PackedValue) (moved : MovedValue)
    (holds : IsSettlingPacked s graph arcs packed moved) (edge : ℕ) (asked : IsNext s edge)
    (marks : List Bool) (customized : AreCustomized s.before marks) (dir : Dir) (kept : KeepsHalves s.before.edges moved edge) where
  -- a list that stands
  pub list_stands : MayStand s.before s.edit arcs marks moved edge dir → (list : NewList) → list.ways ≡ list_of s.before edge dir → list.outcome ≡ Stands → list.standing ≡ None
      → IsNewList s moved edge dir list
  list_stands may list same outcome none = record {
    resettled = λ ends at.
        subst (IsResettledList (settled_so_far s) (start_of ends dir) (end_of ends dir)) (sym same)
        (new.old_resettled s graph arcs packed moved holds edge dir asked.sides ends at (kept ends at) marks customized may);
    outcome = λ ends at.
        subst (IsOutcome s moved edge dir ends list.ways) (sym outcome) (
          same,
          subst (new.AreFramed s graph arcs packed moved holds edge dir asked.sides ends at (kept ends at)) (sym same)
              (new.old_framed s graph arcs packed moved holds edge dir asked.sides ends at (kept ends at) (new.old_unmoved s graph arcs packed moved holds edge dir asked.sides ends at (kept ends at) marks customized may)),
        );
    standing = λ ends at. subst (StandsBy (settled_so_far s) (start_of ends dir) (end_of ends dir) list.ways list.outcome) (sym none) tt;
  }

  -- the halves that are at hand
  known_or_behind : (ends : Ends) (at : slice_get s.before.edges edge ≡ Some ends) → AreCandidatesAtHand s.before s.edit marks moved packed edge dir → (m : ℕ)
      → new.IsKnownOrBehind s graph arcs packed moved holds edge dir asked.sides ends at (kept ends at) m
  known_or_behind ends at (inl rivals) m to on first second = elim (rivals.each ends at m) [
    | inl (unmoved, late) ↦
        let both = new.both_stand s graph arcs packed moved holds edge dir asked.sides ends at (kept ends at) m unmoved first second in
        let halves = halves_at s.before.edges edge dir (start_of ends dir) (end_of ends dir) m (over s.before.edges edge dir ends at) first second in
        let few = (late halves.first halves.second (record { to = halves.to; on = halves.on })).few in
        elim (rivals.in_time ends at) [
          | inl none ↦ absurd (omega (arith, few, none))
          | inr some ↦ inr (both.0, both.1, inr (new.overtaken s graph arcs packed moved holds edge dir asked.sides ends at (kept ends at) rivals.limit some m late first second))
        ]
    | inr hand ↦ inl (new.both_at_hand s graph arcs packed moved holds edge dir asked.sides ends at (kept ends at) m hand first second)
  ]
  known_or_behind ends at (inr (keeps, ways, some)) m to on first second = elim (some ends at m) [
    | inl unmoved ↦
        let both = new.both_stand s graph arcs packed moved holds edge dir asked.sides ends at (kept ends at) m unmoved first second in
        inr (
          both.0,
          both.1,
          inl (record {
            resettled = customized edge keeps.marked dir ends at;
            unmoved = keeps.ways ends at;
            known = λ k d lt. new.knows_at_hand s graph arcs packed moved holds edge dir asked.sides ends at (kept ends at) _ (ways ends at k d lt);
          }),
        )
    | inr hand ↦ inl (new.both_at_hand s graph arcs packed moved holds edge dir asked.sides ends at (kept ends at) m hand first second)
  ]

  -- a list that was settled
  module _ (hand : AreCandidatesAtHand s.before s.edit marks moved packed edge dir) (found : SettledRuns)
      (by : IsPackedList s.before.edges arcs (kept_state (edited_all s.before.network s.edit) (layered packed.functions moved.places moved.functions)) edge dir found) where
    resettled : (ends : Ends) → slice_get s.before.edges edge ≡ Some ends → IsResettledList (settled_so_far s) (start_of ends dir) (end_of ends dir) found.ways
    resettled ends at =
        let (list, there) = once.listed s.before arcs holds.parts.roads edge dir ends at in
        new.new_resettled s graph arcs packed moved holds edge dir asked.sides ends at (kept ends at) list (holds.parts.roads.each edge dir ends list at there) (known_or_behind ends at hand) found.ways
        (by.ways ends list at there)

    value_of : (ends : Ends) → slice_get s.before.edges edge ≡ Some ends → SayValue (settled_so_far s) (start_of ends dir) (end_of ends dir) found.ways found.function
    value_of ends at =
        let (list, there) = once.listed s.before arcs holds.parts.roads edge dir ends at in
        new.new_value s graph arcs packed moved holds edge dir asked.sides ends at (kept ends at) list (holds.parts.roads.each edge dir ends list at there) (known_or_behind ends at hand) found.ways
        (by.ways ends list at there) found.function (by.value ends at)

    outcome_of : (ends : Ends) (at : slice_get s.before.edges edge ≡ Some ends) (outcome : Outcome) → IsOutcomeOf s.before s.edit moved edge dir found outcome
        → IsOutcome s moved edge dir ends found.ways outcome
    outcome_of ends at Stands (same, unmoved) = (
      same,
      subst (new.AreFramed s graph arcs packed moved holds edge dir asked.sides ends at (kept ends at)) (sym same) (new.old_framed s graph arcs packed moved holds edge dir asked.sides ends at (kept ends at) (unmoved ends at)),
    )
    outcome_of ends at (Moves function) same = subst (SayValue (settled_so_far s) (start_of ends dir) (end_of ends dir) found.ways) (sym same) (value_of ends at)

    standing_of : (ends : Ends) → slice_get s.before.edges edge ≡ Some ends → (ways : List Entry) → ways ≡ found.ways → (outcome : Outcome) (standing : Option (List Run))
        → IfSome standing (λ function. (outcome ≡ Stands) × (found.function ≡ Some function)) → StandsBy (settled_so_far s) (start_of ends dir) (end_of ends dir) ways outcome standing
    standing_of ends at ways same outcome None told = tt
    standing_of ends at ways same outcome (Some function) (stands, is) = (
      stands,
      subst (λ (es : List Entry). SayValue (settled_so_far s) (start_of ends dir) (end_of ends dir) es (Some function)) (sym same)
          (subst (SayValue (settled_so_far s) (start_of ends dir) (end_of ends dir) found.ways) is (value_of ends at)),
    )

    pub list_settled : (list : NewList) → list.ways ≡ found.ways → IsOutcomeOf s.before s.edit moved edge dir found list.outcome
        → IfSome list.standing (λ function. (list.outcome ≡ Stands) × (found.function ≡ Some function)) → IsNewList s moved edge dir list
    list_settled list same outcome standing = record {
      resettled = λ ends at. subst (IsResettledList (settled_so_far s) (start_of ends dir) (end_of ends dir)) (sym same) (resettled ends at);
      outcome = λ ends at. subst (λ (ways : List Entry). IsOutcome s moved edge dir ends ways list.outcome) (sym same) (outcome_of ends at list.outcome outcome);
      standing = λ ends at. standing_of ends at list.ways same list.outcome list.standing standing;
    }

-- what holds of whatever an option has
pub if_some : {A : Type 0} (o : Option A) (P : A → Type 0) → ((x : A) → o ≡ Some x → P x) → IfSome o P
if_some None P holds = tt
if_some (Some x) P holds = holds x refl

-- the function of one of an edge's lists that stands, if it is known
abbrev pub standing_in : NewList → NewList → Dir → Option (List Run)
standing_in up down Up = up.standing
standing_in up down Down = down.standing

-- one edge more was settled
pub record IsOneMore (h : HierarchyValue) (edit : List Edit) (before after : List TouchedEdge) (graph : ChordalValue) (arcs : List (List ℕ)) (packed : PackedValue)
    (moved : MovedValue) (t : TouchedEdge) (up down : NewList) : Type 0 where
  pub list : after ≡ before ++ (t ∷ [])
  pub resettled : IsResettledEdge (settled_so_far (settling_of h edit after)) t
  pub holds : IsSettlingPacked (settling_of h edit after) graph arcs packed moved
  pub standing : (dir : Dir) → IfSome (standing_in up down dir) (λ function. IsRebuiltRuns h t.edge dir (Some function))

module _ (s : SettlingValue) (graph : ChordalValue) (arcs : List (List ℕ)) (packed : PackedValue) (moved after : MovedValue) (holds : IsSettlingPacked s graph arcs packed moved) (t : TouchedEdge)
    (asked : IsNext s t.edge) (up down : NewList) (upper : IsNewList s moved t.edge Up up) (lower : IsNewList s moved t.edge Down down) (first : t.up ≡ up.ways) (second : t.down ≡ down.ways)
    (placed : ArePlaced moved after t.edge (outcome_in up.outcome down.outcome)) where
  abbrev pub now : HierarchyValue
  now = settled_so_far s

  abbrev pub next : HierarchyValue
  next = settled_so_far (settled_with s t)

  resettled_now : (dir : Dir) (ends : Ends) → slice_get s.before.edges t.edge ≡ Some ends → IsResettledList now (start_of ends dir) (end_of ends dir) (list_in t dir)
  resettled_now Up ends at = subst (IsResettledList now (start_of ends Up) (end_of ends Up)) (sym first) (upper.resettled ends at)
  resettled_now Down ends at = subst (IsResettledList now (start_of ends Down) (end_of ends Down)) (sym second) (lower.resettled ends at)

  became : (dir : Dir) (ends : Ends) → slice_get s.before.edges t.edge ≡ Some ends → IsOutcome s moved t.edge dir ends (list_in t dir) (outcome_in up.outcome down.outcome dir)
  became Up ends at = subst (λ (ways : List Entry). IsOutcome s moved t.edge Up ends ways up.outcome) (sym first) (upper.outcome ends at)
  became Down ends at = subst (λ (ways : List Entry). IsOutcome s moved t.edge Down ends ways down.outcome) (sym second) (lower.outcome ends at)

  pub next_resettled : IsResettledEdge next t
  next_resettled = once.edge_resettled s holds.are t asked.touched asked.fresh asked.sides resettled_now

  more : AreSettled (settled_with s t)
  more = once.more s holds.are t asked.touched asked.fresh asked.sides resettled_now

  says : (dir : Dir) (function : Option (List Run)) (ends : Ends) → slice_get s.before.edges t.edge ≡ Some ends
      → SayValue now (start_of ends dir) (end_of ends dir) (list_in t dir) function → IsRebuiltRuns next t.edge dir function
  says dir None ends at empty = once.new_list s holds.are t asked.touched asked.fresh asked.sides resettled_now dir ∙ empty
  says dir (Some runs) ends at (some, is, onward, least) = (
    subst (λ (es : List Entry). es ≢ []) (sym (once.new_list s holds.are t asked.touched asked.fresh asked.sides resettled_now dir)) some,
    is,
    onward,
    once.new_values s holds.are t asked.touched asked.fresh asked.sides resettled_now dir runs ends at is.over_day.starts least,
  )

  pub packed_more : IsSettlingPacked (settled_with s t) graph arcs packed after
  packed_more = record {
    are = more;
    parts = holds.parts;
    known = holds.known;
    places = placed.long ∙ holds.places;
    inside = placed.inside;
    stands = stands_more s holds.are t asked.touched asked.fresh more moved after (outcome_in up.outcome down.outcome) placed became holds.stands;
    moves = moves_more s holds.are t asked.touched asked.fresh more moved after (outcome_in up.outcome down.outcome) placed became holds.inside says holds.moves;
  }

  stood_by : (dir : Dir) (ends : Ends) → slice_get s.before.edges t.edge ≡ Some ends
      → StandsBy now (start_of ends dir) (end_of ends dir) (list_in t dir) (outcome_in up.outcome down.outcome dir) (standing_in up down dir)
  stood_by Up ends at = subst (λ (ways : List Entry). StandsBy now (start_of ends Up) (end_of ends Up) ways up.outcome up.standing) (sym first) (upper.standing ends at)
  stood_by Down ends at = subst (λ (ways : List Entry). StandsBy now (start_of ends Down) (end_of ends Down) ways down.outcome down.standing) (sym second) (lower.standing ends at)

  -- the function of a list that stands is that of the list before
  standing_before : (dir : Dir) (function : List Run) (ends : Ends) → slice_get s.before.edges t.edge ≡ Some ends
      → StandsBy now (start_of ends dir) (end_of ends dir) (list_in t dir) (outcome_in up.outcome down.outcome dir) (Some function) → IsRebuiltRuns s.before t.edge dir (Some function)
  standing_before dir function ends at (stands, say) =
      let unmoved = subst (IsPlacedAs after t.edge dir) stands (placed.own dir) in
      let old = (subst (IsOutcome s moved t.edge dir ends (list_in t dir)) stands (became dir ends at)).0 in
      packed_back s.before next (StandingPair (settled_with s t) after) packed_more.stands refl t.edge dir function
      (λ given there. (t.edge, dir, over s.before.edges t.edge dir given there, inl (settled_itself s t), unmoved))
      (sym old ∙ sym (once.new_list s holds.are t asked.touched asked.fresh asked.sides resettled_now dir)) (says dir (Some function) ends at say)

  pub standing_rebuilt : (dir : Dir) → IfSome (standing_in up down dir) (λ function. IsRebuiltRuns s.before t.edge dir (Some function))
  standing_rebuilt dir = if_some (standing_in up down dir) _ (λ function is.
      let (ends, at, leads) = asked.touched in
      standing_before dir function ends at
      (subst (StandsBy now (start_of ends dir) (end_of ends dir) (list_in t dir) (outcome_in up.outcome down.outcome dir)) is (stood_by dir ends at)))

-- what settling one edge more gives, by its parts
pub packed_one : (h : HierarchyValue) (edit : List Edit) (before after : List TouchedEdge) (graph : ChordalValue) (arcs : List (List ℕ)) (packed : PackedValue)
    (moved one two last : MovedValue) (t copy : TouchedEdge)
    (up down : NewList) (upwards downwards : ℕ) → IsSettlingPacked (settling_of h edit before) graph arcs packed moved → IsNext (settling_of h edit before) t.edge
    → IsNewList (settling_of h edit before) moved t.edge Up up → IsNewList (settling_of h edit before) moved t.edge Down down → t.up ≡ up.ways → t.down ≡ down.ways
    → KeepsOutcome moved one up.outcome upwards → KeepsOutcome one two down.outcome downwards
    → last.places ≡ slice_set (slice_set two.places (list_number t.edge Up) upwards) (list_number t.edge Down) downwards → last.functions ≡ two.functions → last.low ≡ two.low
    → copy ≡ t → after ≡ before ++ (copy ∷ []) → IsOneMore h edit before after graph arcs packed last t up down
packed_one h edit before after graph arcs packed moved one two last t copy up down upwards downwards holds asked upper lower first second keep_up keep_down places functions low copied pushed =
    let s = settling_of h edit before in
    let list : after ≡ before ++ (t ∷ []) = pushed ∙ ap (λ (x : TouchedEdge). before ++ (x ∷ [])) copied in
    let (ends, at, is) = asked.touched in
    let inside = slice_get_within h.edges t.edge ends at in
    let long = holds.places in
    let placed = placed_both moved one two last t.edge up.outcome down.outcome upwards downwards (omega (arith, inside, long)) holds.inside keep_up keep_down places functions low in
    record {
      list = list;
      resettled = subst (λ (xs : List TouchedEdge). IsResettledEdge (settled_so_far (settling_of h edit xs)) t) (sym list)
          (next_resettled s graph arcs packed moved last holds t asked up down upper lower first second placed);
      holds = subst (λ (xs : List TouchedEdge). IsSettlingPacked (settling_of h edit xs) graph arcs packed last) (sym list)
          (packed_more s graph arcs packed moved last holds t asked up down upper lower first second placed);
      standing = standing_rebuilt s graph arcs packed moved last holds t asked up down upper lower first second placed;
    }

-- functions that are only kept change nothing
pub packed_kept : (s : SettlingValue) (graph : ChordalValue) (arcs : List (List ℕ)) (packed : PackedValue) (old new : MovedValue) → KeepsMore old new
    → IsSettlingPacked s graph arcs packed old → IsSettlingPacked s graph arcs packed new
packed_kept s graph arcs packed old new more holds =
    let inside : All (λ (k : ℕ). k ≤ length new.functions) old.places = λ k d lt. (let le = holds.inside k d lt in let longer = more.longer in omega (arith, le, longer)) in
    record {
      are = holds.are;
      parts = holds.parts;
      known = holds.known;
      places = ap length more.places ∙ holds.places;
      inside = subst (All (λ (k : ℕ). k ≤ length new.functions)) (sym more.places) inside;
      stands = subst (λ (ps : List ℕ). IsFrame s.before (settled_so_far s) (StandingPair s (record { places = ps; functions = old.functions; low = old.low }))) (sym more.places) holds.stands;
      moves = λ e d given (p, at, there).
          let before : slice_get old.places (list_number e d) ≡ Some (suc p) = ap (λ (ps : List ℕ). slice_get ps (list_number e d)) (sym more.places) ∙ at in
          let le = all_at (λ (k : ℕ). k ≤ length old.functions) old.places (list_number e d) (suc p) holds.inside before in
          let (settled, says) = holds.moves e d given (p, before, sym (more.still p (omega (arith, le))) ∙ there) in
          (settled, λ up. says (subst (λ (low : ℕ). LeadsUpTo s.before.edges low e) more.low up));
    }

-- there is a place for both lists of the next edge
pub place_within : (s : SettlingValue) (graph : ChordalValue) (arcs : List (List ℕ)) (packed : PackedValue) (moved : MovedValue) (edge : ℕ)
    → IsSettlingPacked s graph arcs packed moved → IsNext s edge → 2 * edge + 1 < length moved.places
place_within s graph arcs packed moved edge holds asked =
    let (ends, at, is) = asked.touched in
    let inside = slice_get_within s.before.edges edge ends at in
    let long = holds.places in
    omega (arith, inside, long)

-- what became of a list, where the moved lists are those of before
pub new_list_over : (s : SettlingValue) (moved kept : MovedValue) (edge : ℕ) (dir : Dir) (found : Option NewList) (list : NewList) → found ≡ Some list → kept ≡ moved
    → IfSome found (IsNewList s moved edge dir) → IsNewList s kept edge dir list
new_list_over s moved kept edge dir found list is same made =
    subst (λ (m : MovedValue). IsNewList s m edge dir list) (sym same) (subst (λ (o : Option NewList). IfSome o (IsNewList s moved edge dir)) is made)

-- a list that was settled over the graph, by functions that are those meant
pub list_by : (h : HierarchyValue) (graph : ChordalValue) → IsHierarchyOf graph h → (arcs : List (List ℕ)) (after g : NetworkValue) → after ≡ g
    → (given meant : List (Option (List Run))) → given ≡ meant
    → (edge : ℕ) (dir : Dir) (found : Option SettledRuns) (settled : SettledRuns) → found ≡ Some settled
    → ((ends : Ends) (roads : List ℕ) → slice_get graph.edges edge ≡ Some ends → slice_get arcs (list_number edge dir) ≡ Some roads
    → IfSome found (λ (s : SettledRuns). IsSettledList graph.edges roads (kept_state after given) (start_of ends dir) (end_of ends dir) s.ways))
    → ((ends : Ends) → slice_get graph.edges edge ≡ Some ends
    → IfSome found (λ (s : SettledRuns). IsDayValueOf graph.edges (kept_state after given) (start_of ends dir) (end_of ends dir) s.ways s.function))
    → IsPackedList h.edges arcs (kept_state g meant) edge dir settled
list_by h graph of arcs after g same given meant equal edge dir found settled is ways value =
    subst (λ (es : List Ends). IsPackedList es arcs (kept_state g meant) edge dir settled) (same_edges h graph of)
    (subst (λ (fs : List (Option (List Run))). IsPackedList graph.edges arcs (kept_state g fs) edge dir settled) equal
    (subst (λ (n : NetworkValue). IsPackedList graph.edges arcs (kept_state n given) edge dir settled) same (record {
      ways = λ ends roads at there.
          subst (λ (o : Option SettledRuns). IfSome o (λ (s : SettledRuns). IsSettledList graph.edges roads (kept_state after given) (start_of ends dir) (end_of ends dir) s.ways)) is
          (ways ends roads at there);
      value = λ ends at.
          subst (λ (o : Option SettledRuns). IfSome o (λ (s : SettledRuns). IsDayValueOf graph.edges (kept_state after given) (start_of ends dir) (end_of ends dir) s.ways s.function)) is
          (value ends at);
    })))
