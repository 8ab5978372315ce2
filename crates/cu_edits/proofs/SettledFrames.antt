-- As more edges are settled, the lists that are settled or aren't touched stay, and all that is rebuilt from them.
use Rattle.std.proofs.Common.{◌≡◌, ◌≢◌, ◌∙◌, ◌⊎◌, ℕ, List, [], ◌∷◌, ◌++◌, Some, refl, ap, sym, subst, arith, inl, inr}
use Rattle.std.specs.Prelude.{All, slice_get}
use Rattle.std.specs.List.{Contains}
use Rattle.std.proofs.lemmas.List.Elements.{Contains-append_left, Contains-push, Contains-push_cases}
use Rattle.std.proofs.lemmas.Option.{slice_get_within}
use Rattle.cu_model.specs.declared.roads.Edit.{Edit}
use Rattle.cu_chordal.specs.declared.graph.Ends.{Ends}
use Rattle.cu_chordal.specs.Edges.{LinksRanks}
use Rattle.cu_chordal.specs.Graphs.{HasEdge}
use Rattle.cu_chordal.proofs.Members.{member_cases, none_in_nil, pairs_append}
use Rattle.cu_interval.specs.declared.ways.Dir.{Dir}
use Rattle.cu_interval.specs.declared.ways.Dir.TheVariants.{Up, Down}
use Rattle.cu_interval.specs.declared.ways.Way.{Way}
use Rattle.cu_interval.specs.declared.ways.Way.TheVariants.{Road, Via}
use Rattle.cu_interval.specs.declared.ways.Entry.{Entry}
use Rattle.cu_interval.specs.declared.ways.TouchedEdge.{TouchedEdge}
use Rattle.cu_interval.specs.Hierarchies.{HierarchyValue, IsHierarchy, IsWellFormed, end_of, list_from, list_of, start_of}
use Rattle.cu_interval.specs.Resettling.{ArrivesIn, IsCandidateIn, IsResettledList}
use Rattle.cu_interval.proofs.Lookups.{list_formed}
use Rattle.cu_interval.proofs.EndsLaws.{ends_rise}
use Rattle.cu_edits.specs.Settling.{HasFinalSides, IsFinal, IsLowerSide, IsResettledEdge, IsSettled, SettlingValue, list_in, settled_so_far}
use Rattle.cu_edits.specs.Steps.Settled.{AreSettled}
use Rattle.cu_edits.specs.Steps.Frames.{IsFrame, IsFramed, LeadsOver, PairOf}
use Rattle.cu_edits.proofs.Frames.{ChoosesAlike, candidates_alone, runs_alike, via_same}
use Rattle.cu_edits.proofs.Replaced.{list_kept, list_pushed, list_replaced, number_among, number_of_one}
use Rattle.cu_edits.proofs.Sides.{edge_down, edge_up, halves_good, list_at, over, side_touched}
use Rattle.cu_resettled.proofs.Unchanged.{leads_joins}
use Rattle.cu_resettled.specs.ResettlingAll.{IsChangedBySome, IsTouchedEdgeBySome, hierarchy_with_all}
use Rattle.cu_resettled.proofs.TouchedBySome.{all_alike, changed_by_some}

-- one more edge is settled
abbrev pub settled_with : SettlingValue → TouchedEdge → SettlingValue
settled_with s t = record s { settled = s.settled ++ (t ∷ []) }

-- the pairs of ranks whose list won't change any more
abbrev pub FinalPair : SettlingValue → ℕ → ℕ → Type 0
FinalPair s u v = PairOf s.before.edges (IsFinal s) u v

abbrev pub UntouchedPair : HierarchyValue → List Edit → ℕ → ℕ → Type 0
UntouchedPair h edit u v = PairOf h.edges (λ e. IsTouchedEdgeBySome h edit e → ⊥) u v

pub all_so : {X : Type 0} (P Q : X → Type 0) (xs : List X) → ((x : X) → P x → Q x) → All P xs → All Q xs
all_so P Q xs f all = λ k d lt. f _ (all k d lt)

-- the edge of a changed road is touched
road_touched : (h : HierarchyValue) → IsHierarchy h → (edit : List Edit) (edge : ℕ) (dir : Dir) (ends : Ends) (road : ℕ) → slice_get h.edges edge ≡ Some ends
    → LinksRanks h.network h.order road (start_of ends dir) (end_of ends dir) → IsChangedBySome h.network edit road → IsTouchedEdgeBySome h edit edge
road_touched h sound edit edge Up ends road at joins changed = (ends, at, changed_by_some h.network h.order edit road ends.low ends.high changed (inl joins) (ends_rise h sound edge ends at))
road_touched h sound edit edge Down ends road at joins changed = (ends, at, changed_by_some h.network h.order edit road ends.low ends.high changed (inr joins) (ends_rise h sound edge ends at))

pub leads_touched : (h : HierarchyValue) → IsHierarchy h → (edit : List Edit) (edge : ℕ) (dir : Dir) (u v road : ℕ) → LeadsOver h.edges edge dir u v
    → LinksRanks h.network h.order road u v → IsChangedBySome h.network edit road → IsTouchedEdgeBySome h edit edge
leads_touched h sound edit edge dir u v road leads joins changed =
    road_touched h sound edit edge dir leads.ends road leads.at
    (subst (λ (x : ℕ). LinksRanks h.network h.order road x (end_of leads.ends dir)) (sym leads.from) (subst (λ (y : ℕ). LinksRanks h.network h.order road u y) (sym leads.to) joins)) changed

module _ (s : SettlingValue) where
  pub untouched_sides : IsHierarchy s.before → (edge : ℕ) → (IsTouchedEdgeBySome s.before s.edit edge → ⊥) → (side : ℕ) → IsLowerSide s.before.edges edge side
      → IsTouchedEdgeBySome s.before s.edit side → ⊥
  untouched_sides sound edge untouched side low touched = untouched (side_touched s.before sound s.edit edge side low touched)

  -- the ways of a list that won't change lead to none but such lists
  candidate_framed : (b : List TouchedEdge) (edge : ℕ) (dir : Dir) (u v : ℕ) (way : Way) → LeadsOver s.before.edges edge dir u v → HasFinalSides s edge
      → IsCandidateIn (settled_so_far s) u v way → IsFramed (settled_so_far s) (hierarchy_with_all s.before s.edit b) (FinalPair s) u v way
  candidate_framed b edge dir u v (Road road) leads sides c = λ t. refl
  candidate_framed b edge dir u v (Via m) leads sides (to, on, first, second) =
      let halves = halves_good s.before.edges (IsFinal s) edge dir u v m leads sides (edge_down (settled_so_far s) u m to first) (edge_up (settled_so_far s) m v on second) in
      (to, on, halves.0, halves.1)

  formed_framed : (b : List TouchedEdge) (edge : ℕ) (dir : Dir) (u v : ℕ) (way : Way) → LeadsOver s.before.edges edge dir u v → HasFinalSides s edge
      → IsWellFormed s.before u v way → IsFramed (settled_so_far s) (hierarchy_with_all s.before s.edit b) (FinalPair s) u v way
  formed_framed b edge dir u v (Road road) leads sides c = λ t. refl
  formed_framed b edge dir u v (Via m) leads sides (to, on, first, second, some, more) =
      let halves = halves_good s.before.edges (IsFinal s) edge dir u v m leads sides first second in
      (to, on, halves.0, halves.1)

  -- an edge that won't change isn't one that is yet to be settled
  pub other_edge : (e edge : ℕ) → IsFinal s edge → IsTouchedEdgeBySome s.before s.edit e → (IsSettled s e → ⊥) → e ≢ edge
  other_edge e edge (inl c) touched fresh = λ same. fresh (subst (IsSettled s) (sym same) c)
  other_edge e edge (inr untouched) touched fresh = λ same. untouched (subst (IsTouchedEdgeBySome s.before s.edit) same touched)

  -- where both halves of each way stay, the resettled list stays
  resettled_alike : (a b : List TouchedEdge) (u v : ℕ) → IsFrame (hierarchy_with_all s.before s.edit a) (hierarchy_with_all s.before s.edit b) (FinalPair s)
      → ((m : ℕ) → HasEdge s.before.edges m u → HasEdge s.before.edges m v → FinalPair s u m × FinalPair s m v)
      → ChoosesAlike (IsCandidateIn (hierarchy_with_all s.before s.edit a) u v) (IsCandidateIn (hierarchy_with_all s.before s.edit b) u v)
      (ArrivesIn (hierarchy_with_all s.before s.edit a) u v) (ArrivesIn (hierarchy_with_all s.before s.edit b) u v)
  resettled_alike a b u v frame halves = record { there = there; back = back; arrives = arrives; arrived = arrived }
    where
      old : HierarchyValue
      old = hierarchy_with_all s.before s.edit a

      new : HierarchyValue
      new = hierarchy_with_all s.before s.edit b

      there : (way : Way) → IsCandidateIn old u v way → IsCandidateIn new u v way
      there (Road road) c = c
      there (Via m) (to, on, first, second) =
          let pairs = halves m (edge_down old u m to first) (edge_up old m v on second) in
          (to, on, subst (λ (es : List Entry). es ≢ []) (frame.lists u m pairs.0) first, subst (λ (es : List Entry). es ≢ []) (frame.lists m v pairs.1) second)

      back : (way : Way) → IsCandidateIn new u v way → IsCandidateIn old u v way
      back (Road road) c = c
      back (Via m) (to, on, first, second) =
          let pairs = halves m (edge_down new u m to first) (edge_up new m v on second) in
          (to, on, subst (λ (es : List Entry). es ≢ []) (sym (frame.lists u m pairs.0)) first, subst (λ (es : List Entry). es ≢ []) (sym (frame.lists m v pairs.1)) second)

      arrives : (t : ℕ) (way : Way) (x : ℕ) → IsCandidateIn old u v way → ArrivesIn old u v t way x → ArrivesIn new u v t way x
      arrives t (Road road) x c e = e
      arrives t (Via m) x (to, on, first, second) e =
          let pairs = halves m (edge_down old u m to first) (edge_up old m v on second) in
          sym (via_same old new (FinalPair s) frame u v m t pairs.0 pairs.1) ∙ e

      arrived : (t : ℕ) (way : Way) (x : ℕ) → IsCandidateIn old u v way → ArrivesIn new u v t way x → ArrivesIn old u v t way x
      arrived t (Road road) x c e = e
      arrived t (Via m) x (to, on, first, second) e =
          let pairs = halves m (edge_down old u m to first) (edge_up old m v on second) in
          via_same old new (FinalPair s) frame u v m t pairs.0 pairs.1 ∙ e

  pub settled_cases : (t : TouchedEdge) (e : ℕ) → IsSettled (settled_with s t) e → IsSettled s e ⊎ (t.edge ≡ e)
  settled_cases t e c =
      let (x, among, same) = number_of_one (s.settled ++ (t ∷ [])) e c in
      elim (Contains-push_cases s.settled t x among) [
        | inl before ↦ inl (subst (IsSettled s) same (number_among s.settled x before))
        | inr last ↦ inr (ap (λ (y : TouchedEdge). y.edge) last ∙ same)
      ]

  pub settled_still : (t : TouchedEdge) (e : ℕ) → IsSettled s e → IsSettled (settled_with s t) e
  settled_still t e c =
      let (x, among, same) = number_of_one s.settled e c in
      subst (IsSettled (settled_with s t)) same (number_among (s.settled ++ (t ∷ [])) x (Contains-append_left s.settled (t ∷ []) x among))

  pub settled_itself : (t : TouchedEdge) → IsSettled (settled_with s t) t.edge
  settled_itself t = number_among (s.settled ++ (t ∷ [])) t (Contains-push s.settled t)

  pub final_still : (t : TouchedEdge) (e : ℕ) → IsFinal s e → IsFinal (settled_with s t) e
  final_still t e (inl c) = inl (settled_still t e c)
  final_still t e (inr untouched) = inr untouched

  -- where none but touched edges have new lists
  module _ (sound : IsHierarchy s.before) (only : (edge : ℕ) → IsSettled s edge → IsTouchedEdgeBySome s.before s.edit edge) where
    other_list : (e : ℕ) (d : Dir) → (IsTouchedEdgeBySome s.before s.edit e → ⊥) → list_of (settled_so_far s) e d ≡ list_of s.before e d
    other_list e d untouched = list_kept s.before s.edit s.settled e d (λ c. untouched (only e c))

    other_framed : (edge : ℕ) (dir : Dir) (u v : ℕ) (way : Way) → LeadsOver s.before.edges edge dir u v
        → (IsTouchedEdgeBySome s.before s.edit edge → ⊥) → IsWellFormed s.before u v way → IsFramed s.before (settled_so_far s) (UntouchedPair s.before s.edit) u v way
    other_framed edge dir u v (Road road) leads untouched formed = λ t.
        sym ((all_alike s.before.network s.edit road
        (λ changed. untouched (leads_touched s.before sound s.edit edge dir u v road leads (leads_joins s.before.network s.before.order road u v formed).0 changed))).value t)
    other_framed edge dir u v (Via m) leads untouched (to, on, first, second, some, more) =
        let halves = halves_good s.before.edges (λ e. IsTouchedEdgeBySome s.before s.edit e → ⊥) edge dir u v m leads (untouched_sides sound edge untouched) first second in
        (to, on, halves.0, halves.1)

    -- what isn't touched is as it was before the edit
    pub other_frame : IsFrame s.before (settled_so_far s) (UntouchedPair s.before s.edit)
    other_frame = record {
      lists = λ u v (edge, dir, leads, untouched).
          list_at s.before s.before sound refl edge dir u v leads ∙ sym (other_list edge dir untouched) ∙ sym (list_at s.before (settled_so_far s) sound refl edge dir u v leads);
      ways = λ u v (edge, dir, leads, untouched).
          all_so (λ (entry : Entry). IsWellFormed s.before u v entry.way)
          (λ (entry : Entry). IsFramed s.before (settled_so_far s) (UntouchedPair s.before s.edit) u v entry.way) (list_from s.before u v)
          (λ entry. other_framed edge dir u v entry.way leads untouched) (list_formed s.before sound u v);
    }

  module _ (are : AreSettled s) where
    -- a list of an edge that is settled
    pub settled_list : (t : TouchedEdge) (d : Dir) → Contains s.settled t → list_of (settled_so_far s) t.edge d ≡ list_in t d
    settled_list t d among =
        let (ends, at, touched) = are.touched t.edge (number_among s.settled t among) in
        let inside = slice_get_within s.before.edges t.edge ends at in
        let long = are.sound.lists in
        list_replaced s.before s.edit s.settled t d are.once among (omega (arith, inside, long))

    -- and of one that isn't touched
    pub untouched_list : (e : ℕ) (d : Dir) → (IsTouchedEdgeBySome s.before s.edit e → ⊥) → list_of (settled_so_far s) e d ≡ list_of s.before e d
    untouched_list e d untouched = other_list are.sound are.touched e d untouched

    resettled_at : (t : TouchedEdge) (dir : Dir) (u v : ℕ) → Contains s.settled t → LeadsOver s.before.edges t.edge dir u v
        → IsResettledList (settled_so_far s) u v (list_in t dir)
    resettled_at t dir u v among leads =
        subst (λ (x : ℕ). IsResettledList (settled_so_far s) x v (list_in t dir)) leads.from
        (subst (λ (y : ℕ). IsResettledList (settled_so_far s) (start_of leads.ends dir) y (list_in t dir)) leads.to (are.lists t among dir leads.ends leads.at))

    final_ways : (b : List TouchedEdge) (edge : ℕ) (dir : Dir) (u v : ℕ) → LeadsOver s.before.edges edge dir u v → IsFinal s edge
        → All (λ (entry : Entry). IsFramed (settled_so_far s) (hierarchy_with_all s.before s.edit b) (FinalPair s) u v entry.way) (list_from (settled_so_far s) u v)
    final_ways b edge dir u v leads (inl c) =
        let now = settled_so_far s in
        let (t, among, same) = number_of_one s.settled edge c in
        let there : LeadsOver s.before.edges t.edge dir u v = subst (λ (e : ℕ). LeadsOver s.before.edges e dir u v) (sym same) leads in
        let list : list_from now u v ≡ list_in t dir = list_at s.before now are.sound refl t.edge dir u v there ∙ settled_list t dir among in
        subst (All (λ (entry : Entry). IsFramed now (hierarchy_with_all s.before s.edit b) (FinalPair s) u v entry.way)) (sym list)
        (all_so (λ (entry : Entry). IsCandidateIn now u v entry.way) (λ (entry : Entry). IsFramed now (hierarchy_with_all s.before s.edit b) (FinalPair s) u v entry.way) (list_in t dir)
        (λ entry. candidate_framed b edge dir u v entry.way leads (are.sides edge c))
        (candidates_alone (IsCandidateIn now u v) (ArrivesIn now u v) (list_in t dir) (resettled_at t dir u v among there)))
    final_ways b edge dir u v leads (inr untouched) =
        let now = settled_so_far s in
        let list : list_from now u v ≡ list_from s.before u v =
        list_at s.before now are.sound refl edge dir u v leads ∙ untouched_list edge dir untouched ∙ sym (list_at s.before s.before are.sound refl edge dir u v leads) in
        subst (All (λ (entry : Entry). IsFramed now (hierarchy_with_all s.before s.edit b) (FinalPair s) u v entry.way)) (sym list)
        (all_so (λ (entry : Entry). IsWellFormed s.before u v entry.way) (λ (entry : Entry). IsFramed now (hierarchy_with_all s.before s.edit b) (FinalPair s) u v entry.way) (list_from s.before u v)
        (λ entry. formed_framed b edge dir u v entry.way leads (λ side low. inr (untouched_sides are.sound edge untouched side low)))
        (list_formed s.before are.sound u v))

    -- as one more edge is settled, such lists stay
    pub stays_frame : (t : TouchedEdge) → IsTouchedEdgeBySome s.before s.edit t.edge → (IsSettled s t.edge → ⊥)
        → IsFrame (settled_so_far s) (settled_so_far (settled_with s t)) (FinalPair s)
    stays_frame t touched fresh = record {
      lists = λ u v (edge, dir, leads, final).
          list_at s.before (settled_so_far s) are.sound refl edge dir u v leads
          ∙ sym (list_pushed s.before s.edit s.settled t edge dir (other_edge t.edge edge final touched fresh))
          ∙ sym (list_at s.before (settled_so_far (settled_with s t)) are.sound refl edge dir u v leads);
      ways = λ u v (edge, dir, leads, final). final_ways (s.settled ++ (t ∷ [])) edge dir u v leads final;
    }

    -- what isn't touched is as it was before the edit
    pub untouched_frame : IsFrame s.before (settled_so_far s) (UntouchedPair s.before s.edit)
    untouched_frame = other_frame are.sound are.touched

    -- the list of an edge with final sides stays resettled
    pub resettled_stays : (t : TouchedEdge) → IsTouchedEdgeBySome s.before s.edit t.edge → (IsSettled s t.edge → ⊥)
        → (edge : ℕ) (dir : Dir) (u v : ℕ) (es : List Entry) → LeadsOver s.before.edges edge dir u v → HasFinalSides s edge
        → IsResettledList (settled_so_far s) u v es → IsResettledList (settled_so_far (settled_with s t)) u v es
    resettled_stays t touched fresh edge dir u v es leads sides runs =
        let now = settled_so_far s in
        let next = settled_so_far (settled_with s t) in
        runs_alike (IsCandidateIn now u v) (IsCandidateIn next u v) (ArrivesIn now u v) (ArrivesIn next u v) es
        (resettled_alike s.settled (s.settled ++ (t ∷ [])) u v (stays_frame t touched fresh) (λ m to on. halves_good s.before.edges (IsFinal s) edge dir u v m leads sides to on)) runs

    -- one more edge is settled
    pub settled_more : (t : TouchedEdge) → IsTouchedEdgeBySome s.before s.edit t.edge → (IsSettled s t.edge → ⊥) → HasFinalSides s t.edge
        → IsResettledEdge (settled_so_far (settled_with s t)) t → AreSettled (settled_with s t)
    settled_more t touched fresh sides new = record {
      sound = are.sound;
      touched = λ e c. elim (settled_cases t e c) [
        | inl before ↦ are.touched e before
        | inr same ↦ subst (IsTouchedEdgeBySome s.before s.edit) same touched
      ];
      sides = λ e c side low. final_still t side (elim (settled_cases t e c) [
        | inl before ↦ are.sides e before side low
        | inr same ↦ sides side (subst (λ (x : ℕ). IsLowerSide s.before.edges x side) (sym same) low)
      ]);
      lists = λ x among. elim (Contains-push_cases s.settled t x among) [
        | inl before ↦ λ dir ends at.
            resettled_stays t touched fresh x.edge dir (start_of ends dir) (end_of ends dir) (list_in x dir) (over s.before.edges x.edge dir ends at)
            (are.sides x.edge (number_among s.settled x before)) (are.lists x before dir ends at)
        | inr last ↦ subst (IsResettledEdge (settled_so_far (settled_with s t))) last new
      ];
      once = pairs_append (λ (first second : TouchedEdge). first.edge ≢ second.edge) s.settled (t ∷ []) are.once (λ i j d lt inside. absurd (omega (arith, lt, inside)))
          (λ x y c last same. elim (member_cases t [] y last) [
            | inl here ↦ fresh (subst (IsSettled s) (same ∙ ap (λ (z : TouchedEdge). z.edge) (sym here)) (number_among s.settled x c))
            | inr past ↦ none_in_nil y past
          ]);
    }

pub settled_none : (h : HierarchyValue) (edit : List Edit) → IsHierarchy h → AreSettled (record { before = h; edit = edit; settled = [] })
settled_none h edit sound = record {
  sound = sound;
  touched = λ e c. absurd (none_in_nil e c);
  sides = λ e c. absurd (none_in_nil e c);
  lists = λ t c. absurd (none_in_nil t c);
  once = λ i j d lt inside. absurd (omega (arith, inside));
}
