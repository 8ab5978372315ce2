-- Lists that stand, and lists that were moved, as one edge more is settled.
use Rattle.std.proofs.Common.{◌≡◌, ◌≢◌, ◌≤◌, ◌<◌, ◌∙◌, ℕ, suc, List, [], Option, Some, refl, ap, sym, subst, arith, inl, inr, length}
use Rattle.std.specs.Prelude.{All, slice_get}
use Rattle.std.proofs.lemmas.Bool.{cases_eq}
use Rattle.std.proofs.lemmas.List.Elements.{Contains-push}
use Rattle.cu_model.proofs.RoadLaws.{all_at}
use Rattle.cu_arrival.specs.declared.runs.Run.{Run}
use Rattle.cu_chordal.specs.declared.graph.Ends.{Ends}
use Rattle.cu_interval.specs.declared.ways.Dir.{Dir}
use Rattle.cu_interval.specs.declared.ways.Way.{Way}
use Rattle.cu_interval.specs.declared.ways.Way.TheVariants.{Road, Via}
use Rattle.cu_interval.specs.declared.ways.Entry.{Entry}
use Rattle.cu_interval.specs.declared.ways.TouchedEdge.{TouchedEdge}
use Rattle.cu_interval.specs.Hierarchies.{HierarchyValue, end_of, list_from, list_number, list_of, start_of}
use Rattle.cu_unpack.specs.RebuiltRuns.{IsRebuiltRuns}
use Rattle.cu_edits.specs.declared.new_list.Outcome.{Outcome}
use Rattle.cu_edits.specs.declared.new_list.Outcome.TheVariants.{Stands, Moves}
use Rattle.cu_edits.specs.Settling.{IsFinal, IsSettled, SettlingValue, list_in, settled_so_far}
use Rattle.cu_edits.specs.Steps.Frames.{IsFrame, IsFramed, LeadsOver}
use Rattle.cu_edits.specs.Steps.Moving.{IsOutcome, IsMovedTo, IsUnmoved, LeadsUpTo, MovedValue, SayValue, StandingPair}
use Rattle.cu_edits.specs.Steps.Settled.{AreSettled}
use Rattle.cu_edits.proofs.Replaced.{list_pushed}
use Rattle.cu_edits.proofs.SettledFrames.{FinalPair, all_so, final_still, other_edge, settled_cases, settled_itself, settled_list, settled_still, settled_with, stays_frame, untouched_frame}
use Rattle.cu_edits.proofs.Sides.{list_at, over}
use Rattle.cu_edits.proofs.PackedStay.{packed_stay}
use Rattle.cu_resettled.specs.ResettlingAll.{IsTouchedEdgeBySome}

-- the pairs of a frame may be more
pub framed_as : (a b : HierarchyValue) (P Q : ℕ → ℕ → Type 0) → ((x y : ℕ) → P x y → Q x y) → (u v : ℕ) (way : Way) → IsFramed a b P u v way → IsFramed a b Q u v way
framed_as a b P Q so u v (Road road) framed = framed
framed_as a b P Q so u v (Via m) (to, on, first, second) = (to, on, so u m first, so m v second)

-- what became of both lists of an edge is in its place
abbrev pub IsPlacedAs : MovedValue → ℕ → Dir → Outcome → Type 0
IsPlacedAs moved edge dir Stands = IsUnmoved moved edge dir
IsPlacedAs moved edge dir (Moves function) = IsMovedTo moved edge dir function

pub record ArePlaced (old new : MovedValue) (edge : ℕ) (outcome : Dir → Outcome) : Type 0 where
  pub long : length new.places ≡ length old.places
  pub inside : All (λ (place : ℕ). place ≤ length new.functions) new.places
  pub others : (e : ℕ) (dir : Dir) → edge ≢ e → slice_get new.places (list_number e dir) ≡ slice_get old.places (list_number e dir)
  pub functions : (place : ℕ) → place < length old.functions → slice_get new.functions place ≡ slice_get old.functions place
  pub own : (dir : Dir) → IsPlacedAs new edge dir (outcome dir)
  pub low : new.low ≡ old.low

-- a list that isn't moved stands
stood : (moved : MovedValue) (edge : ℕ) (dir : Dir) (outcome : Outcome) → IsPlacedAs moved edge dir outcome → IsUnmoved moved edge dir → outcome ≡ Stands
stood moved edge dir Stands is unmoved = refl
stood moved edge dir (Moves function) (place, at, there) unmoved = let no : Some (suc place) ≡ Some 0 = sym at ∙ unmoved in absurd (cc no)

-- and one that is has the function that it was moved to
went : (moved : MovedValue) (edge : ℕ) (dir : Dir) (outcome : Outcome) (function : Option (List Run)) → IsPlacedAs moved edge dir outcome → IsMovedTo moved edge dir function → outcome ≡ Moves function
went moved edge dir Stands function unmoved (place, at, there) = let no : Some 0 ≡ Some (suc place) = sym unmoved ∙ at in absurd (cc no)
went moved edge dir (Moves given) function (p, at, there) (q, here, is) =
    let same : p ≡ q = cc (at, here) in
    let equal : given ≡ function = cc (subst (λ (k : ℕ). slice_get moved.functions k ≡ Some given) same there, is) in
    ap Moves equal

-- before an edge is settled all lists of edges that aren't touched stand
pub stands_none : (s : SettlingValue) (are : AreSettled s) (moved : MovedValue) → s.settled ≡ []
    → ((edge : ℕ) (dir : Dir) (ends : Ends) → slice_get s.before.edges edge ≡ Some ends → IsUnmoved moved edge dir)
    → ((edge : ℕ) → IsSettled s edge → ⊥) → IsFrame s.before (settled_so_far s) (StandingPair s moved)
stands_none s are moved none unmoved nothing = record { lists = lists; ways = ways }
  where
    Untouched : ℕ → ℕ → Type 0
    Untouched u v = (edge : ℕ) × (dir : Dir) × LeadsOver s.before.edges edge dir u v × (IsTouchedEdgeBySome s.before s.edit edge → ⊥)

    less : (u v : ℕ) → StandingPair s moved u v → Untouched u v
    less u v (edge, dir, leads, final, still) = (edge, dir, leads, elim final [ inl c ↦ absurd (nothing edge c) | inr untouched ↦ untouched ])

    more : (u v : ℕ) → Untouched u v → StandingPair s moved u v
    more u v (edge, dir, leads, untouched) = (edge, dir, leads, inr untouched, unmoved edge dir leads.ends leads.at)

    lists : (u v : ℕ) → StandingPair s moved u v → list_from s.before u v ≡ list_from (settled_so_far s) u v
    lists u v pair = (untouched_frame s are).lists u v (less u v pair)

    ways : (u v : ℕ) → StandingPair s moved u v → All (λ (entry : Entry). IsFramed s.before (settled_so_far s) (StandingPair s moved) u v entry.way) (list_from s.before u v)
    ways u v pair =
        all_so (λ (entry : Entry). IsFramed s.before (settled_so_far s) Untouched u v entry.way) (λ (entry : Entry). IsFramed s.before (settled_so_far s) (StandingPair s moved) u v entry.way)
        (list_from s.before u v) (λ entry. framed_as s.before (settled_so_far s) Untouched (StandingPair s moved) more u v entry.way) ((untouched_frame s are).ways u v (less u v pair))

-- one edge more is settled, of whose lists it is known what became of them
module _ (s : SettlingValue) (are : AreSettled s) (t : TouchedEdge) (touched : IsTouchedEdgeBySome s.before s.edit t.edge) (fresh : IsSettled s t.edge → ⊥) (more : AreSettled (settled_with s t))
    (moved after : MovedValue) (outcome : Dir → Outcome) (placed : ArePlaced moved after t.edge outcome)
    (became : (dir : Dir) (ends : Ends) → slice_get s.before.edges t.edge ≡ Some ends → IsOutcome s moved t.edge dir ends (list_in t dir) (outcome dir)) where
  abbrev pub now : HierarchyValue
  now = settled_so_far s

  abbrev pub next : HierarchyValue
  next = settled_so_far (settled_with s t)

  still : (u v : ℕ) → StandingPair s moved u v → StandingPair (settled_with s t) after u v
  still u v (edge, dir, leads, final, unmoved) =
      (edge, dir, leads, final_still s t edge final, placed.others edge dir (other_edge s t.edge edge final touched fresh) ∙ unmoved)

  framed : (u v : ℕ) (way : Way) → IsFramed s.before now (StandingPair s moved) u v way → IsFramed s.before next (StandingPair (settled_with s t) after) u v way
  framed u v (Road road) same = same
  framed u v (Via m) (to, on, first, second) = (to, on, still u m first, still m v second)

  all_framed : (u v : ℕ) (es : List Entry) → All (λ (entry : Entry). IsFramed s.before now (StandingPair s moved) u v entry.way) es
      → All (λ (entry : Entry). IsFramed s.before next (StandingPair (settled_with s t) after) u v entry.way) es
  all_framed u v es =
      all_so (λ (entry : Entry). IsFramed s.before now (StandingPair s moved) u v entry.way) (λ (entry : Entry). IsFramed s.before next (StandingPair (settled_with s t) after) u v entry.way) es
      (λ entry. framed u v entry.way)

  new_list : (dir : Dir) → list_of next t.edge dir ≡ list_in t dir
  new_list dir = settled_list (settled_with s t) more t dir (Contains-push s.settled t)

  -- a list of the edge that stands
  own : (dir : Dir) (u v : ℕ) → LeadsOver s.before.edges t.edge dir u v → IsUnmoved after t.edge dir
      → (list_in t dir ≡ list_of s.before t.edge dir) × All (λ (entry : Entry). IsFramed s.before now (StandingPair s moved) u v entry.way) (list_in t dir)
  own dir u v leads unmoved =
      let stands = stood after t.edge dir (outcome dir) (placed.own dir) unmoved in
      let (list, all) = subst (IsOutcome s moved t.edge dir leads.ends (list_in t dir)) stands (became dir leads.ends leads.at) in (
        list,
        subst (λ (x : ℕ). All (λ (entry : Entry). IsFramed s.before now (StandingPair s moved) x v entry.way) (list_in t dir)) leads.from
            (subst (λ (y : ℕ). All (λ (entry : Entry). IsFramed s.before now (StandingPair s moved) (start_of leads.ends dir) y entry.way) (list_in t dir)) leads.to all),
      )

  own_before : (dir : Dir) (u v : ℕ) → LeadsOver s.before.edges t.edge dir u v → IsUnmoved after t.edge dir → list_from s.before u v ≡ list_in t dir
  own_before dir u v leads unmoved = list_at s.before s.before are.sound refl t.edge dir u v leads ∙ sym (own dir u v leads unmoved).0

  -- another
  old_pair : (edge : ℕ) (dir : Dir) (u v : ℕ) → t.edge ≢ edge → LeadsOver s.before.edges edge dir u v → IsFinal (settled_with s t) edge → IsUnmoved after edge dir
      → IsFinal s edge × StandingPair s moved u v
  old_pair edge dir u v other leads final unmoved =
      let before : IsFinal s edge = elim final [
        | inl c ↦ elim (settled_cases s t edge c) [
          | inl earlier ↦ inl earlier
          | inr same ↦ absurd (other same)
        ]
        | inr untouched ↦ inr untouched
      ] in
      (before, (edge, dir, leads, before, sym (placed.others edge dir other) ∙ unmoved))

  pub stands_more : IsFrame s.before now (StandingPair s moved) → IsFrame s.before next (StandingPair (settled_with s t) after)
  stands_more frame = record {
    lists = λ u v (edge, dir, leads, final, unmoved). elim (cases_eq t.edge edge) [
      | inl same ↦
          let here : LeadsOver s.before.edges t.edge dir u v = subst (λ (e : ℕ). LeadsOver s.before.edges e dir u v) (sym same) leads in
          let stays : IsUnmoved after t.edge dir = subst (λ (e : ℕ). IsUnmoved after e dir) (sym same) unmoved in
          own_before dir u v here stays ∙ sym (new_list dir) ∙ sym (list_at s.before next are.sound refl t.edge dir u v here)
      | inr other ↦
          let (before, pair) = old_pair edge dir u v other leads final unmoved in
          frame.lists u v pair ∙ (stays_frame s are t touched fresh).lists u v (edge, dir, leads, before)
    ];
    ways = λ u v (edge, dir, leads, final, unmoved). elim (cases_eq t.edge edge) [
      | inl same ↦
          let here : LeadsOver s.before.edges t.edge dir u v = subst (λ (e : ℕ). LeadsOver s.before.edges e dir u v) (sym same) leads in
          let stays : IsUnmoved after t.edge dir = subst (λ (e : ℕ). IsUnmoved after e dir) (sym same) unmoved in
          subst (All (λ (entry : Entry). IsFramed s.before next (StandingPair (settled_with s t) after) u v entry.way)) (sym (own_before dir u v here stays))
          (all_framed u v (list_in t dir) (own dir u v here stays).1)
      | inr other ↦ all_framed u v (list_from s.before u v) (frame.ways u v (old_pair edge dir u v other leads final unmoved).1)
    ];
  }

  -- the functions of lists that were moved
  pub moves_more : All (λ (place : ℕ). place ≤ length moved.functions) moved.places
      → ((dir : Dir) (function : Option (List Run)) (ends : Ends) → slice_get s.before.edges t.edge ≡ Some ends
      → SayValue now (start_of ends dir) (end_of ends dir) (list_in t dir) function → IsRebuiltRuns next t.edge dir function)
      → ((edge : ℕ) (dir : Dir) (function : Option (List Run)) → IsMovedTo moved edge dir function → IsSettled s edge × (LeadsUpTo s.before.edges moved.low edge → IsRebuiltRuns now edge dir function))
      → (edge : ℕ) (dir : Dir) (function : Option (List Run)) → IsMovedTo after edge dir function
      → IsSettled (settled_with s t) edge × (LeadsUpTo s.before.edges after.low edge → IsRebuiltRuns next edge dir function)
  moves_more inside says moves edge dir function at = elim (cases_eq t.edge edge) [
    | inl same ↦
        let here : IsMovedTo after t.edge dir function = subst (λ (e : ℕ). IsMovedTo after e dir function) (sym same) at in
        let went_there = went after t.edge dir (outcome dir) function (placed.own dir) here in
        let (ends, there, is) = touched in
        let value = subst (IsOutcome s moved t.edge dir ends (list_in t dir)) went_there (became dir ends there) in (
          subst (IsSettled (settled_with s t)) same (settled_itself s t),
          λ up. subst (λ (e : ℕ). IsRebuiltRuns next e dir function) same (says dir function ends there value),
        )
    | inr other ↦
        let (place, there, is) = at in
        let before : slice_get moved.places (list_number edge dir) ≡ Some (suc place) = sym (placed.others edge dir other) ∙ there in
        let lt = all_at (λ (k : ℕ). k ≤ length moved.functions) moved.places (list_number edge dir) (suc place) inside before in
        let (settled, packed) = moves edge dir function (place, before, sym (placed.functions place (omega (arith, lt))) ∙ is) in (
          settled_still s t edge settled,
          λ up. packed_stay now next (FinalPair s) (stays_frame s are t touched fresh) s.before.edges refl refl edge dir function
              (λ ends given. (edge, dir, over s.before.edges edge dir ends given, inl settled)) (list_pushed s.before s.edit s.settled t edge dir other)
              (packed (subst (λ (low : ℕ). LeadsUpTo s.before.edges low edge) placed.low up)),
        )
  ]
