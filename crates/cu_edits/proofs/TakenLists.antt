-- Functions that are known after an edit are those of the hierarchy after it.
use Rattle.std.proofs.Common.{◌≡◌, ◌≢◌, ◌<◌, ◌+◌, ◌*◌, ◌∙◌, ℕ, List, true, false, Option, Some, None, Result, Ok, Err, refl, ap, sym, subst, arith, get_or, inl, inr, length}
use Rattle.std.specs.Prelude.{IfOk, IfSome, slice_get}
use Rattle.std.specs.Result.{result_ok}
use Rattle.std.proofs.lemmas.Bool.{cases_eq}
use Rattle.std.proofs.lemmas.List.{length-set}
use Rattle.std.proofs.lemmas.Option.{same_Some, slice_get-get_or, slice_get_within}
use Rattle.cu_model.specs.declared.memory.NoMemory.{NoMemory}
use Rattle.cu_model.proofs.ListLaws.{get_here, get_other}
use Rattle.cu_arrival.specs.declared.runs.Run.{Run}
use Rattle.cu_chordal.specs.declared.graph.Ends.{Ends}
use Rattle.cu_chordal.specs.Graphs.{ChordalValue}
use Rattle.cu_chordal.proofs.Decided.{member_decided}
use Rattle.cu_interval.specs.declared.ways.Dir.{Dir}
use Rattle.cu_interval.specs.declared.ways.Dir.TheVariants.{Up, Down}
use Rattle.cu_interval.specs.declared.ways.TouchedEdge.{TouchedEdge}
use Rattle.cu_interval.specs.Hierarchies.{HierarchyValue, IsHierarchy, end_of, list_number, list_of, start_of}
use Rattle.cu_interval.proofs.EndsLaws.{each_number, number_parts}
use Rattle.cu_unpack.specs.RebuiltRuns.{IsKnownList, IsRebuiltRuns, IsSameList, IsSized, PackedValue, with_list}
use Rattle.cu_edits.specs.Learned.{ArePackedOf}
use Rattle.cu_edits.specs.Settling.{IsFinal, IsSettled, SettlingValue, numbers_of, settled_so_far}
use Rattle.cu_edits.specs.Steps.Packed.{IsSettlingPacked}
use Rattle.cu_edits.specs.Steps.Frames.{IsFrame}
use Rattle.cu_edits.specs.Steps.SettlerStates.{IsSettlingNone}
use Rattle.cu_edits.specs.Steps.Moving.{LeadsUpTo, MovedValue, StandingPair}
use Rattle.cu_edits.specs.Steps.Settled.{AreSettled}
use Rattle.cu_edits.specs.Steps.Taking.{HasTaken, IsTaken, TakesList}
use Rattle.cu_edits.proofs.StateLaws.{no_edge}
use Rattle.cu_edits.proofs.SettledFrames.{UntouchedPair, settled_none, untouched_frame}
use Rattle.cu_edits.proofs.Sides.{list_at, over}
use Rattle.cu_edits.proofs.PackedStay.{packed_stay}
use Rattle.cu_resettled.specs.ResettlingAll.{IsTouchedEdgeBySome}

same_then : (a b c : PackedValue) (number : ℕ) → IsSameList a b number → IsSameList b c number → IsSameList a c number
same_then a b c number (known, functions) (later, others) = (later ∙ known, others ∙ functions)

-- a list that was put leaves every other as it was
other_same : (before : PackedValue) (number other : ℕ) (function : Option (List Run)) → number ≢ other → IsSameList before (with_list before number function) other
other_same before number other function apart = (get_other before.known number other true apart, get_other before.functions number other function apart)

still_taken : (moved : MovedValue) (a b c : PackedValue) (edge : ℕ) (dir : Dir) → IsTaken moved a b edge dir → IsSameList b c (list_number edge dir) → IsTaken moved a c edge dir
still_taken moved a b c edge dir (inl (unmoved, same)) still = inl (unmoved, same_then a b c (list_number edge dir) same still)
still_taken moved a b c edge dir (inr (function, at, known, is)) (same, there) = inr (function, at, same ∙ known, there ∙ is)

module _ (moved : MovedValue) (a b c : PackedValue) (edge : ℕ) (dir : Dir) (takes : TakesList moved b c edge dir) where
  -- one list is taken
  one_taken : list_number edge dir < length b.known → list_number edge dir < length b.functions → IsSameList a b (list_number edge dir) → IsTaken moved a c edge dir
  one_taken known functions same = elim takes [
    | inl (unmoved, is) ↦ inl (unmoved, subst (λ (w : PackedValue). IsSameList a w (list_number edge dir)) (sym is) same)
    | inr (function, at, is) ↦ inr (
      function,
      at,
      subst (λ (w : PackedValue). IsKnownList w (list_number edge dir)) (sym is) (get_here b.known (list_number edge dir) true known),
      subst (λ (w : PackedValue). slice_get w.functions (list_number edge dir) ≡ Some function) (sym is) (get_here b.functions (list_number edge dir) function functions),
    )
  ]

  -- and no other
  others_same : (number : ℕ) → list_number edge dir ≢ number → IsSameList b c number
  others_same number apart = elim takes [
    | inl (unmoved, is) ↦ subst (λ (w : PackedValue). IsSameList b w number) (sym is) (refl, refl)
    | inr (function, at, is) ↦ subst (λ (w : PackedValue). IsSameList b w number) (sym is) (other_same b (list_number edge dir) number function apart)
  ]

  pub size_stays : (edges : ℕ) → IsSized edges b → IsSized edges c
  size_stays edges size = elim takes [
    | inl (unmoved, is) ↦ subst (IsSized edges) (sym is) size
    | inr (function, at, is) ↦ subst (IsSized edges) (sym is) (record {
      known = length-set b.known (list_number edge dir) true ∙ size.known;
      functions = length-set b.functions (list_number edge dir) function ∙ size.functions;
    })
  ]

-- none is, before the first edge
pub taken_none : (moved : MovedValue) (before : PackedValue) → HasTaken moved before before 0
taken_none moved before = record {
  size = λ edges size. size;
  taken = λ edge dir lt. absurd (omega (arith, lt));
  rest = λ edge dir le. (refl, refl);
}

-- those of one edge more
pub taken_more : (moved : MovedValue) (before now up down : PackedValue) (edge : ℕ) → HasTaken moved before now edge → list_number edge Down < length now.known
    → list_number edge Down < length now.functions
    → TakesList moved now up edge Up → TakesList moved up down edge Down → HasTaken moved before down (edge + 1)
taken_more moved before now up down edge has known functions first second = record {
  size = λ edges size. size_stays moved before up down edge Down second edges (size_stays moved before now up edge Up first edges (has.size edges size));
  taken = λ e dir lt. elim (cases_eq edge e) [
    | inl same ↦ subst (λ (x : ℕ). IsTaken moved before down x dir) same (both dir)
    | inr other ↦ still_taken moved before now down e dir (has.taken e dir (omega (arith, lt, other))) (neither e dir other)
  ];
  rest = λ e dir le. same_then before now down (list_number e dir) (has.rest e dir (omega (arith, le))) (neither e dir (omega (arith, le)));
}
  where
    neither : (e : ℕ) (dir : Dir) → edge ≢ e → IsSameList now down (list_number e dir)
    neither e dir other =
        same_then now up down (list_number e dir) (others_same moved before now up edge Up first (list_number e dir) (λ same. other (number_parts edge e Up dir same).0))
        (others_same moved before up down edge Down second (list_number e dir) (λ same. other (number_parts edge e Down dir same).0))

    long : (length up.known ≡ length now.known) × (length up.functions ≡ length now.functions)
    long = elim first [
      | inl (unmoved, is) ↦ (ap (λ (w : PackedValue). length w.known) is, ap (λ (w : PackedValue). length w.functions) is)
      | inr (function, at, is) ↦ (
        ap (λ (w : PackedValue). length w.known) is ∙ length-set now.known (list_number edge Up) true,
        ap (λ (w : PackedValue). length w.functions) is ∙ length-set now.functions (list_number edge Up) function,
      )
    ]

    both : (dir : Dir) → IsTaken moved before down edge dir
    both Up =
        still_taken moved before up down edge Up (one_taken moved before now up edge Up first (omega (arith, known)) (omega (arith, functions)) (has.rest edge Up (omega (arith))))
        (others_same moved before up down edge Down second (list_number edge Up) (λ same. omega (arith, same)))
    both Down =
        let (one, two) = long in
        one_taken moved before up down edge Down second (omega (arith, known, one)) (omega (arith, functions, two))
        (same_then before now up (list_number edge Down) (has.rest edge Down (omega (arith))) (others_same moved before now up edge Up first (list_number edge Down) (λ same. omega (arith, same))))

-- the edge of a list's number is below so many
edge_below : (edges edge : ℕ) (dir : Dir) → list_number edge dir < 2 * edges → edge < edges
edge_below edges edge Up lt = omega (arith, lt)
edge_below edges edge Down lt = omega (arith, lt)

-- the packed runs of a list in a hierarchy are those of its list in another that agrees with it on all that the list leads over
packed_in_frame : (a b : HierarchyValue) (Pair : ℕ → ℕ → Type 0) → IsFrame a b Pair → IsHierarchy a → b.edges ≡ a.edges → (edge : ℕ) (dir : Dir) → edge < length a.edges
    → ((ends : Ends) → slice_get a.edges edge ≡ Some ends → Pair (start_of ends dir) (end_of ends dir)) → (function : Option (List Run)) → IsRebuiltRuns a edge dir function
    → IsRebuiltRuns b edge dir function
packed_in_frame a b Pair frame sound same edge dir lt pair function packed =
    let none : Ends = record { low = 0; high = 0 } in
    let at = slice_get-get_or a.edges edge none lt in
    let ends = get_or a.edges edge none in
    let leads = over a.edges edge dir ends at in
    let list : list_of b edge dir ≡ list_of a edge dir =
    sym (list_at a b sound same edge dir (start_of ends dir) (end_of ends dir) leads) ∙ sym (frame.lists (start_of ends dir) (end_of ends dir) (pair ends at))
    ∙ list_at a a sound refl edge dir (start_of ends dir) (end_of ends dir) leads in
    packed_stay a b Pair frame a.edges refl same edge dir function pair list packed

-- functions known before an edit and those of the lists that it moved, once all edges are settled
module _ (s : SettlingValue) (graph : ChordalValue) (arcs : List (List ℕ)) (packed : PackedValue) (moved : MovedValue) (holds : IsSettlingPacked s graph arcs packed moved)
    (final : (edge : ℕ) → IsFinal s edge) (all_kept : moved.low ≡ 0) (now : PackedValue) (has : HasTaken moved packed now (length s.before.edges)) where
  abbrev after : HierarchyValue
  after = settled_so_far s

  size_now : IsSized (length s.before.edges) now
  size_now = has.size (length s.before.edges) holds.known.size

  leads_up : (edge : ℕ) → edge < length s.before.edges → LeadsUpTo s.before.edges moved.low edge
  leads_up edge lt =
      let none : Ends = record { low = 0; high = 0 } in
      (get_or s.before.edges edge none, slice_get-get_or s.before.edges edge none lt, omega (arith, all_kept))

  kept : (edge : ℕ) (dir : Dir) → edge < length s.before.edges → IsKnownList now (list_number edge dir) → (function : Option (List Run))
      → slice_get now.functions (list_number edge dir) ≡ Some function → IsTaken moved packed now edge dir → IsRebuiltRuns after edge dir function
  kept edge dir lt known function at (inl (unmoved, (same, there))) =
      packed_in_frame s.before after (StandingPair s moved) holds.stands holds.are.sound refl edge dir lt (λ ends given. (edge, dir, over s.before.edges edge dir ends given, final edge, unmoved))
      function (holds.known.keeps edge dir tt (sym same ∙ known) function (sym there ∙ at))
  kept edge dir lt known function at (inr (new, moved_to, is, there)) =
      subst (IsRebuiltRuns after edge dir) (same_Some new function (sym there ∙ at)) ((holds.moves edge dir new moved_to).1 (leads_up edge lt))

  pub taken_packed : ArePackedOf after now
  taken_packed = record {
    size = size_now;
    keeps = λ edge dir own known function at.
        let inside = slice_get_within now.known (list_number edge dir) true known in
        let long = size_now.known in
        let lt = edge_below (length s.before.edges) edge dir (omega (arith, inside, long)) in
        kept edge dir lt known function at (has.taken edge dir lt);
    unknown = λ number unknown.
        let (edge, dir, is) = each_number number in
        let inside = slice_get_within now.known number false unknown in
        let long = size_now.known in
        let lt = edge_below (length s.before.edges) edge dir (omega (arith, inside, long, is)) in
        elim (has.taken edge dir lt) [
          | inl (unmoved, same) ↦
              let (known, functions) = subst (IsSameList packed now) is same in
              functions ∙ holds.known.unknown number (sym known ∙ unknown)
          | inr (function, at, known, there) ↦
              let yes : slice_get now.known number ≡ Some true = subst (IsKnownList now) is known in
              absurd (cc (yes, unknown))
        ];
  }

-- functions known before an edit that touches no edge
pub untouched_packed : (s : SettlingValue) (graph : ChordalValue) (arcs : List (List ℕ)) → IsSettlingNone s graph arcs → ((edge : ℕ) → IsFinal s edge) → (packed : PackedValue)
    → ArePackedOf s.before packed → ArePackedOf (settled_so_far s) packed
untouched_packed s graph arcs holds final packed known = record {
  size = known.size;
  keeps = λ edge dir own is function at.
      let inside = slice_get_within packed.known (list_number edge dir) true is in
      let long = known.size.known in
      let lt = edge_below (length s.before.edges) edge dir (omega (arith, inside, long)) in
      packed_in_frame s.before (settled_so_far s) (UntouchedPair s.before s.edit) (untouched_frame s are) holds.parts.hierarchy.1 refl edge dir lt
      (λ ends given. (edge, dir, over s.before.edges edge dir ends given, untouched edge)) function (known.keeps edge dir tt is function at);
  unknown = known.unknown;
}
  where
    are : AreSettled s
    are = subst (λ (xs : List TouchedEdge). AreSettled (record s { settled = xs })) (sym holds.none) (settled_none s.before s.edit holds.parts.hierarchy.1)

    untouched : (edge : ℕ) → IsTouchedEdgeBySome s.before s.edit edge → ⊥
    untouched edge = elim (final edge) [
      | inl settled ↦ absurd (no_edge s holds.none edge settled)
      | inr off ↦ off
    ]

-- all edges are final once all that are touched are settled
pub all_final : (s : SettlingValue) → ((edge : ℕ) → IsTouchedEdgeBySome s.before s.edit edge → IsSettled s edge) → (edge : ℕ) → IsFinal s edge
all_final s all edge = elim (member_decided (numbers_of s.settled) edge) [
  | inl settled ↦ inl settled
  | inr off ↦ inr (λ touched. off (all edge touched))
]

-- what is known after an edit, as it is answered
module _ (s self : SettlingValue) (is : s ≡ self) (graph : ChordalValue) (arcs : List (List ℕ)) (all : (edge : ℕ) → IsTouchedEdgeBySome self.before self.edit edge → IsSettled self edge) where
  final : (edge : ℕ) → IsFinal s edge
  final = all_final s (subst (λ (x : SettlingValue). (edge : ℕ) → IsTouchedEdgeBySome x.before x.edit edge → IsSettled x edge) (sym is) all)

  pub none_after : (learned : Option PackedValue) → IsSettlingNone s graph arcs → IfSome learned (ArePackedOf s.before) → IfSome learned (ArePackedOf (settled_so_far self))
  none_after None none known = tt
  none_after (Some packed) none known = subst (λ (x : SettlingValue). ArePackedOf (settled_so_far x) packed) is (untouched_packed s graph arcs none final packed known)

  pub packed_after : (packed : PackedValue) (moved : MovedValue) → IsSettlingPacked s graph arcs packed moved → (edges : ℕ) → edges ≡ length graph.edges → (found : Option PackedValue)
      → IfSome found (λ now. (moved.low ≡ 0) × HasTaken moved packed now edges) → IfSome found (ArePackedOf (settled_so_far self))
  packed_after packed moved holds edges count None has = tt
  packed_after packed moved holds edges count (Some now) (all_kept, has) =
      let long : edges ≡ length s.before.edges = count ∙ ap (λ (k : ChordalValue). length k.edges) holds.parts.hierarchy.0 in
      let known = taken_packed s graph arcs packed moved holds final all_kept now (subst (HasTaken moved packed now) long has) in
      subst (λ (x : SettlingValue). ArePackedOf (settled_so_far x) now) is known
