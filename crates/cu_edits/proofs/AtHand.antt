-- What is found over the graph of a hierarchy, said of the hierarchy.
use Rattle.std.proofs.Common.{◌≡◌, ◌<◌, ◌*◌, ◌⊎◌, ◌∙◌, ℕ, Bool, List, Some, ap, length, subst, sym, inl, inr, true}
use Rattle.std.specs.Prelude.{All, slice_get}
use Rattle.std.proofs.lemmas.Option.{slice_get-get_or, slice_get_within}
use Rattle.cu_model.specs.declared.roads.Edit.{Edit}
use Rattle.cu_model.proofs.RoadLaws.{all_at}
use Rattle.cu_chordal.specs.declared.graph.Ends.{Ends}
use Rattle.cu_chordal.specs.Graphs.{ChordalValue, IsRising}
use Rattle.cu_interval.specs.declared.ways.Dir.{Dir}
use Rattle.cu_interval.specs.declared.ways.Dir.TheVariants.{Up, Down}
use Rattle.cu_interval.specs.declared.ways.Entry.{Entry}
use Rattle.cu_interval.specs.declared.ways.Way.{Way}
use Rattle.cu_interval.specs.declared.ways.Way.TheVariants.{Road, Via}
use Rattle.cu_interval.specs.Hierarchies.{HierarchyValue, IsHierarchyOf, IsWellFormed, end_of, list_number, list_of, start_of}
use Rattle.cu_interval.proofs.EndsLaws.{number_within}
use Rattle.cu_customize.specs.declared.triangles.Triangle.{Triangle}
use Rattle.cu_customize.specs.Triangles.{AreTrianglesOf}
use Rattle.cu_unpack.specs.RebuiltRuns.{PackedValue}
use Rattle.cu_edits.specs.declared.learning_packed.Middles.TheVariants.{Within, Moved}
use Rattle.cu_edits.specs.Learned.{ArePackedOf}
use Rattle.cu_edits.specs.Steps.Packed.{AreAtHandIfMoved, AreCandidatesAtHand, IsAtHand, IsWayAtHand, LearnsPacked, functions_at_hand}
use Rattle.cu_edits.specs.Steps.Bounds.{HalvesTakeMore, SomeTakeNoMore, no_limit}
use Rattle.cu_edits.specs.Steps.Moving.{AreWaysUnmoved, HalvesAre, IsUnmoved, IsUnmovedWay, KeepsWays, MayStand, MovedValue}
use Rattle.cu_edits.specs.Steps.Triangles.{AreLearned, HalvesByAre, IsLimit, TellsSides}
use Rattle.cu_edits.proofs.TriangleHalves.{all_halves, moved_halves, rival_halves, some_take}
use Rattle.cu_edits.proofs.LimitLaws.{limit_still}
use Rattle.cu_resettled.specs.ResettlingAll.{IsChangedBySome}

module _ (h : HierarchyValue) (graph : ChordalValue) (of : IsHierarchyOf graph h) where
  pub same_edges : graph.edges ≡ h.edges
  same_edges = ap (λ (k : ChordalValue). k.edges) of.0

  rising : IsRising graph.edges
  rising = subst (λ (k : ChordalValue). IsRising k.edges) (sym of.0) of.1.graph.rising

  -- a fact of the ends of an edge of the graph is one of those of the hierarchy's
  pub of_all_ends : (Fact : List Ends → Ends → Type 0) (edge : ℕ) → ((ends : Ends) → slice_get graph.edges edge ≡ Some ends → Fact graph.edges ends) → (given : Ends)
      → slice_get h.edges edge ≡ Some given → Fact h.edges given
  of_all_ends Fact edge fact =
      subst (λ (es : List Ends). (ends : Ends) → slice_get es edge ≡ Some ends → Fact es ends) same_edges fact

  module _ (edit : List Edit) (marks : List Bool) (moved : MovedValue) (edge : ℕ) (dir : Dir) where
    -- a list may stand
    pub may_stand : (arcs : List (List ℕ)) (triangles : List Triangle) → slice_get marks edge ≡ Some true
        → ((list : List ℕ) → slice_get arcs (list_number edge dir) ≡ Some list → All (λ a. IsChangedBySome h.network edit a → ⊥) list) → AreTrianglesOf graph.edges edge triangles
        → All (HalvesByAre (IsUnmoved moved) dir) triangles → MayStand h edit arcs marks moved edge dir
    may_stand arcs triangles marked roads are unmoved = record {
      marked = marked;
      roads = roads;
      halves = of_all_ends (λ es ends. (middle : ℕ) → HalvesAre (IsUnmoved moved) es ends dir middle) edge
          (λ ends at. all_halves graph.edges rising ends dir triangles (are ends at) (IsUnmoved moved) unmoved);
    }

    -- its ways are as they were
    pub ways_unmoved : ((ends : Ends) → slice_get graph.edges edge ≡ Some ends
        → All (λ (entry : Entry). IsUnmovedWay h.network edit graph.edges moved ends dir entry.way) (list_of h edge dir)) → AreWaysUnmoved h edit moved edge dir
    ways_unmoved = of_all_ends (λ es ends. All (λ (entry : Entry). IsUnmovedWay h.network edit es moved ends dir entry.way) (list_of h edge dir)) edge

    -- those of all that may be in time are
    pub rivals_at_hand : (packed learnt : PackedValue) (triangles : List Triangle) (limit : ℕ) → AreTrianglesOf graph.edges edge triangles → ArePackedOf h packed → LearnsPacked h packed learnt
        → IsLimit (functions_at_hand moved packed) dir triangles limit → All (AreLearned h (Within limit) moved learnt dir) triangles → AreCandidatesAtHand h edit marks moved learnt edge dir
    rivals_at_hand packed learnt triangles limit are old learns is known = inl (record {
      limit = limit;
      in_time = of_all_ends (λ es ends. (limit ≡ no_limit) ⊎ SomeTakeNoMore (functions_at_hand moved learnt) limit es ends dir) edge
          (λ ends at. elim (limit_still h moved packed learnt (old.size.functions ∙ sym learns.packed.size.functions) learns dir triangles limit is) [
            | inl none ↦ inl none
            | inr some ↦ inr (some_take graph.edges rising ends dir triangles (are ends at) (functions_at_hand moved learnt) limit some)
          ]);
      each = of_all_ends (λ es ends. (middle : ℕ)
          → (HalvesAre (IsUnmoved moved) es ends dir middle × HalvesTakeMore h limit es ends dir middle) ⊎ HalvesAre (IsAtHand moved learnt) es ends dir middle) edge
          (λ ends at. rival_halves graph.edges rising ends dir triangles (are ends at) h moved learnt limit known);
    })

    still_at_hand : (packed learnt : PackedValue) → LearnsPacked h packed learnt → (es : List Ends) (ends : Ends) (way : Way) → IsWayAtHand moved packed es ends dir way
        → IsWayAtHand moved learnt es ends dir way
    still_at_hand packed learnt learns es ends (Road a) hand = hand
    still_at_hand packed learnt learns es ends (Via m) hand = λ first second are.
        let both = hand first second are in (λ unmoved. learns.still first Down (both.0 unmoved), λ unmoved. learns.still second Up (both.1 unmoved))

    -- those of some candidates are
    pub some_at_hand : (packed learnt : PackedValue) (triangles : List Triangle) → AreTrianglesOf graph.edges edge triangles → KeepsWays h edit marks moved edge dir
        → ((ends : Ends) → slice_get graph.edges edge ≡ Some ends → All (λ (entry : Entry). IsWayAtHand moved packed graph.edges ends dir entry.way) (list_of h edge dir))
        → LearnsPacked h packed learnt → All (AreLearned h Moved moved learnt dir) triangles → AreCandidatesAtHand h edit marks moved learnt edge dir
    some_at_hand packed learnt triangles are keeps ways learns known = inr (
      keeps,
      of_all_ends (λ es ends. All (λ (entry : Entry). IsWayAtHand moved learnt es ends dir entry.way) (list_of h edge dir)) edge
          (λ ends at k d lt. still_at_hand packed learnt learns graph.edges ends _ (ways ends at k d lt)),
      of_all_ends (λ es ends. (middle : ℕ) → AreAtHandIfMoved moved learnt es ends dir middle) edge
          (λ ends at. moved_halves graph.edges rising ends dir triangles (are ends at) h moved learnt known),
    )

-- the way of an entry of a list of the hierarchy, whose edge has these ends in the graph
pub entry_formed : (h : HierarchyValue) (graph : ChordalValue) → IsHierarchyOf graph h → (edge : ℕ) (ends : Ends) (dir : Dir) (index : ℕ) (entry : Entry)
    → slice_get graph.edges edge ≡ Some ends → slice_get (list_of h edge dir) index ≡ Some entry → IsWellFormed h (start_of ends dir) (end_of ends dir) entry.way
entry_formed h graph of edge ends dir index entry at there =
    let here = subst (λ (es : List Ends). slice_get es edge ≡ Some ends) (same_edges h graph of) at in
    all_at (λ (e : Entry). IsWellFormed h (start_of ends dir) (end_of ends dir) e.way) (list_of h edge dir) index entry (of.1.formed edge dir ends here) there

-- it is told of both lists of an edge whether they were moved
pub told_of : (moved : MovedValue) (edges : List Ends) (edge : ℕ) (ends : Ends) (dir : Dir) → length moved.places ≡ 2 * length edges → slice_get edges edge ≡ Some ends
    → list_number edge dir < length moved.places
told_of moved edges edge ends dir long at = subst (λ (n : ℕ). list_number edge dir < n) (sym long) (number_within edge (length edges) dir (slice_get_within edges edge ends at))

-- so it is of all sides of the triangles of an edge
pub told_sides : (moved : MovedValue) (edges : List Ends) (edge : ℕ) (triangles : List Triangle) → length moved.places ≡ 2 * length edges → edge < length edges
    → AreTrianglesOf edges edge triangles → All (TellsSides moved) triangles
told_sides moved edges edge triangles long inside are k d lt =
    let is = (are _ (slice_get-get_or edges edge (record { low = 0; high = 0 }) inside)).each k d lt in
    (told_of moved edges _ _ Down long is.to_low, told_of moved edges _ _ Down long is.to_high)
