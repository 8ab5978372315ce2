-- Packed runs that are learned of lists of the hierarchy before an edit, one list after the other.
use Rattle.std.proofs.Common.{◌≡◌, ◌<◌, ◌+◌, ◌∙◌, ℕ, Bool, List, Some, true, false, arith, get_or, inl, inr, length, subst, sym, take}
use Rattle.std.specs.Prelude.{All, slice_get}
use Rattle.std.proofs.lemmas.List.Elements.{All-more}
use Rattle.std.proofs.lemmas.Option.{slice_get-get_or, slice_get_within}
use Rattle.cu_arrival.specs.declared.runs.Run.{Run}
use Rattle.cu_chordal.specs.declared.graph.Ends.{Ends}
use Rattle.cu_interval.specs.declared.ways.Dir.{Dir}
use Rattle.cu_interval.specs.declared.ways.Dir.TheVariants.{Up, Down}
use Rattle.cu_interval.specs.declared.ways.Way.{Way}
use Rattle.cu_interval.specs.declared.ways.Way.TheVariants.{Road, Via}
use Rattle.cu_interval.specs.declared.ways.Entry.{Entry}
use Rattle.cu_interval.specs.Hierarchies.{HierarchyValue, list_number}
use Rattle.cu_interval.proofs.EndsLaws.{each_number}
use Rattle.cu_customize.specs.declared.triangles.Triangle.{Triangle}
use Rattle.cu_unpack.specs.RebuiltRuns.{IsKnownList, IsSameList, IsSized, Learns, PackedValue}
use Rattle.cu_unpack.proofs.Learning.{learned_keeps, learned_still}
use Rattle.cu_edits.specs.declared.learning_packed.Middles.{Middles}
use Rattle.cu_edits.specs.Learned.{ArePackedOf}
use Rattle.cu_edits.specs.Steps.Packed.{IsAtHand, IsWayAtHand, LearnsPacked}
use Rattle.cu_edits.specs.Steps.Moving.{BothAre, HalvesAre, MovedValue}
use Rattle.cu_edits.specs.Steps.Triangles.{AreLearned, halves_by}

-- of a list that has a function it is told whether it is known
told : (h : HierarchyValue) (before : PackedValue) → ArePackedOf h before → (edge : ℕ) (dir : Dir) (function : List Run)
    → slice_get before.functions (list_number edge dir) ≡ Some (Some function) → (known : Bool) × (slice_get before.known (list_number edge dir) ≡ Some known)
told h before are edge dir function there =
    let inside = slice_get_within before.functions (list_number edge dir) (Some function) there in
    let long = are.size.functions in
    let as_long = are.size.known in
    (get_or before.known (list_number edge dir) false, slice_get-get_or before.known (list_number edge dir) false (omega (arith, inside, long, as_long)))

-- and it is
has_known : (h : HierarchyValue) (before : PackedValue) → ArePackedOf h before → (edge : ℕ) (dir : Dir) (function : List Run) (known : Bool)
    → slice_get before.functions (list_number edge dir) ≡ Some (Some function) → slice_get before.known (list_number edge dir) ≡ Some known → IsKnownList before (list_number edge dir)
has_known h before are edge dir function true there at = at
has_known h before are edge dir function false there at = absurd (cc (there, are.unknown (list_number edge dir) at))

-- one list was learned, and those that it needs
pub learns_list : (h : HierarchyValue) (edge : ℕ) (before now : PackedValue) → ArePackedOf h before → IsSized (length h.edges) now → Learns h edge before now → LearnsPacked h before now
learns_list h edge before now are size learns = record {
  packed = record {
    size = size;
    keeps = learned_keeps h (λ e. Unit {0}) edge before now learns are.keeps;
    unknown = λ number unknown.
        let (e, d, is) = each_number number in
        elim (learns e d) [
          | inl same ↦ (let (known, functions) = subst (IsSameList before now) is same in functions ∙ are.unknown number (sym known ∙ unknown))
          | inr learned ↦
              let known : slice_get now.known number ≡ Some true = subst (IsKnownList now) is learned.known in
              absurd (cc (known, unknown))
        ];
  };
  still = λ e d known. (learned_still h edge before now learns e d known).0;
  same = λ e d function there. elim (learns e d) [
    | inl alike ↦ alike.1 ∙ there
    | inr learned ↦
        let (known, at) = told h before are e d function there in
        absurd (learned.unknown (has_known h before are e d function known there at))
  ];
}

-- one after the other
pub learns_then : (h : HierarchyValue) (before mid now : PackedValue) → LearnsPacked h before mid → LearnsPacked h mid now → LearnsPacked h before now
learns_then h before mid now first second = record {
  packed = second.packed;
  still = λ e d known. second.still e d (first.still e d known);
  same = λ e d function there. second.same e d function (first.same e d function there);
}

-- what was at hand still is
module _ (h : HierarchyValue) (moved : MovedValue) (before now : PackedValue) (learns : LearnsPacked h before now) where
  pub still_at_hand : (edge : ℕ) (dir : Dir) → IsAtHand moved before edge dir → IsAtHand moved now edge dir
  still_at_hand edge dir known unmoved = learns.still edge dir (known unmoved)

  halves_still : (edges : List Ends) (ends : Ends) (dir : Dir) (middle : ℕ) → HalvesAre (IsAtHand moved before) edges ends dir middle → HalvesAre (IsAtHand moved now) edges ends dir middle
  halves_still edges ends dir middle known first second are =
      let both = known first second are in
      (still_at_hand first Down both.0, still_at_hand second Up both.1)

  way_still : (edges : List Ends) (ends : Ends) (dir : Dir) (way : Way) → IsWayAtHand moved before edges ends dir way → IsWayAtHand moved now edges ends dir way
  way_still edges ends dir (Road a) known = known
  way_still edges ends dir (Via m) known = halves_still edges ends dir m known

  pub ways_still : (edges : List Ends) (ends : Ends) (dir : Dir) (entries : List Entry) → All (λ (entry : Entry). IsWayAtHand moved before edges ends dir entry.way) entries
      → All (λ (entry : Entry). IsWayAtHand moved now edges ends dir entry.way) entries
  ways_still edges ends dir entries all k d inside = way_still edges ends dir (get_or entries k d).way (all k d inside)

  both_still : (edges : ℕ × ℕ) → BothAre (IsAtHand moved before) edges → BothAre (IsAtHand moved now) edges
  both_still edges known = (still_at_hand edges.0 Down known.0, still_at_hand edges.1 Up known.1)

  triangle_still : (which : Middles) (dir : Dir) (triangle : Triangle) → AreLearned h which moved before dir triangle → AreLearned h which moved now dir triangle
  triangle_still which dir triangle (inl out) = inl out
  triangle_still which dir triangle (inr known) = inr (both_still (halves_by dir triangle) known)

  -- so it is of the first triangles and one more
  pub learns_more : (which : Middles) (dir : Dir) (triangles : List Triangle) (i : ℕ) (d : Triangle) → i < length triangles
      → All (AreLearned h which moved before dir) (take i triangles) → AreLearned h which moved now dir (get_or triangles i d) → All (AreLearned h which moved now dir) (take (i + 1) triangles)
  learns_more which dir triangles i d inside all one =
      All-more (AreLearned h which moved now dir) triangles i d inside (λ k e lt. triangle_still which dir (get_or (take i triangles) k e) (all k e lt)) one
