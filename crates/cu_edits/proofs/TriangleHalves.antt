-- The halves of the ways by the middles of an edge's lower triangles.
use Rattle.std.proofs.Common.{◌≡◌, ◌⊎◌, ℕ, List, Option, get_or, inl, inr, subst, sym}
use Rattle.std.specs.Prelude.{All}
use Rattle.std.proofs.lemmas.List.Elements.{All-contains, All-map}
use Rattle.cu_arrival.specs.declared.runs.Run.{Run}
use Rattle.cu_chordal.specs.declared.graph.Ends.{Ends}
use Rattle.cu_chordal.specs.Graphs.{HasEdge, IsRising}
use Rattle.cu_chordal.proofs.Decided.{member_decided}
use Rattle.cu_chordal.proofs.Members.{member_at}
use Rattle.cu_interval.specs.declared.ways.Dir.{Dir}
use Rattle.cu_interval.specs.declared.ways.Dir.TheVariants.{Up, Down}
use Rattle.cu_interval.specs.Hierarchies.{HierarchyValue}
use Rattle.cu_interval.specs.Shortcuts.{AreHalfEdges}
use Rattle.cu_customize.specs.declared.triangles.Triangle.{Triangle}
use Rattle.cu_customize.specs.Triangles.{AreTriangles, IsTriangle, middles_in}
use Rattle.cu_unpack.specs.RebuiltRuns.{PackedValue}
use Rattle.cu_edits.specs.declared.learning_packed.Middles.{Middles}
use Rattle.cu_edits.specs.declared.learning_packed.Middles.TheVariants.{Within, Moved}
use Rattle.cu_edits.specs.Steps.Bounds.{HalvesTakeMore, SomeTakeNoMore, TakeMoreThan}
use Rattle.cu_edits.specs.Steps.Moving.{BothAre, HalvesAre, IsUnmoved, MovedValue, TellsBoth}
use Rattle.cu_edits.specs.Steps.Packed.{AreAtHandIfMoved, IsAtHand}
use Rattle.cu_edits.specs.Steps.Triangles.{AreLearned, AreLeftOut, HalvesByAre, SomeTakesNoMore, TellsSides, halves_by}
use Rattle.cu_edits.proofs.BothHalves.{halves_are, pairs_are}

-- they lie between the ends of the edge
halves_between : (edges : List Ends) (ends : Ends) (dir : Dir) (triangle : Triangle) → IsTriangle edges ends.low ends.high triangle
    → AreHalfEdges edges ends dir triangle.middle (halves_by dir triangle).0 (halves_by dir triangle).1
halves_between edges ends Up triangle is = record { to = is.to_low; on = is.to_high }
halves_between edges ends Down triangle is = record { to = is.to_high; on = is.to_low }

-- what is so of them is so of any by this middle
by_triangle : (Good : ℕ → Dir → Type 0) (edges : List Ends) → IsRising edges → (ends : Ends) (dir : Dir) (triangle : Triangle) → IsTriangle edges ends.low ends.high triangle
    → HalvesByAre Good dir triangle → HalvesAre Good edges ends dir triangle.middle
by_triangle Good edges rising ends dir triangle is both =
    halves_are Good edges rising ends dir triangle.middle (halves_by dir triangle).0 (halves_by dir triangle).1 (halves_between edges ends dir triangle is) both.0 both.1

-- the middle is joined to both ends
joins_both : (edges : List Ends) (ends : Ends) (dir : Dir) (middle first second : ℕ) → AreHalfEdges edges ends dir middle first second
    → HasEdge edges middle ends.low × HasEdge edges middle ends.high
joins_both edges ends Up middle first second are = (
  member_at edges (record { low = middle; high = ends.low }) first are.to,
  member_at edges (record { low = middle; high = ends.high }) second are.on,
)
joins_both edges ends Down middle first second are = (
  member_at edges (record { low = middle; high = ends.low }) second are.on,
  member_at edges (record { low = middle; high = ends.high }) first are.to,
)

module _ (edges : List Ends) (rising : IsRising edges) (ends : Ends) (dir : Dir) (triangles : List Triangle) (are : AreTriangles edges ends.low ends.high triangles) where
  -- a fact of the middle of each triangle, which is one of any middle without halves, is one of every middle
  by_middles : (Fact : ℕ → Type 0) → All (λ (triangle : Triangle). Fact triangle.middle) triangles
      → ((middle : ℕ) → ((first second : ℕ) → AreHalfEdges edges ends dir middle first second → ⊥) → Fact middle) → (middle : ℕ) → Fact middle
  by_middles Fact all none middle = elim (member_decided (middles_in triangles) middle) [
    | inl there ↦ All-contains Fact (middles_in triangles) middle (All-map Fact (λ (triangle : Triangle). triangle.middle) triangles all) there
    | inr apart ↦ none middle (λ first second halves.
        let (low, high) = joins_both edges ends dir middle first second halves in apart (are.whole middle low high))
  ]

  -- what is so of the halves by each triangle's is so of those by any
  pub all_halves : (Good : ℕ → Dir → Type 0) → All (HalvesByAre Good dir) triangles → (middle : ℕ) → HalvesAre Good edges ends dir middle
  all_halves Good all =
      by_middles (HalvesAre Good edges ends dir) (λ k d lt. by_triangle Good edges rising ends dir (get_or triangles k d) (are.each k d lt) (all k d lt))
      (λ middle none first second halves. absurd (none first second halves))

  -- where halves are left out unless they are at hand, so it is by any middle
  if_moved : (h : HierarchyValue) (moved : MovedValue) (packed : PackedValue) (triangle : Triangle) → IsTriangle edges ends.low ends.high triangle → AreLearned h Moved moved packed dir triangle
      → AreAtHandIfMoved moved packed edges ends dir triangle.middle
  if_moved h moved packed triangle is (inl unmoved) = inl (by_triangle (IsUnmoved moved) edges rising ends dir triangle is unmoved)
  if_moved h moved packed triangle is (inr known) = inr (by_triangle (IsAtHand moved packed) edges rising ends dir triangle is known)

  pub moved_halves : (h : HierarchyValue) (moved : MovedValue) (packed : PackedValue) → All (AreLearned h Moved moved packed dir) triangles → (middle : ℕ)
      → AreAtHandIfMoved moved packed edges ends dir middle
  moved_halves h moved packed all =
      by_middles (AreAtHandIfMoved moved packed edges ends dir) (λ k d lt. if_moved h moved packed (get_or triangles k d) (are.each k d lt) (all k d lt))
      (λ middle none. inl (λ first second halves. absurd (none first second halves)))

  abbrev pub AreRivals : HierarchyValue → MovedValue → PackedValue → ℕ → ℕ → Type 0
  AreRivals h moved packed limit middle =
      (HalvesAre (IsUnmoved moved) edges ends dir middle × HalvesTakeMore h limit edges ends dir middle) ⊎ HalvesAre (IsAtHand moved packed) edges ends dir middle

  if_late : (h : HierarchyValue) (moved : MovedValue) (packed : PackedValue) (limit : ℕ) (triangle : Triangle) → IsTriangle edges ends.low ends.high triangle
      → AreLearned h (Within limit) moved packed dir triangle → AreRivals h moved packed limit triangle.middle
  if_late h moved packed limit triangle is (inl (unmoved, late)) = inl (
    by_triangle (IsUnmoved moved) edges rising ends dir triangle is unmoved,
    pairs_are (TakeMoreThan h limit) edges rising ends dir triangle.middle (halves_by dir triangle).0 (halves_by dir triangle).1 (halves_between edges ends dir triangle is) late,
  )
  if_late h moved packed limit triangle is (inr known) = inr (by_triangle (IsAtHand moved packed) edges rising ends dir triangle is known)

  pub rival_halves : (h : HierarchyValue) (moved : MovedValue) (packed : PackedValue) (limit : ℕ) → All (AreLearned h (Within limit) moved packed dir) triangles → (middle : ℕ)
      → AreRivals h moved packed limit middle
  rival_halves h moved packed limit all =
      by_middles (AreRivals h moved packed limit) (λ k d lt. if_late h moved packed limit (get_or triangles k d) (are.each k d lt) (all k d lt))
      (λ middle none. inr (λ first second halves. absurd (none first second halves)))

  -- the way by a triangle's middle is one by a middle
  pub some_take : (functions : List (Option (List Run))) (limit : ℕ) → SomeTakesNoMore functions dir triangles limit → SomeTakeNoMore functions limit edges ends dir
  some_take functions limit some =
      let is = All-contains (IsTriangle edges ends.low ends.high) triangles some.triangle are.each some.among in
      record {
        middle = some.triangle.middle;
        first = (halves_by dir some.triangle).0;
        second = (halves_by dir some.triangle).1;
        are = halves_between edges ends dir some.triangle is;
        take = some.take;
      }

-- it is told of both halves by a triangle's middle whether they were moved
pub told_halves : (moved : MovedValue) (dir : Dir) (triangle : Triangle) (edges : ℕ × ℕ) → edges ≡ halves_by dir triangle → TellsSides moved triangle → TellsBoth moved edges
told_halves moved Up triangle edges same sides = subst (TellsBoth moved) (sym same) sides
told_halves moved Down triangle edges same sides = subst (TellsBoth moved) (sym same) (sides.1, sides.0)

-- halves that are left out need not be learned
pub left_out : (h : HierarchyValue) (which : Middles) (moved : MovedValue) (packed : PackedValue) (dir : Dir) (triangle : Triangle) (edges : ℕ × ℕ) → edges ≡ halves_by dir triangle
    → AreLeftOut h which moved edges → AreLearned h which moved packed dir triangle
left_out h which moved packed dir triangle edges same out = inl (subst (AreLeftOut h which moved) same out)

-- where both halves are at hand, nothing else is asked
pub both_learned : (h : HierarchyValue) (which : Middles) (moved : MovedValue) (packed : PackedValue) (dir : Dir) (triangle : Triangle) (edges : ℕ × ℕ) → edges ≡ halves_by dir triangle
    → BothAre (IsAtHand moved packed) edges → AreLearned h which moved packed dir triangle
both_learned h which moved packed dir triangle edges same known = inr (subst (BothAre (IsAtHand moved packed)) same known)
