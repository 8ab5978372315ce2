-- The list of the edges taken out so far, and in the end of all touched edges.
use Rattle.std.proofs.Common.{◌≡◌, ◌≢◌, ◌≤◌, ◌<◌, ◌+◌, ◌-◌, ◌∙◌, ℕ, List, [], ◌∷◌, ◌++◌, Some, refl, nat_cmp, ap, sym, subst, arith, inl, inr, length}
use Rattle.std.specs.Prelude.{◌↔◌}
use Rattle.std.specs.List.{AllPairs, Contains}
use Rattle.std.specs.List.Sorted.{IsPermutation, IsSorted}
use Rattle.std.proofs.lemmas.Bool.{eqb-true}
use Rattle.std.proofs.lemmas.Bool.Decides.{Decides-eqb}
use Rattle.std.proofs.lemmas.List.{length_push}
use Rattle.std.proofs.lemmas.List.Elements.{Contains-append_left, Contains-push, Contains-push_cases}
use Rattle.std.proofs.lemmas.List.Sorted.{Contains-permutation, IsPermutation-sym}
use Rattle.std.proofs.lemmas.Map.Made.{IsDistinct-from_AllPairs}
use Rattle.std.proofs.lemmas.Map.Steps.{length-le_from_distinct_below}
use Rattle.std.proofs.lemmas.Map.Views.{Contains-from_any}
use Rattle.std.proofs.lemmas.Option.{slice_get_within}
use Rattle.cu_model.specs.declared.roads.Edit.{Edit}
use Rattle.cu_chordal.specs.Graphs.{ChordalValue}
use Rattle.cu_chordal.proofs.Adding.{sorted_part}
use Rattle.cu_chordal.proofs.Members.{member_cases, none_in_nil, pairs_append}
use Rattle.cu_interval.specs.Hierarchies.{HierarchyValue, IsHierarchy, IsHierarchyOf}
use Rattle.cu_interval.specs.Touching.{NumbersTouched}
use Rattle.cu_links.specs.declared.buckets.EdgeState.TheVariants.{Done}
use Rattle.cu_links.specs.Buckets.{BucketsValue, IsDone, IsHeld, cleared}
use Rattle.cu_edits.specs.Steps.Spreading.{Adds, AreBucketsOf, IsAbove, IsOfChanged, Takes}
use Rattle.cu_edits.proofs.AddingEdges.{done_after, done_before}
use Rattle.cu_edits.proofs.Spreading.{IsSpreading, buckets_cleared, done_popped, none_done, spreading_begin, spreading_end, spreading_step}

-- these edges, each of them once, are those that were taken out
pub record AreTaken (h : HierarchyValue) (edit : Edit) (buckets : BucketsValue) (taken : List ℕ) : Type 0 where
  pub spreading : IsSpreading h edit buckets
  pub listed : (e : ℕ) → Contains taken e ↔ IsDone buckets e
  pub once : AllPairs (λ x y. x ≢ y) taken

-- the edges of the changed roads were added to cleared buckets, and none was taken out
pub taken_none : (h : HierarchyValue) (graph : ChordalValue) → IsHierarchyOf graph h → (edit : Edit) (ranks edges : ℕ) (buckets : BucketsValue) → ranks ≡ graph.ranks
    → edges ≡ length graph.edges
    → Adds graph.edges (IsOfChanged h edit) (cleared ranks edges) buckets → AreTaken h edit buckets []
taken_none h graph (same, sound) edit ranks edges buckets ranks_are edges_are added =
    let fit = subst (λ (k : ChordalValue). AreBucketsOf k (cleared ranks edges)) same (buckets_cleared graph ranks edges ranks_are edges_are) in
    let adds = subst (λ (k : ChordalValue). Adds k.edges (IsOfChanged h edit) (cleared ranks edges) buckets) same added in
    record {
      spreading = spreading_begin h sound edit ranks edges buckets fit adds;
      listed = λ e. ((λ c. absurd (none_in_nil e c)), λ d. absurd (none_done ranks edges e (done_before h.edges (IsOfChanged h edit) (cleared ranks edges) buckets adds e d)));
      once = λ i j d lt inside. absurd (omega (arith, inside));
    }

-- one more edge is taken out
taken_more : (h : HierarchyValue) → IsHierarchy h → (edit : Edit) (old new : BucketsValue) (taken : List ℕ) (edge : ℕ) → AreTaken h edit old taken
    → Takes h.edges old new (Some edge) → AreTaken h edit new (taken ++ (edge ∷ []))
taken_more h sound edit old new taken edge t takes =
    let (rank, lowest, adds) = takes in
    let done : (e : ℕ) → IsDone old e → IsDone new e = λ e d. done_after h.edges (IsAbove h.edges edge) _ new adds e ((done_popped old edge rank lowest.held e).1 (inl d)) in
    let itself : IsDone new edge = done_after h.edges (IsAbove h.edges edge) _ new adds edge ((done_popped old edge rank lowest.held edge).1 (inr refl)) in
    record {
      spreading = spreading_step h sound edit old new edge t.spreading takes;
      listed = λ e. (
        (λ c. elim (Contains-push_cases taken edge e c) [
          | inl before ↦ done e ((t.listed e).0 before)
          | inr same ↦ subst (IsDone new) same itself
        ]),
        λ d. elim ((done_popped old edge rank lowest.held e).0 (done_before h.edges (IsAbove h.edges edge) _ new adds e d)) [
          | inl before ↦ Contains-append_left taken (edge ∷ []) e ((t.listed e).1 before)
          | inr same ↦ subst (Contains (taken ++ (edge ∷ []))) same (Contains-push taken edge)
        ],
      );
      once = pairs_append (λ x y. x ≢ y) taken (edge ∷ []) t.once (λ i j d lt inside. absurd (omega (arith, lt, inside))) (λ x y c last same.
          elim (member_cases edge [] y last) [
            | inl here ↦ absurd (cc (subst (IsDone old) (same ∙ sym here) ((t.listed x).0 c), lowest.held))
            | inr past ↦ none_in_nil y past
          ]);
    }

-- no more edges are taken out than there are
taken_few : (h : HierarchyValue) (edit : Edit) (buckets : BucketsValue) (taken : List ℕ) → AreTaken h edit buckets taken → length taken ≤ length h.edges
taken_few h edit buckets taken t =
    let count = t.spreading.fit.count in
    length-le_from_distinct_below taken (length h.edges) (IsDistinct-from_AllPairs Decides-eqb taken t.once)
    (λ q found. let inside = slice_get_within buckets.states q Done ((t.listed q).0 (Contains-from_any eqb-true q taken found)) in omega (arith, inside, count))

-- the list with one more edge, of which there was one left
pub taken_next : (h : HierarchyValue) (graph : ChordalValue) → IsHierarchyOf graph h → (edit : Edit) (old new : BucketsValue) (taken grown : List ℕ) (edge : ℕ)
    → AreTaken h edit old taken
    → Takes graph.edges old new (Some edge) → grown ≡ taken ++ (edge ∷ []) → AreTaken h edit new grown × (length graph.edges - length grown < length graph.edges - length taken)
taken_next h graph (same, sound) edit old new taken grown edge t takes grows =
    let more = taken_more h sound edit old new taken edge t (subst (λ (k : ChordalValue). Takes k.edges old new (Some edge)) same takes) in
    let few = taken_few h edit new (taken ++ (edge ∷ [])) more in
    let count : length graph.edges ≡ length h.edges = ap (λ (k : ChordalValue). length k.edges) same in
    let long : length grown ≡ length taken + 1 = ap length grows ∙ length_push taken edge in
    let pushed_long = length_push taken edge in
    (subst (AreTaken h edit new) (sym grows) more, omega (arith, few, count, long, pushed_long))

-- where none is held any more, the edges taken out are the touched ones
pub taken_all : (h : HierarchyValue) → IsHierarchy h → (edit : Edit) (buckets : BucketsValue) (taken sorted : List ℕ) → AreTaken h edit buckets taken
    → ((e rank : ℕ) → IsHeld buckets e rank → ⊥)
    → IsPermutation taken sorted → IsSorted nat_cmp sorted → NumbersTouched h edit sorted
taken_all h sound edit buckets taken sorted t none moved in_order =
    let back = IsPermutation-sym taken sorted moved in
    record {
      rising = sorted_part taken sorted (IsDistinct-from_AllPairs Decides-eqb taken t.once) moved in_order;
      exact = λ e.
          let all = spreading_end h sound edit buckets t.spreading none e in (
            (λ c. all.0 ((t.listed e).0 (Contains-permutation sorted taken e back c))),
            λ touched. Contains-permutation taken sorted e moved ((t.listed e).1 (all.1 touched)),
          );
    }
