-- Ranks are marked, and gathered with all their higher neighbours.
use Rattle.std.proofs.Common.{◌≡◌, ◌≤◌, ◌<◌, ◌+◌, ◌⊎◌, ◌++◌, ◌∷◌, [], ℕ, Bool, List, Some, true, false, length, sym, subst, arith, inl, inr}
use Rattle.std.specs.Prelude.{All, slice_get, slice_set}
use Rattle.std.specs.List.{Contains}
use Rattle.std.proofs.lemmas.Bool.{cases_eq}
use Rattle.std.proofs.lemmas.List.{get_or-set_other, get_or-set_same, get_or_past}
use Rattle.std.proofs.lemmas.List.Quantifiers.{all_pairs_push}
use Rattle.std.proofs.lemmas.List.Elements.{All-push, All-weaker, Contains-append_left, Contains-push, Contains-push_cases}
use Rattle.cu_chordal.specs.Graphs.{ChordalValue, HasEdge, IsChordal}
use Rattle.cu_chordal.proofs.Tables.{edge_within}
use Rattle.cu_interval.specs.Hierarchies.{HierarchyValue}
use Rattle.cu_reach.specs.Aims.{IsPath}
use Rattle.cu_reach.specs.Steps.Aiming.{AreGathered, AreMarked, IsAimed, IsMarked}

-- either of two leads there
either : {A B C : Type 0} → (A → C) → (B → C) → A ⊎ B → C
either f g (inl a) = f a
either f g (inr b) = g b

-- marks of others stay, and a new mark is there
pub marked_other : (marks : List Bool) (at rank : ℕ) (mark : Bool) → (rank ≡ at → ⊥) → IsMarked marks rank → IsMarked (slice_set marks at mark) rank
marked_other marks at rank mark apart on = subst (λ (b : Bool). b ≡ true) (sym (get_or-set_other marks at rank mark false apart)) on

pub marked_here : (marks : List Bool) (at : ℕ) → at < length marks → IsMarked (slice_set marks at true) at
marked_here marks at lt = get_or-set_same marks at true false lt

pub marked_more : (marks : List Bool) (at rank : ℕ) → at < length marks → IsMarked marks rank → IsMarked (slice_set marks at true) rank
marked_more marks at rank lt on =
    either (λ (e : rank ≡ at). subst (IsMarked (slice_set marks at true)) (sym e) (marked_here marks at lt))
    (λ (apart : rank ≡ at → ⊥). marked_other marks at rank true apart on) (cases_eq rank at)

-- what is marked is within
pub marked_within : (marks : List Bool) (rank : ℕ) → length marks ≤ rank → IsMarked marks rank → ⊥
marked_within marks rank le on = let past = get_or_past marks rank false le in absurd (cc (past, on))

-- the rank of one more node is marked
pub marked_nodes : (h : HierarchyValue) (done : List ℕ) (node at : ℕ) (marks : List Bool) → at < length marks → slice_get h.order.rank_of node ≡ Some at
    → AreMarked h done marks → AreMarked h (done ++ node ∷ []) (slice_set marks at true)
marked_nodes h done node at marks lt there before one rank member is =
    either (λ (old : Contains done one). marked_more marks at rank lt (before one rank old is))
    (λ (e : node ≡ one).
    let same : at ≡ rank = cc (there, is, e) in
    subst (IsMarked (slice_set marks at true)) same (marked_here marks at lt))
    (Contains-push_cases done node one member)

module _ (next : ℕ) (marks : List Bool) (path : List ℕ) where
  -- a rank that isn't marked is passed
  pub aimed_pass : (rank : ℕ) → (IsMarked marks next → ⊥) → IsAimed next marks path rank → IsAimed (next + 1) marks path rank
  aimed_pass rank off (inl there) = inl there
  aimed_pass rank off (inr (le, on)) =
      let apart : next ≡ rank → ⊥ = λ e. off (subst (IsMarked marks) (sym e) on) in
      inr (omega (arith, le, apart), on)

  pub gathered_pass : (graph : ChordalValue) (first : List Bool) → (IsMarked marks next → ⊥) → AreGathered graph first next marks path
      → AreGathered graph first (next + 1) marks path
  gathered_pass graph first off g = record {
    below = All-weaker (λ rank. rank < next) (λ rank. rank < next + 1) (λ rank lt. omega (arith, lt)) path g.below;
    rising = g.rising;
    upwards = λ low high member edge. aimed_pass high off (g.upwards low high member edge);
    aimed = λ rank on. aimed_pass rank off (g.aimed rank on);
  }

  -- one that is marked is taken, and marks of others are kept
  aimed_take : (after : List Bool) → ((rank : ℕ) → (rank ≡ next → ⊥) → IsMarked marks rank → IsMarked after rank)
      → (rank : ℕ) → IsAimed next marks path rank → IsAimed (next + 1) after (path ++ next ∷ []) rank
  aimed_take after kept rank (inl there) = inl (Contains-append_left path (next ∷ []) rank there)
  aimed_take after kept rank (inr (le, on)) =
      either (λ (e : rank ≡ next). inl (subst (Contains (path ++ next ∷ [])) (sym e) (Contains-push path next)))
      (λ (apart : rank ≡ next → ⊥). inr (omega (arith, le, apart), kept rank apart on)) (cases_eq rank next)

  pub gathered_take : (graph : ChordalValue) (first after : List Bool) → IsChordal graph
      → ((rank : ℕ) → (rank ≡ next → ⊥) → IsMarked marks rank → IsMarked after rank) → ((rank : ℕ) → HasEdge graph.edges next rank → IsMarked after rank)
      → AreGathered graph first next marks path → AreGathered graph first (next + 1) after (path ++ next ∷ [])
  gathered_take graph first after chordal kept above g = record {
    below = All-push (λ rank. rank < next + 1) path next
        (All-weaker (λ rank. rank < next) (λ rank. rank < next + 1) (λ rank lt. omega (arith, lt)) path g.below) (omega arith);
    rising = all_pairs_push (λ a b. a < b) path next g.rising (λ k d lt. g.below k d lt);
    upwards = λ low high member edge.
        either (λ (old : Contains path low). aimed_take after kept high (g.upwards low high old edge))
        (λ (e : next ≡ low).
        let up : HasEdge graph.edges next high = subst (λ (x : ℕ). HasEdge graph.edges x high) (sym e) edge in
        let lt = (edge_within graph chordal next high up).0 in
        inr (omega (arith, lt), above high up))
        (Contains-push_cases path next low member);
    aimed = λ rank on. aimed_take after kept rank (g.aimed rank on);
  }

-- before the first rank all marked ones are still to come
pub none_gathered : (graph : ChordalValue) (marks : List Bool) → AreGathered graph marks 0 marks []
none_gathered graph marks = record {
  below = λ k d lt. absurd (omega (arith, lt));
  rising = λ i j d less lt. absurd (omega (arith, lt));
  upwards = λ low high member edge. absurd (let lt = member.1 in omega (arith, lt));
  aimed = λ rank on. inr (omega arith, on);
}

-- behind the last none is to come
aimed_all : (marks : List Bool) (path : List ℕ) (rank : ℕ) → IsAimed (length marks) marks path rank → Contains path rank
aimed_all marks path rank (inl there) = there
aimed_all marks path rank (inr (le, on)) = absurd (marked_within marks rank le on)

module _ (graph : ChordalValue) (first marks : List Bool) (path : List ℕ) (next : ℕ) (end : next ≡ length marks) (all : next ≡ graph.ranks)
    (g : AreGathered graph first next marks path) where
  pub gathered_path : IsPath graph path
  gathered_path = record {
    below = subst (λ (n : ℕ). All (λ rank. rank < n) path) all g.below;
    rising = g.rising;
    upwards = λ low high member edge. aimed_all marks path high (subst (λ (n : ℕ). IsAimed n marks path high) end (g.upwards low high member edge));
  }

  pub gathered_aims : (rank : ℕ) → IsMarked first rank → Contains path rank
  gathered_aims rank on = aimed_all marks path rank (subst (λ (n : ℕ). IsAimed n marks path rank) end (g.aimed rank on))
