-- Climbing from a rank to its parent and on.
use Rattle.std.proofs.Common.{◌≡◌, ◌≤◌, ◌<◌, ◌+◌, ◌-◌, ℕ, zero, suc, List, [], ◌∷◌, ◌++◌, Option, Some, None, eqb, length, get_or, refl, sym, ◌∙◌, ap, subst, arith, inl, inr, ◌⊎◌}
use Rattle.std.specs.Prelude.{◌↔◌, All, IsTrue, slice_get}
use Rattle.std.specs.Iterator.{Yields, YieldsFirst}
use Rattle.std.specs.List.{Contains, AllPairs}
use Rattle.std.specs.List.Sorted.{IsStrictlyIncreasing}
use Rattle.std.proofs.lemmas.Bool.{cases_eq, eqb-true, eq-eqb}
use Rattle.std.proofs.lemmas.List.{length_push, get_or_push, get_or_append_left}
use Rattle.std.proofs.lemmas.List.Kept.{AllPairs-cons, AllPairs-from_increasing}
use Rattle.std.proofs.lemmas.List.Elements.{All-cons, All-contains, Contains-append_cases, Contains-append_right}
use Rattle.std.proofs.lemmas.Option.{none-some, same_Some, slice_get-get_or, slice_get_within, get_or_from_slice_get}
use Rattle.cu_chordal.specs.Graphs.{ChordalValue, HasEdge, IsChordal, parent_of, up_of}
use Rattle.cu_chordal.proofs.Members.{here, there, member_at, member_cases, none_in_nil, pairs_head, pairs_tail}
use Rattle.cu_chordal.proofs.Tables.{edge_from_up_of, up_of_from_edge, increasing_from_pairs, edge_within}
use Rattle.cu_chordal.proofs.Closed.{parent_least}
use Rattle.cu_elimtree.specs.Trees.{HoldsAncestorNeighbours, HoldsHigherNeighbours, IsTree, IsTreeOf, Rises, ancestors_of, climb, flat}

-- a step up: the rank itself, and then its parent and on
pub climb_step : (fuel : ℕ) (parents : List (Option ℕ)) (from parent : Option ℕ) (rank : ℕ) → 0 < fuel → from ≡ Some rank → parent ≡ flat (slice_get parents rank)
    → climb fuel parents from ≡ rank ∷ climb (fuel - 1) parents parent
climb_step zero parents from parent rank some is up = absurd (omega (arith, some))
climb_step (suc fuel) parents from parent rank some is up = let left : suc fuel - 1 ≡ fuel = omega arith in rw (is, up, left) refl

-- the parents so far
pub record AreParents (graph : ChordalValue) (rank : ℕ) (parents : List (Option ℕ)) : Type 0 where
  pub long : length parents ≡ rank
  pub each : (k : ℕ) → k < rank → slice_get parents k ≡ Some (parent_of graph.edges k)

pub parents_none : (graph : ChordalValue) (parents : List (Option ℕ)) → parents ≡ [] → AreParents graph 0 parents
parents_none graph parents e = record { long = ap length e; each = λ k lt. absurd (omega (arith, lt)) }

pub parents_more : (graph : ChordalValue) (rank : ℕ) (parents grown : List (Option ℕ)) (parent : Option ℕ) → AreParents graph rank parents
    → parent ≡ parent_of graph.edges rank → grown ≡ parents ++ (parent ∷ []) → AreParents graph (rank + 1) grown
parents_more graph rank parents grown parent f is e =
    let long : length grown ≡ rank + 1 = ap length e ∙ length_push parents parent ∙ ap (λ n. n + 1) f.long in
    record {
      long = long;
      each = λ k lt.
          elim (cases_eq k rank) [
            | inl same ↦
                let read : get_or grown k None ≡ parent = ap (λ xs. get_or xs k None) e ∙ get_or_push parents parent None k (f.long ∙ sym same) in
                slice_get-get_or grown k None (omega (arith, lt, long)) ∙ ap Some (read ∙ is ∙ ap (parent_of graph.edges) (sym same))
            | inr other ↦
                let before : k < rank = omega (arith, lt, other) in
                let read : get_or grown k None ≡ get_or parents k None = ap (λ xs. get_or xs k None) e ∙ get_or_append_left parents (parent ∷ []) None k (omega (arith, before, f.long)) in
                slice_get-get_or grown k None (omega (arith, lt, long)) ∙ ap Some (read ∙ get_or_from_slice_get parents k (parent_of graph.edges k) None (f.each k before))
          ];
    }

pub parents_all : (graph : ChordalValue) (rank : ℕ) (parents : List (Option ℕ)) → rank ≡ graph.ranks → AreParents graph rank parents → IsTreeOf graph parents
parents_all graph rank parents last f = record { long = f.long ∙ last; each = λ k lt. f.each k (omega (arith, lt, last)) }

parent_edge : (graph : ChordalValue) (rank parent : ℕ) → parent_of graph.edges rank ≡ Some parent → HasEdge graph.edges rank parent
parent_edge graph rank parent e = edge_from_up_of graph.edges rank parent (member_at (up_of graph.edges rank) parent 0 e)

-- a rank that has a parent is one of the list
pub parent_there : (o : Option (Option ℕ)) (p : ℕ) → flat o ≡ Some p → o ≡ Some (Some p)
parent_there None p e = absurd (none-some p e)
parent_there (Some o) p e = ap Some e

parent_read : (graph : ChordalValue) (parents : List (Option ℕ)) (rank : ℕ) (o : Option ℕ) → IsTreeOf graph parents → slice_get parents rank ≡ Some o → parent_of graph.edges rank ≡ o
parent_read graph parents rank o f e =
    let within : rank < length parents = slice_get_within parents rank o e in
    same_Some (parent_of graph.edges rank) o (sym (f.each rank (omega (arith, within, f.long))) ∙ e)

-- a chordal graph and its ranks' parents
module _ (graph : ChordalValue) (parents : List (Option ℕ)) (sound : IsChordal graph) (f : IsTreeOf graph parents) where
  -- the parents are a tree
  pub tree_of : IsTree parents
  tree_of = record {
    few = omega (arith, f.long, sound.few_ranks);
    rises = λ rank parent e.
        let range = edge_within graph sound rank parent (parent_edge graph rank parent (parent_read graph parents rank (Some parent) f e)) in
        (range.0, omega (arith, range.1, f.long));
  }

  -- a rank with a higher neighbour has a parent, which is that or is joined to it
  next_up : (rank high : ℕ) → HasEdge graph.edges rank high → (p : ℕ) × (flat (slice_get parents rank) ≡ Some p) × (rank < p) × (p < graph.ranks) × ((high ≡ p) ⊎ HasEdge graph.edges p high)
  next_up rank high edge =
      let range = edge_within graph sound rank high edge in
      let member : Contains (up_of graph.edges rank) high = up_of_from_edge graph.edges rank high edge in
      let p : ℕ = get_or (up_of graph.edges rank) 0 0 in
      let is_parent : parent_of graph.edges rank ≡ Some p = slice_get-get_or (up_of graph.edges rank) 0 0 (omega (arith, member.1)) in
      let to_parent = parent_edge graph rank p is_parent in
      let parent_range = edge_within graph sound rank p to_parent in
      let least : p ≤ high = parent_least graph.edges rank p high sound.rising is_parent member in
      let read : flat (slice_get parents rank) ≡ Some p = ap flat (f.each rank (omega (arith, range.0, range.1))) ∙ is_parent in (
        p,
        read,
        parent_range.0,
        parent_range.1,
        elim (cases_eq high p) [
          | inl same ↦ inl same
          | inr other ↦ inr (sound.chordal rank p high to_parent edge (omega (arith, least, other)))
        ],
      )

  climbs : (fuel rank high : ℕ) → rank < graph.ranks → graph.ranks ≤ rank + fuel → (high ≡ rank) ⊎ HasEdge graph.edges rank high → Contains (climb fuel parents (Some rank)) high
  climbs zero rank high below enough at = absurd (omega (arith, below, enough))
  climbs (suc fuel) rank high below enough (inl same) =
      subst (Contains (rank ∷ climb fuel parents (flat (slice_get parents rank)))) (sym same) (here rank (climb fuel parents (flat (slice_get parents rank))))
  climbs (suc fuel) rank high below enough (inr edge) =
      let up = next_up rank high edge in
      let deeper = climbs fuel up.0 high up.3 (omega (arith, enough, up.2)) up.4 in
      there rank (climb fuel parents (flat (slice_get parents rank))) high (subst (λ o. Contains (climb fuel parents o) high) (sym up.1) deeper)

  -- the ancestors of a rank contain its higher neighbours
  pub holds_higher : HoldsHigherNeighbours graph parents
  holds_higher rank high edge =
      let range = edge_within graph sound rank high edge in
      climbs (length parents) rank high (omega (arith, range.0, range.1)) (omega (arith, f.long)) (inr edge)

  -- and of each ancestor those of that ancestor
  climb_upwards : (fuel : ℕ) (o : Option ℕ) (low high : ℕ) → ((r : ℕ) → o ≡ Some r → graph.ranks ≤ r + fuel) → HasEdge graph.edges low high → Contains (climb fuel parents o) low
      → Contains (climb fuel parents o) high
  climb_upwards zero o low high enough edge c = absurd (none_in_nil low c)
  climb_upwards (suc fuel) None low high enough edge c = absurd (none_in_nil low c)
  climb_upwards (suc fuel) (Some r) low high enough edge c =
      let above_r : List ℕ = climb fuel parents (flat (slice_get parents r)) in
      elim (member_cases r above_r low c) [
        | inl same ↦
            let at : HasEdge graph.edges r high = subst (λ k. HasEdge graph.edges k high) (sym same) edge in
            let range = edge_within graph sound r high at in
            climbs (suc fuel) r high (omega (arith, range.0, range.1)) (enough r refl) (inr at)
        | inr rest ↦
            let deeper = climb_upwards fuel (flat (slice_get parents r)) low high
            (λ p e. let up = tree_of.rises r p (parent_there (slice_get parents r) p e) in let le = enough r refl in omega (arith, up.0, le)) edge rest in
            there r above_r high deeper
      ]

  pub holds_upwards : HoldsAncestorNeighbours graph parents
  holds_upwards rank low high c edge = climb_upwards (length parents) (Some rank) low high (λ r e. omega (arith, f.long)) edge c

module _ (parents : List (Option ℕ)) (f : Rises parents) where
  -- ancestors rise
  above : (fuel least : ℕ) (o : Option ℕ) → ((r : ℕ) → o ≡ Some r → least ≤ r) → All (λ x. least ≤ x) (climb fuel parents o)
  above zero least o start = λ k d h. absurd (omega (arith, h))
  above (suc fuel) least None start = λ k d h. absurd (omega (arith, h))
  above (suc fuel) least (Some r) start =
      All-cons (λ x. least ≤ x) r (climb fuel parents (flat (slice_get parents r))) (start r refl)
      (above fuel least (flat (slice_get parents r)) (λ p e. let up = f r p (parent_there (slice_get parents r) p e) in let low = start r refl in omega (arith, up.0, low)))

  climb_pairs : (fuel : ℕ) (o : Option ℕ) → AllPairs (λ x y. x < y) (climb fuel parents o)
  climb_pairs zero o = λ i j d lt h. absurd (omega (arith, h))
  climb_pairs (suc fuel) None = λ i j d lt h. absurd (omega (arith, h))
  climb_pairs (suc fuel) (Some r) =
      AllPairs-cons (λ x y. x < y) r (climb fuel parents (flat (slice_get parents r)))
      (above fuel (suc r) (flat (slice_get parents r)) (λ p e. let up = f r p (parent_there (slice_get parents r) p e) in omega (arith, up.0)))
      (climb_pairs fuel (flat (slice_get parents r)))

  -- ancestors are ranks
  climb_below : (fuel : ℕ) (o : Option ℕ) → ((r : ℕ) → o ≡ Some r → r < length parents) → All (λ x. x < length parents) (climb fuel parents o)
  climb_below zero o start = λ k d h. absurd (omega (arith, h))
  climb_below (suc fuel) None start = λ k d h. absurd (omega (arith, h))
  climb_below (suc fuel) (Some r) start =
      All-cons (λ x. x < length parents) r (climb fuel parents (flat (slice_get parents r))) (start r refl)
      (climb_below fuel (flat (slice_get parents r)) (λ p e. (f r p (parent_there (slice_get parents r) p e)).1))

pub ancestors_rise : (parents : List (Option ℕ)) (rank : ℕ) → IsTree parents → IsStrictlyIncreasing (ancestors_of parents rank)
ancestors_rise parents rank f = increasing_from_pairs (ancestors_of parents rank) (climb_pairs parents f.rises (length parents) (Some rank))

pub ancestors_below : (parents : List (Option ℕ)) (rank : ℕ) → IsTree parents → rank < length parents → All (λ x. x < length parents) (ancestors_of parents rank)
ancestors_below parents rank f below = climb_below parents f.rises (length parents) (Some rank) (λ r e. subst (λ k. k < length parents) (same_Some rank r e) below)

-- what was yielded and what is left are what there was
pub yielded_first : {S A : Type 0} (rest : S → List A) (s : S) (xs : List A) (t : S) → Yields (YieldsFirst rest) s xs t → rest s ≡ xs ++ rest t
yielded_first rest s [] t same = ap rest same
yielded_first rest s (x ∷ xs) t (next, first, later) = first ∙ ap (λ ys. x ∷ ys) (yielded_first rest next xs t later)

pairs_behind : (xs ys : List ℕ) → AllPairs (λ x y. x < y) (xs ++ ys) → AllPairs (λ x y. x < y) ys
pairs_behind [] ys f = f
pairs_behind (x ∷ xs) ys f = pairs_behind xs ys (pairs_tail (λ x y. x < y) x (xs ++ ys) f)

after_head : (x : ℕ) (xs : List ℕ) (y : ℕ) → AllPairs (λ a b. a < b) (x ∷ xs) → Contains xs y → x < y
after_head x xs y f c = subst (λ z. x < z) c.2 (pairs_head (λ a b. a < b) x xs f c.0 y c.1)

-- in a list that rises, the first number that isn't below a rank tells whether the rank is there
first_tells : (before behind : List ℕ) (first rank : ℕ) → AllPairs (λ x y. x < y) (before ++ (first ∷ behind)) → All (λ x. x < rank) before
    → rank ≤ first → Contains (before ++ (first ∷ behind)) rank → first ≡ rank
first_tells before behind first rank rising low le c =
    elim (Contains-append_cases before (first ∷ behind) rank c) [
      | inl there ↦ let less = All-contains (λ x. x < rank) before rank low there in absurd (omega (arith, less))
      | inr rest ↦ elim (member_cases first behind rank rest) [
        | inl same ↦ same
        | inr later ↦
            let above = after_head first behind rank (pairs_behind before (first ∷ behind) rising) later in
            absurd (omega (arith, above, le))
      ]
    ]

pub tells : (all before behind : List ℕ) (first rank : ℕ) → IsStrictlyIncreasing all → all ≡ before ++ (first ∷ behind) → All (λ x. x < rank) before
    → rank ≤ first → IsTrue (eqb first rank) ↔ Contains all rank
tells all before behind first rank rising whole low le =
    let pairs : AllPairs (λ x y. x < y) (before ++ (first ∷ behind)) = subst (AllPairs (λ x y. x < y)) whole (AllPairs-from_increasing all rising) in (
      (λ t. subst (λ xs. Contains xs rank) (sym whole) (Contains-append_right before (first ∷ behind) rank (subst (Contains (first ∷ behind)) (eqb-true first rank t) (here first behind)))),
      (λ c. eq-eqb first rank (first_tells before behind first rank pairs low le (subst (λ xs. Contains xs rank) whole c))),
    )
