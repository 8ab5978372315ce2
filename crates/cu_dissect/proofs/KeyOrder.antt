-- Keys of nodes and their order.
use Rattle.std.proofs.Common.{◌≡◌, ◌≢◌, ◌≤◌, ◌<◌, ◌-◌, ◌/◌, ℕ, List, [], ◌∷◌, Bool, true, false, not, cond, eqb, length, map, get_or, refl, sym, ◌∙◌, ap, subst, arith}
use Rattle.std.specs.Prelude.{count_by, nat_lt}
use Rattle.std.specs.declared.cmp.Ordering.{Ordering}
use Rattle.std.specs.declared.cmp.Ordering.TheVariants.{Less, Equal, Greater}
use Rattle.std.specs.Cmp.{IsTotalOrder, IsStrictWeakOrder}
use Rattle.std.specs.List.{AllPairs, IsDistinct}
use Rattle.std.specs.List.Sorted.{IsPermutation, IsSorted}
use Rattle.std.specs.Ordering.{nat_cmp, ordering_then, is_lt, is_le, ordering_reverse}
use Rattle.std.proofs.lemmas.Bool.Decides.{Decides-eqb, nat_tests}
use Rattle.std.proofs.lemmas.Cmp.{nat_cmp_total, on_total, then_total}
use Rattle.std.proofs.lemmas.List.{get_or-map, length-map}
use Rattle.std.proofs.lemmas.List.Sorted.{ranks_by, sorted_far, sum_by-IsPermutation, length_permutation, IsPermutation-map}
use Rattle.std.proofs.lemmas.Map.Keys.{IsDistinct-IsPermutation}
use Rattle.std.proofs.lemmas.Map.Made.{AllPairs-from_IsDistinct, IsDistinct-from_AllPairs}
use Rattle.cu_chordal.proofs.Members.{flips}
use Rattle.cu_roads.specs.declared.places.Place.{Place}
use Rattle.cu_dissect.specs.declared.halving.SortKey.{SortKey}
use Rattle.cu_dissect.specs.Dissection.{goes_before, goes_first, place_of}
use Rattle.cu_dissect.specs.Steps.Keys.{IsLastLeft, compare, key_of}
use Rattle.cu_dissect.proofs.Counting.{count_agree, count_front, count_map, rank_tells}

pub compare_total : IsTotalOrder compare
compare_total = then_total (on_total (λ (k : SortKey). k.first) nat_cmp_total) (then_total (on_total (λ (k : SortKey). k.second) nat_cmp_total) (on_total (λ (k : SortKey). k.node) nat_cmp_total))

abbrev pub is_below : SortKey → SortKey → Bool
is_below a b = is_lt (compare a b)

pub below_order : IsStrictWeakOrder is_below
below_order = ranks_by compare_total (λ (k : SortKey). k)

reversed : (o : Ordering) → is_le (ordering_reverse o) ≡ not (is_lt o)
reversed Less = refl
reversed Equal = refl
reversed Greater = refl

-- at most the last one, or not above it
pub at_most : (a b : SortKey) → is_le (compare a b) ≡ not (is_below b a)
at_most a b = ap is_le (compare_total.antisymm a b) ∙ reversed (compare b a)

lt_first : (a b : ℕ) (o : Ordering) → is_lt (ordering_then (nat_cmp a b) o) ≡ goes_first a b (is_lt o)
lt_first a b o = grind (arith, nat_tests)

lt_number : (a b : ℕ) → is_lt (nat_cmp a b) ≡ nat_lt a b
lt_number a b = grind (arith, nat_tests)

-- keys are in the order of their nodes
pub below_keys : (places : List Place) (wide : Bool) (u v : ℕ) → is_below (key_of places wide u) (key_of places wide v) ≡ goes_before places wide u v
below_keys places true u v =
    let a : Place = place_of places u in
    let b : Place = place_of places v in
    lt_first a.x b.x (ordering_then (nat_cmp a.y b.y) (nat_cmp u v)) ∙ ap (goes_first a.x b.x) (lt_first a.y b.y (nat_cmp u v) ∙ ap (goes_first a.y b.y) (lt_number u v))
below_keys places false u v =
    let a : Place = place_of places u in
    let b : Place = place_of places v in
    lt_first a.y b.y (ordering_then (nat_cmp a.x b.x) (nat_cmp u v)) ∙ ap (goes_first a.y b.y) (lt_first a.x b.x (nat_cmp u v) ∙ ap (goes_first a.x b.x) (lt_number u v))

node_of_key : (places : List Place) (wide : Bool) (u : ℕ) → (key_of places wide u).node ≡ u
node_of_key places true u = refl
node_of_key places false u = refl

nodes_of_keys : (places : List Place) (wide : Bool) (part : List ℕ) → map (λ (k : SortKey). k.node) (map (key_of places wide) part) ≡ part
nodes_of_keys places wide [] = refl
nodes_of_keys places wide (u ∷ part) = ap (λ (v : ℕ). v ∷ map (λ (k : SortKey). k.node) (map (key_of places wide) part)) (node_of_key places wide u)
    ∙ ap (λ (vs : List ℕ). u ∷ vs) (nodes_of_keys places wide part)

-- the sorted keys of a part have different nodes
different_nodes : (places : List Place) (wide : Bool) (part : List ℕ) (sorted : List SortKey) → AllPairs (λ u v. u < v) part → IsPermutation (map (key_of places wide) part) sorted
    → (i j : ℕ) (d : SortKey) → i < j → j < length sorted → (get_or sorted i d).node ≢ (get_or sorted j d).node
different_nodes places wide part sorted rising moved i j d lt h e =
    let node : SortKey → ℕ = λ k. k.node in
    let once : IsDistinct eqb part = IsDistinct-from_AllPairs Decides-eqb part (λ k l v less within same. let up = rising k l v less within in absurd (omega (arith, up, same))) in
    let nodes : IsPermutation part (map node sorted) =
    subst (λ us. IsPermutation us (map node sorted)) (nodes_of_keys places wide part) (IsPermutation-map node (map (key_of places wide) part) sorted moved) in
    let apart = AllPairs-from_IsDistinct Decides-eqb (map node sorted) (IsDistinct-IsPermutation eqb flips part (map node sorted) nodes once) in
    let long = length-map sorted node in
    apart i j 0 lt (omega (arith, h, long)) (get_or-map node sorted i d 0 (omega (arith, lt, h)) ∙ e ∙ sym (get_or-map node sorted j d 0 h))

not_less : (o : Ordering) → is_lt o ≡ false → (o ≡ Equal → ⊥) → is_lt (ordering_reverse o) ≡ true
not_less Less e ne = absurd (cc)
not_less Equal e ne = absurd (ne refl)
not_less Greater e ne = refl

then_equal : (o p : Ordering) → ordering_then o p ≡ Equal → p ≡ Equal
then_equal Less p e = absurd (cc)
then_equal Equal p e = e
then_equal Greater p e = absurd (cc)

number_equal : (a b : ℕ) → nat_cmp a b ≡ Equal → a ≡ b
number_equal a b e = grind (arith, nat_tests)

-- of two keys with different nodes that aren't the wrong way round the first is below
below_strictly : (a b : SortKey) → is_below b a ≡ false → a.node ≢ b.node → is_below a b ≡ true
below_strictly a b e ne =
    ap is_lt (compare_total.antisymm a b)
    ∙ not_less (compare b a) e (λ same. ne (sym (number_equal b.node a.node
    (then_equal (nat_cmp b.second a.second) (nat_cmp b.node a.node)
    (then_equal (nat_cmp b.first a.first) (ordering_then (nat_cmp b.second a.second) (nat_cmp b.node a.node)) same)))))

-- the key in the middle of the sorted keys ends the first half
pub middle_ends_half : (places : List Place) (wide : Bool) (part : List ℕ) (sorted : List SortKey) (last : SortKey) → 1 < length part
    → AllPairs (λ u v. u < v) part → IsPermutation (map (key_of places wide) part) sorted → IsSorted compare sorted
    → ((d : SortKey) → last ≡ get_or sorted (length part / 2 - 1) d) → IsLastLeft places wide part last
middle_ends_half places wide part sorted last some rising moved up at =
    let m : ℕ = length part / 2 in
    let long : length sorted ≡ length part = length_permutation (map (key_of places wide) part) sorted moved ∙ length-map part (key_of places wide) in
    let fits : m ≤ length sorted = omega (arith, long) in
    let counted : (p : SortKey → Bool) → count_by p sorted ≡ count_by (λ u. p (key_of places wide u)) part =
    λ p. sum_by-IsPermutation (λ (k : SortKey). cond (p k) 1 0) (map (key_of places wide) part) sorted moved ∙ count_map (key_of places wide) p part in
    record {
      tells = λ node.
          let one = rank_tells is_below below_order sorted up m last (key_of places wide node) (omega (arith, some)) fits at in
          let same : count_by (λ k. is_below k (key_of places wide node)) sorted ≡ count_by (λ other. goes_before places wide other node) part =
          counted (λ k. is_below k (key_of places wide node))
          ∙ count_agree (λ other. is_below (key_of places wide other) (key_of places wide node)) (λ other. goes_before places wide other node) part
          (λ other. below_keys places wide other node) in
          one ∙ ap (λ (n : ℕ). nat_lt n m) same;
      half = sym (counted (λ k. not (is_below last k))) ∙ count_front (λ k. not (is_below last k)) sorted m fits
          (λ i d h. ap not (subst (λ (k : SortKey). is_below k (get_or sorted i d) ≡ false) (sym (at d))
          (sorted_far is_below below_order sorted up i (m - 1) d (omega (arith, h)) (omega (arith, h, fits)))))
          (λ i d le h. ap not (subst (λ (k : SortKey). is_below k (get_or sorted i d) ≡ true) (sym (at d))
          (below_strictly (get_or sorted (m - 1) d) (get_or sorted i d) (sorted_far is_below below_order sorted up (m - 1) i d (omega (arith, le)) h)
          (different_nodes places wide part sorted rising moved (m - 1) i d (omega (arith, le, some)) h))));
    }
