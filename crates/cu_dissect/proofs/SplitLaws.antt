-- What a split keeps of its part.
use Rattle.std.proofs.Common.{◌≡◌, ◌≤◌, ◌<◌, ◌/◌, ℕ, List, [], ◌∷◌, Bool, false, not, cond, length, get_or, refl, ◌∙◌, ap, arith}
use Rattle.std.specs.Prelude.{All}
use Rattle.std.specs.List.{filter, range_with_len}
use Rattle.std.proofs.lemmas.List.Elements.{All-filter, All-head, All-tail}
use Rattle.std.proofs.lemmas.List.Filters.{length-filter_both}
use Rattle.std.proofs.lemmas.List.FromFn.{get_or-range_with_len, length-range_with_len}
use Rattle.std.proofs.lemmas.List.Kept.{AllPairs-filter}
use Rattle.std.proofs.lemmas.List.Sums.{count_by-le-length, length-filter}
use Rattle.cu_model.specs.Networks.{NetworkValue}
use Rattle.cu_roads.specs.declared.places.Place.{Place}
use Rattle.cu_dissect.specs.Dissection.{SplitValue, has, is_left, left_of, rest_of, right_of, separator_of, split_of, touches}
use Rattle.cu_dissect.specs.Steps.Parts.{HoldsNeighbours, IsPart, is_beside}
use Rattle.cu_dissect.proofs.Besides.{beside_touches}

-- tests that agree on the elements of a list keep the same of them
pub filter_alike : {X : Type 0} (p q : X → Bool) (xs : List X) → All (λ x. p x ≡ q x) xs → filter p xs ≡ filter q xs
filter_alike p q [] all = refl
filter_alike {X} p q (x ∷ xs) all =
    let rest = filter_alike p q xs (All-tail (λ (y : X). p y ≡ q y) x xs all) in
    ap (λ (b : Bool). cond b (x ∷ filter p xs) (filter p xs)) (All-head (λ (y : X). p y ≡ q y) x xs all) ∙ ap (λ (ys : List X). cond (q x) (x ∷ ys) ys) rest

pub filter_short : {X : Type 0} (p : X → Bool) (xs : List X) → length (filter p xs) ≤ length xs
filter_short p xs = omega (arith, length-filter p xs, count_by-le-length p xs)

pub part_filter : (nodes : ℕ) (p : ℕ → Bool) (part : List ℕ) → IsPart nodes part → IsPart nodes (filter p part)
part_filter nodes p part f = record {
  in_range = All-filter p (λ node. node < nodes) part f.in_range;
  rising = AllPairs-filter (λ u v. u < v) p part f.rising;
}

pub whole_part : (nodes : ℕ) → IsPart nodes (range_with_len 0 nodes)
whole_part nodes =
    let long = length-range_with_len 0 nodes in
    record {
      in_range = λ k d h. let read = get_or-range_with_len 0 nodes k d (omega (arith, h, long)) in omega (arith, read, h, long);
      rising = λ i j d lt h.
          let first = get_or-range_with_len 0 nodes i d (omega (arith, lt, h, long)) in
          let second = get_or-range_with_len 0 nodes j d (omega (arith, h, long)) in
          omega (arith, first, second, lt);
    }

pub left_part : (places : List Place) (nodes : ℕ) (part : List ℕ) → IsPart nodes part → IsPart nodes (left_of places part)
left_part places nodes part f = part_filter nodes (is_left places part) part f

pub rest_part : (places : List Place) (nodes : ℕ) (part : List ℕ) → IsPart nodes part → IsPart nodes (rest_of places part)
rest_part places nodes part f = part_filter nodes (λ node. not (is_left places part node)) part f

pub right_part : (g : NetworkValue) (places : List Place) (nodes : ℕ) (part : List ℕ) → IsPart nodes part → IsPart nodes (right_of g places part)
right_part g places nodes part f = part_filter nodes (λ node. not (touches g (left_of places part) node)) (rest_of places part) (rest_part places nodes part f)

pub rest_short : (places : List Place) (part rest : List ℕ) → rest ≡ rest_of places part → length (left_of places part) ≡ length part / 2 → 1 < length part → length rest < length part
rest_short places part rest is half some =
    let both = length-filter_both (is_left places part) (λ node. not (is_left places part node)) (λ _. refl) part in
    let long : length rest ≡ length (rest_of places part) = ap length is in
    omega (arith, both, half, long, some)

abbrev pub record_of : List ℕ → List ℕ → List ℕ → SplitValue
record_of left right separator = record { left = left; right = right; separator = separator }

split_same : (left right separator l r s : List ℕ) → left ≡ l → right ≡ r → separator ≡ s → record_of left right separator ≡ record_of l r s
split_same left right separator l r s p q t =
    ap (λ (k : List ℕ). record_of k right separator) p ∙ ap (λ (k : List ℕ). record_of l k separator) q ∙ ap (λ (k : List ℕ). record_of l r k) t

-- the other half by its marked neighbours is the separator and the right side
pub split_is : (g : NetworkValue) (places : List Place) (part left rest beside others : List ℕ) (neighbours : List (List ℕ)) (marks : List Bool) → HoldsNeighbours g neighbours → IsPart g.nodes part
    → left ≡ left_of places part → rest ≡ rest_of places part → ((v : ℕ) → get_or marks v false ≡ has left v)
    → beside ≡ filter (is_beside neighbours marks) rest → others ≡ filter (λ node. not (is_beside neighbours marks node)) rest
    → record_of left others beside ≡ split_of g places part
split_is g places part left rest beside others neighbours marks held f left_is rest_is marked beside_is others_is =
    let same : (v : ℕ) → get_or marks v false ≡ has (left_of places part) v = λ v. marked v ∙ ap (λ (nodes : List ℕ). has nodes v) left_is in
    let alike : All (λ node. is_beside neighbours marks node ≡ touches g (left_of places part) node) (rest_of places part) =
    λ k d h. beside_touches g neighbours marks (left_of places part) (get_or (rest_of places part) k d) held same ((rest_part places g.nodes part f).in_range k d h) in
    split_same left others beside (left_of places part) (right_of g places part) (separator_of g places part) left_is
    (others_is ∙ ap (filter (λ node. not (is_beside neighbours marks node))) rest_is
    ∙ filter_alike (λ node. not (is_beside neighbours marks node)) (λ node. not (touches g (left_of places part) node)) (rest_of places part)
    (λ k d h. ap not (alike k d h)))
    (beside_is ∙ ap (filter (is_beside neighbours marks)) rest_is ∙ filter_alike (is_beside neighbours marks) (touches g (left_of places part)) (rest_of places part) alike)
