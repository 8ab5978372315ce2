-- The order of a part has each of its nodes once.
use Rattle.std.proofs.Common.{◌≡◌, ◌≤◌, ◌<◌, ◌∙◌, ℕ, zero, suc, List, [], ◌∷◌, ◌++◌, Bool, not, cond, eqb, length, sym, subst, arith, append_assoc, inl, inr}
use Rattle.std.specs.Prelude.{All, nat_le}
use Rattle.std.specs.List.{filter, range_with_len}
use Rattle.std.specs.List.Sorted.{IsPermutation}
use Rattle.std.proofs.lemmas.Bool.{cases_Bool}
use Rattle.std.proofs.lemmas.List.FromFn.{length-range_with_len}
use Rattle.std.proofs.lemmas.List.Sorted.{All-permutation, IsPermutation-append, IsPermutation-append_comm, IsPermutation-cons, IsPermutation-middle, IsPermutation-refl}
use Rattle.std.proofs.lemmas.List.Sorted.{IsPermutation-sym, IsPermutation-trans, length_permutation}
use Rattle.std.proofs.lemmas.Map.Keys.{IsDistinct-IsPermutation}
use Rattle.cu_model.specs.Networks.{NetworkValue}
use Rattle.cu_model.specs.Orders.{ListsEachNodeOnce}
use Rattle.cu_model.proofs.OrderLaws.{each_once}
use Rattle.cu_roads.specs.declared.places.Place.{Place}
use Rattle.cu_dissect.specs.Dissection.{Dissected, around, dissected, dissected_by, is_left, left_of, rest_of, right_of, separator_of, split_of, touches, unsplit}
use Rattle.cu_chordal.proofs.Members.{flips}

-- what passes a test and what doesn't
pub permuted_by_test : {X : Type 0} (p : X → Bool) (xs : List X) → IsPermutation xs (filter p xs ++ filter (λ x. not (p x)) xs)
permuted_by_test {X} p [] = IsPermutation-refl []
permuted_by_test {X} p (x ∷ xs) =
    let front : List X = filter p xs in
    let back : List X = filter (λ y. not (p y)) xs in
    let both : List X → Bool → Type 0 = λ ys b. IsPermutation ys (cond b (x ∷ front) front ++ cond (not b) (x ∷ back) back) in
    let rest : IsPermutation (x ∷ xs) (x ∷ (front ++ back)) = IsPermutation-cons x xs (front ++ back) (permuted_by_test p xs) in
    let middle : IsPermutation (x ∷ (front ++ back)) (front ++ (x ∷ back)) = IsPermutation-sym (front ++ (x ∷ back)) (x ∷ (front ++ back)) (IsPermutation-middle front x back) in
    elim (cases_Bool (p x)) [
      | inl passes ↦ subst (both (x ∷ xs)) (sym passes) rest
      | inr fails ↦ subst (both (x ∷ xs)) (sym fails) (IsPermutation-trans (x ∷ xs) (x ∷ (front ++ back)) (front ++ (x ∷ back)) rest middle)
    ]

module _ (g : NetworkValue) (places : List Place) where
  -- the sides and the separator are the part
  permuted_by_split : (part : List ℕ) → IsPermutation part (left_of places part ++ (right_of g places part ++ separator_of g places part))
  permuted_by_split part =
      let left : List ℕ = left_of places part in
      let rest : List ℕ = rest_of places part in
      let right : List ℕ = right_of g places part in
      let separator : List ℕ = separator_of g places part in
      let halves : IsPermutation part (left ++ rest) = permuted_by_test (is_left places part) part in
      let others : IsPermutation rest (right ++ separator) =
      IsPermutation-trans rest (separator ++ right) (right ++ separator) (permuted_by_test (touches g left) rest) (IsPermutation-append_comm separator right) in
      IsPermutation-trans part (left ++ rest) (left ++ (right ++ separator)) halves (IsPermutation-append left left rest (right ++ separator) (IsPermutation-refl left) others)

  pub dissected_permutes : (fuel : ℕ) (part : List ℕ) → IsPermutation part (dissected_by g places fuel part).order
  dissected_permutes zero part = IsPermutation-refl part
  dissected_permutes (suc fuel) part =
      let left : Dissected = dissected_by g places fuel (left_of places part) in
      let right : Dissected = dissected_by g places fuel (right_of g places part) in
      let separator : List ℕ = separator_of g places part in
      let sides : IsPermutation part (left.order ++ (right.order ++ separator)) =
      IsPermutation-trans part (left_of places part ++ (right_of g places part ++ separator)) (left.order ++ (right.order ++ separator)) (permuted_by_split part)
      (IsPermutation-append (left_of places part) left.order (right_of g places part ++ separator) (right.order ++ separator) (dissected_permutes fuel (left_of places part))
      (IsPermutation-append (right_of g places part) right.order separator separator (dissected_permutes fuel (right_of g places part)) (IsPermutation-refl separator))) in
      let split : IsPermutation part (around (split_of g places part) left right).order = subst (IsPermutation part) (sym (append_assoc left.order right.order separator)) sides in
      elim (cases_Bool (nat_le (length part) 8)) [
        | inl small ↦ subst (λ (b : Bool). IsPermutation part (cond b (unsplit part) (around (split_of g places part) left right)).order) (sym small) (IsPermutation-refl part)
        | inr large ↦ subst (λ (b : Bool). IsPermutation part (cond b (unsplit part) (around (split_of g places part) left right)).order) (sym large) split
      ]

  pub dissected_long : length (dissected g places).order ≡ g.nodes
  dissected_long =
      let nodes : List ℕ = range_with_len 0 g.nodes in
      length_permutation nodes (dissected g places).order (dissected_permutes g.nodes nodes) ∙ length-range_with_len 0 g.nodes

  pub dissected_once : g.nodes ≤ 262144 → ListsEachNodeOnce (dissected g places).order
  dissected_once few =
      let nodes : List ℕ = range_with_len 0 g.nodes in
      let order : List ℕ = (dissected g places).order in
      let once : ListsEachNodeOnce nodes = each_once g.nodes few in
      let moved : IsPermutation nodes order = dissected_permutes g.nodes nodes in
      let long : length order ≡ length nodes = length_permutation nodes order moved in
      record {
        few = omega (arith, once.few, long);
        in_range = subst (λ (n : ℕ). All (λ node. node < n) order) (sym long) (All-permutation (λ node. node < length nodes) nodes order moved once.in_range);
        once = IsDistinct-IsPermutation eqb flips nodes order moved once.once;
      }
