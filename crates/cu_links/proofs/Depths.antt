-- How many links lead to a place: one number, and no more than there are places.
use Rattle.std.proofs.Common.{◌≡◌, ◌≤◌, ◌<◌, ◌∙◌, ℕ, zero, suc, Bool, true, false, List, [], ◌∷◌, Option, Some, None, eqb, refl, ap, sym, subst, arith, inl, inr, length}
use Rattle.std.specs.List.{list_any, IsDistinct, AllByRecursion}
use Rattle.std.specs.Prelude.{◌||◌}
use Rattle.std.proofs.lemmas.Bool.{cases_Bool, eqb-true}
use Rattle.std.proofs.lemmas.Map.Steps.{length-le_from_distinct_below}
use Rattle.cu_model.proofs.OrderLaws.{none_pass}
use Rattle.cu_model.proofs.OptionLaws.{same_value}
use Rattle.cu_links.specs.Chains.{link_at}
use Rattle.cu_links.specs.Steps.Kept.{IsDeep}
use Rattle.cu_links.proofs.Links.{link_within}

pub same_from : (o : Option (ℕ × ℕ)) (a b c d : ℕ) → o ≡ Some (a, b) → o ≡ Some (c, d) → a ≡ c
same_from o a b c d p q = ap (λ (l : ℕ × ℕ). l.0) (same_value o (a, b) (c, d) p q)

pub deep_same : (links : List (Option (ℕ × ℕ))) (n m place : ℕ) → IsDeep links n place → IsDeep links m place → n ≡ m
deep_same links zero zero place d e = refl
deep_same links zero (suc m) place d e = let at = e.2 in absurd (cc (d, at))
deep_same links (suc n) zero place d e = let at = d.2 in absurd (cc (at, e))
deep_same links (suc n) (suc m) place (from, label, at, rest) (from2, label2, at2, rest2) =
    let same = same_from (link_at links place) from label from2 label2 at at2 in
    ap (λ (k : ℕ). suc k) (deep_same links n m from rest (subst (λ (p : ℕ). IsDeep links m p) (sym same) rest2))

-- the linked places on the chain that leads to a place
deep_places : (links : List (Option (ℕ × ℕ))) (n place : ℕ) → IsDeep links n place → List ℕ
deep_places links zero place d = []
deep_places links (suc n) place d = place ∷ deep_places links n d.0 d.3

places_long : (links : List (Option (ℕ × ℕ))) (n place : ℕ) (d : IsDeep links n place) → length (deep_places links n place d) ≡ n
unfolding deep_places
places_long links zero place d = refl
places_long links (suc n) place d = ap (λ (k : ℕ). suc k) (places_long links n d.0 d.3)

member_deep : (links : List (Option (ℕ × ℕ))) (n place : ℕ) (d : IsDeep links n place) (q : ℕ) → list_any (eqb q) (deep_places links n place d) ≡ true
    → (k : ℕ) × (k ≤ n) × IsDeep links k q × (q < length links)
unfolding deep_places
member_deep links zero place d q e = absurd (cc e)
member_deep links (suc n) place d q e =
    elim (cases_Bool (eqb q place)) [
      | inl here ↦
          let same : q ≡ place = eqb-true q place here in
          (suc n, omega arith, subst (λ (p : ℕ). IsDeep links (suc n) p) (sym same) d, subst (λ (p : ℕ). p < length links) (sym same) (link_within links place (d.0, d.1) d.2))
      | inr other ↦
          let more : list_any (eqb q) (deep_places links n d.0 d.3) ≡ true = rw other at e in
          let (k, le, deep, lt) = member_deep links n d.0 d.3 q more in
          (k, omega (arith, le), deep, lt)
    ]

places_differ : (links : List (Option (ℕ × ℕ))) (n place : ℕ) (d : IsDeep links n place) → IsDistinct eqb (deep_places links n place d)
unfolding IsDistinct deep_places
places_differ links zero place d = tt
places_differ links (suc n) place d =
    let new : list_any (eqb place) (deep_places links n d.0 d.3) ≡ false =
    elim (cases_Bool (list_any (eqb place) (deep_places links n d.0 d.3))) [
      | inl again ↦
          let (k, le, deep, lt) = member_deep links n d.0 d.3 place again in
          let same = deep_same links k (suc n) place deep d in
          absurd (omega (arith, same, le))
      | inr none ↦ none
    ] in
    (none_pass place (deep_places links n d.0 d.3) new, places_differ links n d.0 d.3)

pub deep_few : (links : List (Option (ℕ × ℕ))) (n place : ℕ) → IsDeep links n place → n ≤ length links
deep_few links n place d =
    let few = length-le_from_distinct_below (deep_places links n place d) (length links) (places_differ links n place d) (λ q e. (member_deep links n place d q e).3) in
    let long = places_long links n place d in
    omega (arith, few, long)

-- the number of links that lead to a place, counted by no more steps than the fuel
abbrev pub depth_of : (ℕ → ℕ) → Option (ℕ × ℕ) → ℕ
depth_of rest None = 0
depth_of rest (Some link) = suc (rest link.0)

abbrev pub depth_by : ℕ → List (Option (ℕ × ℕ)) → ℕ → ℕ
depth_by zero links place = 0
depth_by (suc fuel) links place = depth_of (λ from. depth_by fuel links from) (link_at links place)

depth_is : (fuel : ℕ) (links : List (Option (ℕ × ℕ))) (n place : ℕ) → n ≤ fuel → IsDeep links n place → depth_by fuel links place ≡ n
depth_is zero links zero place le d = refl
depth_is zero links (suc n) place le d = absurd (omega (arith, le))
depth_is (suc fuel) links zero place le d = ap (depth_of (λ from. depth_by fuel links from)) d
depth_is (suc fuel) links (suc n) place le d =
    ap (depth_of (λ from. depth_by fuel links from)) d.2 ∙ ap (λ (k : ℕ). suc k) (depth_is fuel links n d.0 (omega (arith, le)) d.3)

pub depth_whole : (links : List (Option (ℕ × ℕ))) (n place : ℕ) → IsDeep links n place → depth_by (length links) links place ≡ n
depth_whole links n place d = depth_is (length links) links n place (deep_few links n place d) d
