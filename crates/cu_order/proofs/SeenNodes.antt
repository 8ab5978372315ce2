-- The flags of the nodes of the rows so far.
use Rattle.std.proofs.Common.{◌≡◌, ◌∙◌, ◌≤◌, ◌<◌, ℕ, List, [], ◌∷◌, ◌++◌, Bool, true, false, arith, eqb, length, get_or, set, refl, sym, ap, subst, inl, inr, length-set}
use Rattle.std.specs.Prelude.{All, ◌||◌}
use Rattle.std.specs.List.{IsDistinct, list_any}
use Rattle.std.proofs.Math.Bool.{or-false}
use Rattle.std.proofs.Math.ListN.{replicate, get_or-eq_default}
use Rattle.std.proofs.lemmas.List.{get_or-replicate, length-replicate, get_or-set_same, get_or-set_other}
use Rattle.std.proofs.lemmas.Bool.{eqb-true, eq-eqb, ne_eqb, cases_eq, cases_order}
use Rattle.std.proofs.lemmas.List.Elements.{All-append, All-cons, All-nil}
use Rattle.std.proofs.lemmas.List.Folds.{Any-from_list_any, list_any-append}
use Rattle.std.proofs.lemmas.Map.Keys.{IsDistinct-push}
use Rattle.std.proofs.lemmas.Cmp.{nat_eq_equiv}
use Rattle.std.proofs.lemmas.Bool.Decides.{Decides-eqb}
use Rattle.std.proofs.lemmas.Map.Made.{AllPairs-from_IsDistinct, IsDistinct-from_AllPairs}
use Rattle.std.proofs.lemmas.Map.Steps.{length-le_from_distinct_below}
use Rattle.cu_model.specs.declared.limits.TheConstants.{MAX_NODES}
use Rattle.cu_model.specs.Orders.{ListsEachNodeOnce}
use Rattle.cu_order.specs.Steps.Listed.{IsListed}

no_flag : (count node : ℕ) → get_or (replicate count false) node false ≡ false
no_flag count node =
    let long : length (replicate count false) ≡ count = length-replicate count false in
    elim (cases_order node count) [
      | inl same ↦ get_or-eq_default (replicate count false) false (omega (arith, long, same))
      | inr apart ↦ elim apart [
        | inl below ↦ get_or-replicate count node false false below
        | inr above ↦ get_or-eq_default (replicate count false) false (omega (arith, long, above))
      ]
    ]

-- no rows, and no flag
pub none_listed : (count : ℕ) → IsListed (replicate count false) []
none_listed count = record {
  told = λ node. no_flag count node;
  in_range = λ k d h. absurd (omega (arith, h));
  once = λ i j d lt h. absurd (omega (arith, h));
  few = omega arith;
}

or_true : (a : Bool) → (a || (true || false)) ≡ true
or_true true = refl
or_true false = refl

any_more : (q node : ℕ) (nodes : List ℕ) → list_any (eqb q) (nodes ++ (node ∷ [])) ≡ (list_any (eqb q) nodes || (eqb q node || false))
any_more q node nodes = list_any-append (eqb q) nodes (node ∷ [])

within : (n : ℕ) (nodes : List ℕ) → All (λ x. x < n) nodes → (q : ℕ) → list_any (eqb q) nodes ≡ true → q < n
within n nodes all q h =
    let found = Any-from_list_any (eqb q) nodes h in
    let read : get_or nodes found.0 found.1 ≡ found.1 = found.3 in
    let same : q ≡ found.1 = eqb-true q found.1 found.4 in
    let low : get_or nodes found.0 found.1 < n = all found.0 found.1 found.2 in
    omega (arith, low, read, same)

-- one more node, whose flag is set
pub listed_more : (seen : List Bool) (nodes : List ℕ) (node : ℕ) → IsListed seen nodes → node < length seen → get_or seen node false ≡ false
    → IsListed (set seen node true) (nodes ++ (node ∷ []))
listed_more seen nodes node f below unseen =
    let long : length (set seen node true) ≡ length seen = length-set _ _ _ in
    let new : list_any (eqb node) nodes ≡ false = sym (f.told node) ∙ unseen in
    let once : IsDistinct eqb (nodes ++ (node ∷ [])) = IsDistinct-push nat_eq_equiv nodes node (IsDistinct-from_AllPairs Decides-eqb nodes f.once) new in
    let in_range : All (λ x. x < length seen) (nodes ++ (node ∷ [])) = All-append (λ x. x < length seen) nodes (node ∷ []) f.in_range
    (All-cons (λ x. x < length seen) node [] below (All-nil (λ x. x < length seen))) in
    let few : length (nodes ++ (node ∷ [])) ≤ length seen = length-le_from_distinct_below (nodes ++ (node ∷ [])) (length seen) once (within (length seen) (nodes ++ (node ∷ [])) in_range) in
    record {
      told = λ q. elim (cases_eq q node) [
        | inl same ↦
            let flag : get_or (set seen node true) q false ≡ true = subst (λ k. get_or (set seen node true) k false ≡ true) (sym same) (get_or-set_same seen node true false below) in
            flag ∙ sym (any_more q node nodes ∙ ap (λ b. list_any (eqb q) nodes || (b || false)) (eq-eqb q node same) ∙ or_true (list_any (eqb q) nodes))
        | inr other ↦
            get_or-set_other seen node q true false other ∙ f.told q
            ∙ sym (any_more q node nodes ∙ ap (λ b. list_any (eqb q) nodes || (b || false)) (ne_eqb q node other) ∙ or-false (list_any (eqb q) nodes))
      ];
      in_range = subst (λ n. All (λ x. x < n) (nodes ++ (node ∷ []))) (sym long) in_range;
      once = AllPairs-from_IsDistinct Decides-eqb (nodes ++ (node ∷ [])) once;
      few = omega (arith, few, long);
    }

-- as many nodes as flags are all nodes
pub each_once : (seen : List Bool) (nodes : List ℕ) → IsListed seen nodes → length seen ≤ MAX_NODES → length seen ≤ length nodes → ListsEachNodeOnce nodes
each_once seen nodes f limit whole =
    let same : length nodes ≡ length seen = omega (arith, f.few, whole) in
    record {
      few = omega (arith, limit, same);
      in_range = subst (λ n. All (λ node. node < n) nodes) (sym same) f.in_range;
      once = IsDistinct-from_AllPairs Decides-eqb nodes f.once;
    }
