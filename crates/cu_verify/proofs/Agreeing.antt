-- Hierarchies whose first lists are the same.
use Rattle.std.proofs.Common.{◌≡◌, ◌≤◌, ◌<◌, ◌+◌, ◌∙◌, ◌++◌, ◌∷◌, [], ℕ, suc, List, Some, length, take, get_or, refl, sym, ap, subst, arith}
use Rattle.std.specs.Prelude.{slice_get}
use Rattle.std.proofs.Math.Seq.{take-suc}
use Rattle.std.proofs.lemmas.List.{take_all}
use Rattle.std.proofs.lemmas.Option.{get_or_from_slice_get, slice_get-get_or, slice_get_within}
use Rattle.cu_interval.specs.declared.ways.Dir.{Dir}
use Rattle.cu_interval.specs.declared.ways.Entry.{Entry}
use Rattle.cu_interval.specs.Hierarchies.{HierarchyValue, IsBuilt, entries_or_none, list_of}
use Rattle.cu_interval.specs.WayLists.{way_at}
use Rattle.cu_verify.specs.declared.verdicts.Verdict.{Verdict}
use Rattle.cu_verify.specs.declared.verdicts.Verdict.TheVariants.{Same, Differs}
use Rattle.cu_verify.specs.Verdicts.{IsVerdict, with_lists}
use Rattle.cu_verify.specs.Steps.Comparing.{IsVerdictTo}
use Rattle.cu_verify.proofs.OneBuilt.{one_built}

-- one item more is the same
pub take_more : {A : Type 0} (xs ys : List A) (n : ℕ) (x y : A) → take n xs ≡ take n ys → slice_get xs n ≡ Some x → slice_get ys n ≡ Some y → x ≡ y → take (n + 1) xs ≡ take (n + 1) ys
take_more {A} xs ys n x y same one two equal =
    let more : n + 1 ≡ suc n = omega arith in
    let left : take (suc n) xs ≡ take n xs ++ x ∷ [] = take-suc xs n x (slice_get_within xs n x one) ∙ ap (λ (z : A). take n xs ++ z ∷ []) (get_or_from_slice_get xs n x x one) in
    let right : take (suc n) ys ≡ take n ys ++ y ∷ [] = take-suc ys n y (slice_get_within ys n y two) ∙ ap (λ (z : A). take n ys ++ z ∷ []) (get_or_from_slice_get ys n y y two) in
    let both : take (suc n) xs ≡ take (suc n) ys = left ∙ ap (λ (t : List A). t ++ x ∷ []) same ∙ ap (λ (z : A). take n ys ++ z ∷ []) equal ∙ sym right in
    subst (λ (k : ℕ). take k xs ≡ take k ys) (sym more) both

-- one list more is the same
pub take_list : (lists others : List (List Entry)) (n : ℕ) → n < length lists → n < length others → take n lists ≡ take n others
    → entries_or_none (slice_get lists n) ≡ entries_or_none (slice_get others n) → take (n + 1) lists ≡ take (n + 1) others
take_list lists others n one two same equal =
    let at = slice_get-get_or lists n [] one in
    let there = slice_get-get_or others n [] two in
    take_more lists others n (get_or lists n []) (get_or others n []) same at there (sym (ap entries_or_none at) ∙ equal ∙ ap entries_or_none there)

-- a built hierarchy doesn't differ from the built one
never_built : (h : HierarchyValue) (lists : List (List Entry)) → IsBuilt (with_lists h lists) → (edge : ℕ) (dir : Dir) (second : ℕ)
    → (way_at (list_of h edge dir) second ≡ way_at (list_of (with_lists h lists) edge dir) second → ⊥) → IsBuilt h → ⊥
never_built h lists built edge dir second apart is =
    let same = one_built h lists is built in
    apart (ap (λ (l : List (List Entry)). way_at (list_of (with_lists h l) edge dir) second) same)

-- all lists are the same
pub all_same : (h : HierarchyValue) (lists : List (List Entry)) (count : ℕ) → IsBuilt (with_lists h lists) → length h.lists ≤ count → length lists ≤ count → take count h.lists ≡ take count lists
    → IsBuilt h
all_same h lists count built few less is =
    let same : h.lists ≡ lists = sym (take_all count h.lists few) ∙ is ∙ take_all count lists less in
    subst (λ (l : List (List Entry)). IsBuilt (with_lists h l)) (sym same) built

-- a verdict that finds a difference
pub verdict_apart : (h : HierarchyValue) (lists : List (List Entry)) (count : ℕ) (verdict : Verdict) → IsBuilt (with_lists h lists) → (verdict ≡ Same → ⊥) → IsVerdictTo h lists count verdict
    → IsVerdict h verdict
verdict_apart h lists count Same built other is = absurd (other refl)
verdict_apart h lists count (Differs edge dir second stored way) built other is = (never_built h lists built edge dir second is.part.apart, lists, built, is)
