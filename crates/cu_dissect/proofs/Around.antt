-- A split and what its sides give, added one after another, are the dissected part.
use Rattle.std.proofs.Common.{◌≡◌, ◌≤◌, ◌<◌, ℕ, zero, suc, List, [], ◌∷◌, ◌++◌, Bool, cond, length, sym, ◌∙◌, ap, subst, arith, append_assoc}
use Rattle.std.proofs.lemmas.Bool.{lt-leb}
use Rattle.cu_model.specs.Networks.{NetworkValue}
use Rattle.cu_roads.specs.declared.places.Place.{Place}
use Rattle.cu_dissect.specs.declared.dissecting.Dissection.{Dissection}
use Rattle.cu_dissect.specs.Dissection.{Dissected, SplitValue, around, dissected_by, left_of, right_of, split_of, unsplit}
use Rattle.cu_dissect.specs.Steps.Parts.{Adds, AreParts}

pub regroup : {X : Type 0} (a b c d : List X) → ((a ++ b) ++ c) ++ d ≡ a ++ ((b ++ c) ++ d)
regroup a b c d = simp append_assoc

pub behind_one : {X : Type 0} (a : List X) (x : X) (b c : List X) → ((a ++ (x ∷ [])) ++ b) ++ c ≡ a ++ (x ∷ (b ++ c))
behind_one a x b c = simp append_assoc

pub split_order : (g : NetworkValue) (places : List Place) (fuel : ℕ) (part : List ℕ) → 8 < length part
    → dissected_by g places (suc fuel) part ≡ around (split_of g places part) (dissected_by g places fuel (left_of places part)) (dissected_by g places fuel (right_of g places part))
split_order g places fuel part large =
    ap (λ (b : Bool). cond b (unsplit part) (around (split_of g places part) (dissected_by g places fuel (left_of places part))
    (dissected_by g places fuel (right_of g places part)))) (lt-leb (length part) 8 large)

pub added_around : (split : SplitValue) (left right : Dissected) (before begun half most after : Dissection)
    → begun.order.items ≡ before.order.items → begun.splits.items ≡ before.splits.items ++ (split ∷ []) → Adds left begun half → Adds right half most
    → after.order.items ≡ most.order.items ++ split.separator → after.splits.items ≡ most.splits.items → Adds (around split left right) before after
added_around split left right before begun half most after same listed left_added right_added ends kept = record {
  order =
      let front : most.order.items ≡ (before.order.items ++ left.order) ++ right.order =
      right_added.order ∙ ap (λ (xs : List ℕ). xs ++ right.order) (left_added.order ∙ ap (λ (xs : List ℕ). xs ++ left.order) same) in
      ends ∙ ap (λ (xs : List ℕ). xs ++ split.separator) front ∙ regroup before.order.items left.order right.order split.separator;
  splits =
      let front : most.splits.items ≡ ((before.splits.items ++ (split ∷ [])) ++ left.splits) ++ right.splits =
      right_added.splits ∙ ap (λ (xs : List SplitValue). xs ++ right.splits) (left_added.splits ∙ ap (λ (xs : List SplitValue). xs ++ left.splits) listed) in
      kept ∙ front ∙ behind_one before.splits.items split left.splits right.splits;
}

-- the sides by any fuel that is enough for them give the part by any that is enough for it
pub part_added : (g : NetworkValue) (places : List Place) (part : List ℕ) (split : SplitValue) (before begun half most after : Dissection) → 8 < length part
    → split ≡ split_of g places part → AreParts g.nodes (length part) split
    → begun.order.items ≡ before.order.items → begun.splits.items ≡ before.splits.items ++ (split ∷ [])
    → ((fuel : ℕ) → length split.left ≤ fuel → Adds (dissected_by g places fuel split.left) begun half)
    → ((fuel : ℕ) → length split.right ≤ fuel → Adds (dissected_by g places fuel split.right) half most)
    → after.order.items ≡ most.order.items ++ split.separator → after.splits.items ≡ most.splits.items
    → (fuel : ℕ) → length part ≤ fuel → Adds (dissected_by g places fuel part) before after
part_added g places part split before begun half most after large exact f same listed left right ends kept zero enough = absurd (omega (arith, large, enough))
part_added g places part split before begun half most after large exact f same listed left right ends kept (suc fuel) enough =
    let whole : Adds (around split (dissected_by g places fuel split.left) (dissected_by g places fuel split.right)) before after =
    added_around split (dissected_by g places fuel split.left) (dissected_by g places fuel split.right) before begun half most after same listed
    (left fuel (omega (arith, f.left_short, enough))) (right fuel (omega (arith, f.right_short, enough))) ends kept in
    let of_split : Adds (around (split_of g places part) (dissected_by g places fuel (left_of places part)) (dissected_by g places fuel (right_of g places part))) before after =
    subst (λ (s : SplitValue). Adds (around s (dissected_by g places fuel s.left) (dissected_by g places fuel s.right)) before after) exact whole in
    subst (λ (d : Dissected). Adds d before after) (sym (split_order g places fuel part large)) of_split
