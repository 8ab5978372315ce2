-- Lists that grow at their end: neighbours say different things, each from its second until the next one begins.
use Rattle.std.proofs.Common.{◌≡◌, ◌≢◌, ◌≤◌, ◌<◌, ◌-◌, ◌++◌, ◌∙◌, ℕ, List, [], ◌∷◌, Some, refl, sym, ap, subst, arith, inl, inr, length}
use Rattle.std.specs.Prelude.{slice_get, All}
use Rattle.std.specs.List.{AllAdjacentBelow}
use Rattle.std.proofs.lemmas.List.Elements.{All-push}
use Rattle.std.proofs.lemmas.Option.{slice_get_cases}
use Rattle.cu_model.specs.Growing.{IsPushed, last_says}
use Rattle.cu_model.proofs.Tiling.{IsTiled, tiled_push, tiled_keep, tiled_none, adjacent_push}

-- the last item of a list that says something
last_item : {A B : Type 0} (says : A → B) (xs : List A) (b : B) → last_says says xs ≡ Some b → (y : A) × (slice_get xs (length xs - 1) ≡ Some y) × (says y ≡ b)
last_item says xs b e = elim (slice_get_cases xs (length xs - 1)).1 [
  | inl found ↦
      let (y, inside, there, same) = found in
      (y, there, cc (rw there at e))
  | inr past ↦ let none = rw past.1 at e in absurd (cc none)
]

-- a list in which no neighbours say the same, tiled so far
pub record IsGrown {A B : Type 0} (from : A → ℕ) (says : A → B) (means : B → ℕ → Type 0) (xs : List A) (t : ℕ) : Type 0 where
  pub tiled : IsTiled from (λ x s. means (says x) s) xs t
  pub differs : AllAdjacentBelow (λ (x y : A). says x ≢ says y) xs (length xs)

pub grown_none : {A B : Type 0} (from : A → ℕ) (says : A → B) (means : B → ℕ → Type 0) → IsGrown from says means [] 0
grown_none {A} {B} from says means = record {
  tiled = tiled_none from (λ x s. means (says x) s);
  differs = λ k d h. absurd (omega (arith, h));
}

pub grown_push : {A B : Type 0} (from : A → ℕ) (says : A → B) (means : B → ℕ → Type 0) (old new : List A) (x : A) (t end : ℕ)
    → IsGrown from says means old t → IsPushed says old x new → from x ≡ t → t < end → ((s : ℕ) → t ≤ s → s < end → means (says x) s)
    → IsGrown from says means new end
grown_push {A} {B} from says means old new x t end grown (inl kept) at more meant =
    let (y, last, same) = last_item says old (says x) kept.0 in
    let still : IsGrown from says means old end = record {
      tiled = tiled_keep from (λ z s. means (says z) s) old t end y grown.tiled last (omega (arith, more))
          (λ s a b. subst (λ (w : B). means w s) (sym same) (meant s a b));
      differs = grown.differs;
    } in
    subst (λ (xs : List A). IsGrown from says means xs end) (sym kept.1) still
grown_push {A} {B} from says means old new x t end grown (inr pushed) at more meant =
    let longer : IsGrown from says means (old ++ x ∷ []) end = record {
      tiled = tiled_push from (λ z s. means (says z) s) old t end x grown.tiled at more meant;
      differs = adjacent_push (λ (y z : A). says y ≢ says z) old x grown.differs
          (λ y last e. pushed.0 (let there : last_says says old ≡ Some (says y) = rw last refl in there ∙ ap Some e));
    } in
    subst (λ (xs : List A). IsGrown from says means xs end) (sym pushed.1) longer

-- what holds of each item of the old list and of the pushed one holds of each of the new
pub all_pushed : {A B : Type 0} (says : A → B) (P : A → Type 0) (old new : List A) (x : A) → IsPushed says old x new → All P old → P x → All P new
all_pushed {A} says P old new x (inl kept) all here = subst (λ (xs : List A). All P xs) (sym kept.1) all
all_pushed {A} says P old new x (inr pushed) all here = subst (λ (xs : List A). All P xs) (sym pushed.1) (All-push P old x all here)
