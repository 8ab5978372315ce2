-- Lists that grow at their end, each item in force from its second until the next one's: what they say of the seconds so far.
use Rattle.std.proofs.Common.{◌≡◌, ◌≢◌, ◌≤◌, ◌<◌, ◌+◌, ◌-◌, ◌++◌, ◌∙◌, ℕ, List, [], ◌∷◌, Option, Some, None, refl, sym, subst, ap, arith, inl, inr, leb, length, get_or, true, false}
use Rattle.std.specs.Prelude.{slice_get, nat_le, if◌then◌else◌}
use Rattle.std.specs.Option.{option_map}
use Rattle.std.specs.List.{AllAdjacentBelow}
use Rattle.std.proofs.lemmas.Bool.{cases_lt}
use Rattle.std.proofs.lemmas.List.{get_or_append_left, length_push}
use Rattle.std.proofs.lemmas.List.Elements.{All-push}
use Rattle.std.proofs.Math.Seq.{get_or-append_seam}
use Rattle.std.proofs.lemmas.Option.{slice_get-get_or, get_or_from_slice_get, slice_get_within}
use Rattle.cu_model.specs.Begun.{later_of, last_begun, Rises}
use Rattle.cu_model.proofs.Begun.{begun_until, le_test, gt_test}

-- the items begin at later and later seconds from 0 on, all before `t`, and at each second before `t` the last one that has begun says what it is to say
pub record IsTiled {A : Type 0} (from : A → ℕ) (says : A → ℕ → Type 0) (xs : List A) (t : ℕ) : Type 0 where
  pub starts : 0 < t → option_map from (slice_get xs 0) ≡ Some 0
  pub empty : t ≡ 0 → xs ≡ []
  pub rises : Rises from xs
  pub below : (i : ℕ) (d : A) → i < length xs → from (get_or xs i d) < t
  pub holds : (s : ℕ) → s < t → (x : A) × (last_begun from xs s ≡ Some x) × says x s

-- a relation between neighbours is kept by a further item that is so related to the last one
pub adjacent_push : {A : Type 0} (R : A → A → Type 0) (xs : List A) (x : A) → AllAdjacentBelow R xs (length xs)
    → ((y : A) → slice_get xs (length xs - 1) ≡ Some y → R y x) → AllAdjacentBelow R (xs ++ x ∷ []) (length (xs ++ x ∷ []))
adjacent_push {A} R xs x all last k d h =
    let size : length (xs ++ x ∷ []) ≡ length xs + 1 = length_push xs x in
    let inside : k < length xs = omega (arith, size, h) in
    let left : get_or (xs ++ x ∷ []) k d ≡ get_or xs k d = get_or_append_left xs (x ∷ []) d k inside in
    elim (cases_lt (k + 1) (length xs)) [
      | inl lt ↦
          let right : get_or (xs ++ x ∷ []) (k + 1) d ≡ get_or xs (k + 1) d = get_or_append_left xs (x ∷ []) d (k + 1) lt in
          rw (left, right) (all k d lt)
      | inr ge ↦
          let index : k + 1 ≡ length xs = omega (arith, ge, inside) in
          let right : get_or (xs ++ x ∷ []) (k + 1) d ≡ x = subst (λ (i : ℕ). get_or (xs ++ x ∷ []) i d ≡ x) (sym index) (get_or-append_seam xs x [] d) in
          let place : length xs - 1 ≡ k = omega (arith, index) in
          let there : slice_get xs (length xs - 1) ≡ Some (get_or xs k d) = subst (λ (i : ℕ). slice_get xs i ≡ Some (get_or xs k d)) (sym place) (slice_get-get_or xs k d inside) in
          rw (left, right) (last (get_or xs k d) there)
    ]

later_left : {A : Type 0} (o : Option A) → later_of None o ≡ o
later_left None = refl
later_left (Some x) = refl

later_assoc : {A : Type 0} (a b c : Option A) → later_of a (later_of b c) ≡ later_of (later_of a b) c
later_assoc a b None = refl
later_assoc a b (Some c) = refl

module _ {A : Type 0} (from : A → ℕ) where
  begun_push : (xs : List A) (x : A) (s : ℕ)
      → last_begun from (xs ++ x ∷ []) s ≡ later_of (last_begun from xs s) (last_begun from (x ∷ []) s)
  begun_push [] x s = sym (later_left (last_begun from (x ∷ []) s))
  begun_push (y ∷ ys) x s = rw (begun_push ys x s) (later_assoc (if nat_le (from y) s then Some y else None) (last_begun from ys s) (last_begun from (x ∷ []) s))

  -- before a further item begins it changes nothing
  push_before : (xs : List A) (x : A) (s : ℕ) → s < from x → last_begun from (xs ++ x ∷ []) s ≡ last_begun from xs s
  push_before xs x s h =
      let late : leb (from x) s ≡ false = gt_test (from x) s h in
      let none : last_begun from (x ∷ []) s ≡ None = rw late refl in
      begun_push xs x s ∙ rw none refl

  -- from then on it is the last that has begun
  push_after : (xs : List A) (x : A) (s : ℕ) → from x ≤ s → last_begun from (xs ++ x ∷ []) s ≡ Some x
  push_after xs x s h =
      let begun : leb (from x) s ≡ true = le_test (from x) s h in
      let some : last_begun from (x ∷ []) s ≡ Some x = rw begun refl in
      begun_push xs x s ∙ rw some refl

  first_push : (xs : List A) (x : A) → ((xs ≡ []) → from x ≡ 0) → ((xs ≢ []) → option_map from (slice_get xs 0) ≡ Some 0)
      → option_map from (slice_get (xs ++ x ∷ []) 0) ≡ Some 0
  first_push [] x none some = ap Some (none refl)
  first_push (y ∷ ys) x none some = some (λ e. absurd (cc e))

  -- what is before `t` for each item is so for the last
  last_below : (xs : List A) (t : ℕ) (y : A) → ((i : ℕ) (d : A) → i < length xs → from (get_or xs i d) < t)
      → slice_get xs (length xs - 1) ≡ Some y → from y < t
  last_below xs t y below last =
      let inside : length xs - 1 < length xs = slice_get_within xs (length xs - 1) y last in
      let same : get_or xs (length xs - 1) y ≡ y = get_or_from_slice_get xs (length xs - 1) y y last in
      subst (λ (z : A). from z < t) same (below (length xs - 1) y inside)

  module _ (says : A → ℕ → Type 0) where
    -- nothing is said before second 0
    pub tiled_none : IsTiled from says [] 0
    tiled_none = record {
      starts = λ positive. absurd (omega (arith, positive));
      empty = λ zero_end. refl;
      rises = λ k d h. absurd (omega (arith, h));
      below = λ i d h. absurd (omega (arith, h));
      holds = λ s h. absurd (omega (arith, h));
    }

    module _ (xs : List A) (t end : ℕ) where
      -- a further item that says what is to be said until `end`
      pub tiled_push : (x : A) → IsTiled from says xs t → from x ≡ t → t < end
          → ((s : ℕ) → t ≤ s → s < end → says x s) → IsTiled from says (xs ++ x ∷ []) end
      tiled_push x tiled at more new = record {
        starts = λ positive. first_push xs x
            (λ none. elim (cases_lt 0 t) [
              | inl lt ↦ let e = subst (λ (ys : List A). option_map from (slice_get ys 0) ≡ Some 0) none (tiled.starts lt) in absurd (cc e)
              | inr ge ↦ omega (arith, at, ge)
            ])
            (λ some. elim (cases_lt 0 t) [
              | inl lt ↦ tiled.starts lt
              | inr ge ↦ absurd (some (tiled.empty (omega (arith, ge))))
            ]);
        empty = λ zero_end. absurd (omega (arith, zero_end, more));
        rises = adjacent_push (λ (y z : A). from y < from z) xs x tiled.rises (λ y last. let b = last_below xs t y tiled.below last in omega (arith, at, b));
        below = All-push (λ (y : A). from y < end) xs x (λ i d h. let b = tiled.below i d h in omega (arith, b, more)) (omega (arith, at, more));
        holds = λ s h. elim (cases_lt s t) [
          | inl lt ↦
              let (y, last, said) = tiled.holds s lt in
              (y, push_before xs x s (omega (arith, at, lt)) ∙ last, said)
          | inr ge ↦ (x, push_after xs x s (omega (arith, at, ge)), new s ge h)
        ];
      }

      -- the last item says what is to be said until `end` too
      pub tiled_keep : (y : A) → IsTiled from says xs t
          → slice_get xs (length xs - 1) ≡ Some y → t ≤ end → ((s : ℕ) → t ≤ s → s < end → says y s) → IsTiled from says xs end
      tiled_keep y tiled last more new =
          let inside : length xs - 1 < length xs = slice_get_within xs (length xs - 1) y last in
          let same : get_or xs (length xs - 1) y ≡ y = get_or_from_slice_get xs (length xs - 1) y y last in
          let early : from y < t = last_below xs t y tiled.below last in
          record {
            starts = λ positive. tiled.starts (omega (arith, early));
            empty = λ zero_end. absurd (omega (arith, zero_end, more, early));
            rises = tiled.rises;
            below = λ i d h. let b = tiled.below i d h in omega (arith, b, more);
            holds = λ s h. elim (cases_lt s t) [
              | inl lt ↦ tiled.holds s lt
              | inr ge ↦
                  let begun : from (get_or xs (length xs - 1) y) ≤ s = subst (λ (z : A). from z ≤ s) (sym same) (omega (arith, early, ge)) in
                  let found : last_begun from xs s ≡ Some (get_or xs (length xs - 1) y) = begun_until from xs tiled.rises y (length xs - 1) s inside begun (λ past. absurd (omega (arith, past))) in
                  (y, found ∙ ap Some same, new s ge h)
            ];
          }
