-- The first number of a range that passes a test, and ranges one after another.
use Rattle.std.proofs.Common.{◌≡◌, ◌≤◌, ◌<◌, ℕ, zero, suc, Option, Some, None, Bool, true, false, refl, ap, subst, arith, inl, inr, cond, ◌+◌}
use Rattle.std.specs.Option.{option_or}
use Rattle.std.proofs.lemmas.Bool.{cases_lt, cases_order}
use Rattle.cu_model.specs.Faults.{least}

-- this is the first number from `low` on and below `high` that passes, and `None` says that none does
abbrev pub IsFirst : (ℕ → Bool) → ℕ → ℕ → Option ℕ → Type 0
IsFirst test low high None = (s : ℕ) → low ≤ s → s < high → test s ≡ false
IsFirst test low high (Some k) = (low ≤ k) × (k < high) × (test k ≡ true) × ((s : ℕ) → low ≤ s → s < k → test s ≡ false)

module _ (test : ℕ → Bool) where
  -- the first of two ranges, the second behind the first
  pub first_joined : (low middle high : ℕ) (a b : Option ℕ) → low ≤ middle → middle ≤ high
      → IsFirst test low middle a → IsFirst test middle high b → IsFirst test low high (option_or a b)
  first_joined low middle high None None l h f g = λ s from until. elim (cases_lt s middle) [
    | inl before ↦ f s from before
    | inr after ↦ g s after until
  ]
  first_joined low middle high None (Some k) l h f g = (
    omega (arith, g.0),
    g.1,
    g.2,
    λ s from until. elim (cases_lt s middle) [
      | inl before ↦ f s from before
      | inr after ↦ g.3 s after until
    ],
  )
  first_joined low middle high (Some k) b l h f g = (f.0, omega (arith, f.1), f.2, f.3)

  -- one number alone
  pub first_one : (low high : ℕ) (b : Bool) → low + 1 ≡ high → test low ≡ b → IsFirst test low high (cond b (Some low) None)
  first_one low high true e h = (omega arith, omega (arith, e), h, λ s from until. absurd (omega (arith, from, until)))
  first_one low high false e h = λ s from until. let same : low ≡ s = omega (arith, e, from, until) in subst (λ (x : ℕ). test x ≡ false) same h

  -- a range has one first
  pub first_unique : (low high : ℕ) (a b : Option ℕ) → IsFirst test low high a → IsFirst test low high b → a ≡ b
  first_unique low high None None f g = refl
  first_unique low high None (Some k) f g = absurd (cc (f k g.0 g.1, g.2))
  first_unique low high (Some k) None f g = absurd (cc (g k f.0 f.1, f.2))
  first_unique low high (Some k) (Some j) f g = elim (cases_order k j) [
    | inl same ↦ ap Some same
    | inr (inl before) ↦ absurd (cc (g.3 k f.0 before, f.2))
    | inr (inr after) ↦ absurd (cc (f.3 j g.0 after, g.2))
  ]

  -- `least` is the first from 0 on
  pub least_first : (n : ℕ) → IsFirst test 0 n (least test n)
  unfolding least
  least_first zero = λ s from until. absurd (omega (arith, until))
  least_first (suc n) =
      first_joined 0 n (suc n) (least test n) (cond (test n) (Some n) None) (omega arith) (omega arith)
      (least_first n) (first_one n (suc n) (test n) (omega arith) refl)

  -- it passes, it is below n, and none below it passes
  pub least-some : (n k : ℕ) → least test n ≡ Some k → (k < n) × (test k ≡ true) × ((s : ℕ) → s < k → test s ≡ false)
  least-some n k e =
      let f = subst (λ (o : Option ℕ). IsFirst test 0 n o) e (least_first n) in
      (f.1, f.2, λ s below. f.3 s (omega arith) below)

  -- none below n passes
  pub least-none : (n : ℕ) → least test n ≡ None → (s : ℕ) → s < n → test s ≡ false
  least-none n e s below = (subst (λ (o : Option ℕ). IsFirst test 0 n o) e (least_first n)) s (omega arith) below

  -- where none below n passes there is no least
  pub least_none_from : (n : ℕ) → ((s : ℕ) → s < n → test s ≡ false) → least test n ≡ None
  least_none_from n none = first_unique 0 n (least test n) None (least_first n) (λ s from below. none s below)

  -- what is first from 0 on is the least
  pub least_is : (n : ℕ) (o : Option ℕ) → IsFirst test 0 n o → least test n ≡ o
  least_is n o f = first_unique 0 n (least test n) o (least_first n) f
