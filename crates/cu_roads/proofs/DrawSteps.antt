-- Draws, step by step.
use Rattle.std.proofs.Common.{◌≡◌, ◌∙◌, ◌<◌, ◌+◌, ◌*◌, ◌/◌, ◌%◌, ◌^◌, ℕ, zero, suc, refl, ap, arith}
use Rattle.std.proofs.lemmas.Nat.{mod_below}
use Rattle.cu_roads.specs.declared.draws.TheConstants.{INCREMENT, MULTIPLIER}
use Rattle.cu_roads.specs.Draws.{after, drawn, stepped}

pub drawn_below : (below state : ℕ) → 0 < below → drawn below state < below
unfolding drawn
drawn_below below state h = mod_below (stepped state / 2 ^ 33) below h

pub after_none : (state : ℕ) → after 0 state ≡ state
unfolding after
after_none state = refl

pub after_one : (state : ℕ) → after 1 state ≡ stepped state
unfolding after
after_one state = refl

pub after_two : (state : ℕ) → after 2 state ≡ stepped (stepped state)
unfolding after
after_two state = refl

-- so many steps and then more
pub after_more : (first more state : ℕ) → after more (after first state) ≡ after (first + more) state
unfolding after
after_more zero more state = let e : more ≡ 0 + more = omega arith in ap (λ (n : ℕ). after n state) e
after_more (suc first) more state =
    let e : suc (first + more) ≡ suc first + more = omega arith in
    after_more first more (stepped state) ∙ ap (λ (n : ℕ). after n state) e

-- one step, in two operations that stay within 64 bits
pub step_is : (state old : ℕ) → state ≡ old → (state * MULTIPLIER % 2 ^ 64 + INCREMENT) % 2 ^ 64 ≡ stepped old
unfolding stepped
step_is state old e = omega (arith, e)

pub number_is : (state old divisor below : ℕ) → state ≡ old → divisor ≡ below
    → (state * MULTIPLIER % 2 ^ 64 + INCREMENT) % 2 ^ 64 / 2 ^ 33 % divisor ≡ drawn below old
unfolding drawn
number_is state old divisor below e f = rw (step_is state old e, f) refl
