-- Numbers drawn one after the other from a state of 64 bits.
use Rattle.std.specs.Prelude.{ℕ, zero, suc, ◌+◌, ◌*◌, ◌/◌, ◌%◌, ◌^◌}
use Rattle.cu_roads.specs.declared.draws.TheConstants.{INCREMENT, MULTIPLIER}

-- the state after a step
unfoldable pub stepped : ℕ → ℕ
stepped state = (state * MULTIPLIER + INCREMENT) % 2 ^ 64

-- the number below `below` that the next step gives: the upper 31 bits of the state after it, modulo `below`
unfoldable pub drawn : ℕ → ℕ → ℕ
drawn below state = (stepped state / 2 ^ 33) % below

-- the state after so many steps
unfoldable pub after : ℕ → ℕ → ℕ
after zero state = state
after (suc steps) state = after steps (stepped state)
