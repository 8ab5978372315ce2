-- Packed runs: what their bits say, and which lists of runs are functions of the seconds of a day.
use Rattle.std.specs.Prelude.{ℕ, zero, suc, Bool, true, false, List, Some, ◌≡◌, ◌≢◌, ◌≤◌, ◌+◌, ◌-◌, ◌*◌, ◌/◌, ◌%◌, ◌^◌, slice_get, length, All}
use Rattle.std.specs.Option.{option_map}
use Rattle.std.specs.List.{AllAdjacentBelow}
use Rattle.std.proofs.Common.{arith, refl}
use Rattle.cu_model.specs.Begun.{Rises}
use Rattle.cu_model.specs.Days.{day, KeepsOrder}
use Rattle.cu_runs.specs.declared.packed_runs.TheConstants.{MAX_NUMBER}
use Rattle.cu_arrival.specs.declared.runs.Run.{Run}
use Rattle.cu_arrival.specs.declared.runs.RunRule.{RunRule}
use Rattle.cu_arrival.specs.declared.runs.RunRule.TheVariants.{Shift, Fixed}
use Rattle.cu_arrival.specs.Runs.{rule_number, arrival_value}

-- a rule of this kind, 0 for one that shifts, and number
abbrev pub rule_of : ℕ → ℕ → RunRule
rule_of zero number = Shift number
rule_of (suc _) number = Fixed number

-- the run that a packed run's bits say: 17 bits of its second, one of its kind, and 46 of its number
abbrev pub run_of_bits : ℕ → Run
run_of_bits bits = record {
  from = bits / 2 ^ 47;
  rule = rule_of (bits / 2 ^ 46 % 2) (bits % 2 ^ 46);
}

-- the low 47 bits of a rule
abbrev pub rule_bits : RunRule → ℕ
rule_bits (Shift number) = number
rule_bits (Fixed number) = 2 ^ 46 + number

abbrev pub bits_of_run : Run → ℕ
bits_of_run run = run.from * 2 ^ 47 + rule_bits run.rule

low_bits : (kind bits : ℕ) → bits / 2 ^ 46 % 2 ≡ kind
    → rule_bits (rule_of kind (bits % 2 ^ 46)) ≡ bits % 2 ^ 47
low_bits zero bits e = omega (arith, e)
low_bits (suc k) bits e = omega (arith, e)

-- the low bits of a packed run say its rule
pub rule_bits-back : (bits : ℕ) → rule_bits (run_of_bits bits).rule ≡ bits % 2 ^ 47
rule_bits-back bits = low_bits (bits / 2 ^ 46 % 2) bits refl

-- a packed run's bits come back from the run that they say
pub bits_back : (bits : ℕ) → bits_of_run (run_of_bits bits) ≡ bits
bits_back bits = let low = rule_bits-back bits in omega (arith, low)

-- whether a rule arrives at one second, whenever it leaves
abbrev pub is_fixed : RunRule → Bool
is_fixed (Shift number) = false
is_fixed (Fixed number) = true

-- the run that ends a function
abbrev pub end_run : Run
end_run = record { from = day; rule = Shift 0 }

-- Runs from second 0 on, each from a later second than the one before, the last from the end of the
-- day: that one only ends them.
pub record IsDayList (packed : List Run) : Type 0 where
  pub starts : option_map (λ (run : Run). run.from) (slice_get packed 0) ≡ Some 0
  pub rises : Rises (λ (run : Run). run.from) packed
  pub ends : option_map (λ (run : Run). run.from) (slice_get packed (length packed - 1)) ≡ Some day

-- A function of the seconds of a day, whose numbers are in their limit and where no later departure
-- arrives earlier, midnight included.
pub record IsPackedFunction (packed : List Run) : Type 0 where
  pub over_day : IsDayList packed
  pub limits : All (λ (run : Run). rule_number run.rule ≤ MAX_NUMBER) packed
  pub fifo : KeepsOrder (arrival_value packed)

-- no two neighbouring runs say the same; the end is no run
abbrev pub IsCompactDay : List Run → Type 0
IsCompactDay packed =
    AllAdjacentBelow (λ (run next : Run). run.rule ≢ next.rule) packed (length packed - 1)

-- the composition of two functions: along the first and, from where it arrives, along the second
abbrev pub composed : List Run → List Run → ℕ → ℕ
composed first second t = arrival_value second (arrival_value first t)
