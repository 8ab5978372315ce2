-- Arrival functions repeat by whole days, and so arrive no earlier than they leave and keep order at all seconds.
use Rattle.std.proofs.Common.{◌≡◌, ◌≤◌, ◌<◌, ◌+◌, ◌*◌, ◌∙◌, ℕ, List, Some, refl, sym, ap, arith}
use Rattle.std.specs.Prelude.{slice_get}
use Rattle.std.specs.Option.{option_map}
use Rattle.std.proofs.lemmas.Nat.{mod-mul-add, div-mul-add}
use Rattle.cu_model.specs.Days.{day, RepeatsDaily}
use Rattle.cu_model.proofs.Begun.{starts_begun}
use Rattle.cu_model.proofs.DayLaws.{onward_always, order_always, next_day}
use Rattle.cu_arrival.specs.declared.runs.Run.{Run}
use Rattle.cu_arrival.specs.declared.runs.RunRule.{RunRule}
use Rattle.cu_arrival.specs.declared.runs.RunRule.TheVariants.{Shift, Fixed}
use Rattle.cu_arrival.specs.Runs.{run_at, run_value, rule_value, arrival_value, IsArrivalFunction}

rule_shift : (r : RunRule) (k s : ℕ) → rule_value r k s ≡ k * day + rule_value r 0 s
rule_shift (Shift d) k s = omega arith
rule_shift (Fixed c) k s = omega arith

pub value_at : (runs : List Run) (k s : ℕ) → s < day → arrival_value runs (k * day + s) ≡ run_value (run_at runs s) k s
value_at runs k s h = rw (mod-mul-add k day s h, div-mul-add k day s h) refl

pub value_in_day : (runs : List Run) (s : ℕ) → s < day → arrival_value runs s ≡ run_value (run_at runs s) 0 s
value_in_day runs s h =
    let e : 0 * day + s ≡ s = omega arith in
    ap (λ (t : ℕ). arrival_value runs t) (sym e) ∙ value_at runs 0 s h

-- the value repeats by whole days where the first run is from second 0
pub value-days : (runs : List Run) → option_map (λ (run : Run). run.from) (slice_get runs 0) ≡ Some 0 → RepeatsDaily (arrival_value runs)
value-days runs starts k s h =
    let (run, e) = starts_begun (λ (run : Run). run.from) runs s starts in
    let a : run_value (run_at runs s) k s ≡ rule_value run.rule k s = rw e refl in
    let b : run_value (run_at runs s) 0 s ≡ rule_value run.rule 0 s = rw e refl in
    value_at runs k s h ∙ a ∙ rule_shift run.rule k s ∙ ap (λ (x : ℕ). k * day + x) (sym b ∙ sym (value_in_day runs s h))

module _ (runs : List Run) (f : IsArrivalFunction runs) where
  pub arrival_value-repeats : RepeatsDaily (arrival_value runs)
  arrival_value-repeats = value-days runs f.starts

  -- no arrival is before its departure
  pub arrival_value-onward : (t : ℕ) → t ≤ arrival_value runs t
  arrival_value-onward = onward_always (arrival_value runs) arrival_value-repeats f.onward

  -- leaving later never arrives earlier, at any two seconds
  pub arrival_value-fifo : (t s : ℕ) → t ≤ s → arrival_value runs t ≤ arrival_value runs s
  arrival_value-fifo = order_always (arrival_value runs) arrival_value-repeats f.fifo

  -- a day later the function arrives a day later
  pub arrival_value-next_day : (t : ℕ) → arrival_value runs (day + t) ≡ day + arrival_value runs t
  arrival_value-next_day = next_day (arrival_value runs) arrival_value-repeats
