-- The function of one run.
use Rattle.std.proofs.Common.{◌≡◌, ◌≤◌, ◌<◌, ◌+◌, ◌-◌, ℕ, zero, suc, [], ◌∷◌, Some, refl, ap, arith, get_or}
use Rattle.std.specs.Prelude.{All}
use Rattle.cu_model.specs.Days.{day}
use Rattle.cu_arrival.specs.declared.runs.Run.{Run}
use Rattle.cu_arrival.specs.declared.runs.RunRule.{RunRule}
use Rattle.cu_arrival.specs.declared.runs.RunRule.TheVariants.{Shift, Fixed}
use Rattle.cu_arrival.specs.Runs.{rule_number, arrival_value, arrives}
use Rattle.cu_runs.specs.declared.packed_runs.TheConstants.{MAX_NUMBER}
use Rattle.cu_runs.specs.PackedRuns.{IsDayList, IsPackedFunction, end_run}
use Rattle.cu_runs.proofs.DayLists.{value_in_force}
use Rattle.cu_runs.proofs.ReadLaws.{day_order}

module _ (run : Run) (from : run.from ≡ 0) where
  one_rises : (k : ℕ) (d : Run) → k + 1 < 2 → (get_or (run ∷ end_run ∷ []) k d).from < (get_or (run ∷ end_run ∷ []) (k + 1) d).from
  one_rises zero d h = omega (arith, from)
  one_rises (suc k) d h = absurd (omega (arith, h))

  one_day : IsDayList (run ∷ end_run ∷ [])
  one_day = record { starts = ap Some from; rises = one_rises; ends = refl }

  pub one_value : (t : ℕ) → t < day → arrival_value (run ∷ end_run ∷ []) t ≡ arrives run.rule t
  one_value t h = value_in_force (run ∷ end_run ∷ []) one_day 0 t run (omega arith) (omega (arith, from)) h

  one_limits : rule_number run.rule ≤ MAX_NUMBER → All (λ (r : Run). rule_number r.rule ≤ MAX_NUMBER) (run ∷ end_run ∷ [])
  one_limits limit zero d h = limit
  one_limits limit (suc zero) d h = omega arith
  one_limits limit (suc (suc k)) d h = absurd (omega (arith, h))

  rises_by_one : (r : RunRule) (s : ℕ) → arrives r s ≤ arrives r (s + 1)
  rises_by_one (Shift d) s = omega arith
  rises_by_one (Fixed c) s = omega arith

  over_midnight : (r : RunRule) → arrives r (day - 1) ≤ day + arrives r 0
  over_midnight (Shift d) = omega arith
  over_midnight (Fixed c) = omega arith

  pub one_function : rule_number run.rule ≤ MAX_NUMBER → IsPackedFunction (run ∷ end_run ∷ [])
  one_function limit = record {
    over_day = one_day;
    limits = one_limits limit;
    fifo = day_order (run ∷ end_run ∷ []) one_day record {
      in_day = λ s h. let here = one_value s (omega (arith, h)) in let next = one_value (s + 1) h in let up = rises_by_one run.rule s in omega (arith, here, next, up);
      midnight = let here = one_value (day - 1) (omega arith) in let next = one_value 0 (omega arith) in let up = over_midnight run.rule in omega (arith, here, next, up);
    };
  }
