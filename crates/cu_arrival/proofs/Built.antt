-- From what a growing list says of each second to the arrival function, and the choices, that it ends as.
use Rattle.std.proofs.Common.{◌≡◌, ◌≤◌, ◌<◌, ◌+◌, ◌-◌, ◌*◌, ◌^◌, ◌∙◌, ℕ, List, refl, sym, subst, arith, inl, inr}
use Rattle.std.specs.Prelude.{All}
use Rattle.std.proofs.lemmas.Bool.{cases_lt}
use Rattle.cu_model.specs.Days.{day}
use Rattle.cu_model.specs.Growing.{IsPushed}
use Rattle.cu_model.proofs.Growing.{IsGrown, grown_push, all_pushed}
use Rattle.cu_arrival.specs.declared.runs.Run.{Run}
use Rattle.cu_arrival.specs.declared.runs.RunRule.{RunRule}
use Rattle.cu_arrival.specs.declared.runs.RunRule.TheVariants.{Shift, Fixed}
use Rattle.cu_arrival.specs.Runs.{run_at, run_value, rule_value, rule_number, arrival_value, IsRunInLimit, IsArrivalFunction, arrives}
use Rattle.cu_arrival.proofs.RunLaws.{value_in_day, value-days}

-- a rule that means this second's value of a function of the seconds of a day
abbrev pub Means : (ℕ → ℕ) → RunRule → ℕ → Type 0
Means f rule s = arrives rule s ≡ f s

-- runs that say a function so far
pub record IsBuilt (f : ℕ → ℕ) (runs : List Run) (t : ℕ) : Type 0 where
  pub grown : IsGrown (λ (run : Run). run.from) (λ (run : Run). run.rule) (Means f) runs t
  pub limits : All IsRunInLimit runs

pub built_push : (f : ℕ → ℕ) (old new : List Run) (run : Run) (t end : ℕ) → IsBuilt f old t → IsPushed (λ (r : Run). r.rule) old run new
    → run.from ≡ t → t < end → end ≤ day → rule_number run.rule ≤ 2 ^ 62 → ((s : ℕ) → t ≤ s → s < end → arrives run.rule s ≡ f s)
    → IsBuilt f new end
built_push f old new run t end built pushed at more in_day limit meant = record {
  grown = grown_push (λ (r : Run). r.from) (λ (r : Run). r.rule) (Means f) old new run t end built.grown pushed at more meant;
  limits = all_pushed (λ (r : Run). r.rule) IsRunInLimit old new run pushed built.limits (omega (arith, at, more, in_day), limit);
}

pub arrives-value : (rule : RunRule) (s : ℕ) → rule_value rule 0 s ≡ arrives rule s
arrives-value (Shift d) s = omega arith
arrives-value (Fixed c) s = omega arith

-- at each second of the day the built runs have the function's value
pub built_value : (f : ℕ → ℕ) (runs : List Run) → IsBuilt f runs day → (s : ℕ) → s < day → arrival_value runs s ≡ f s
built_value f runs built s h =
    let (run, last, meant) = built.grown.tiled.holds s h in
    let of_run : run_value (run_at runs s) 0 s ≡ rule_value run.rule 0 s = rw last refl in
    value_in_day runs s h ∙ of_run ∙ arrives-value run.rule s ∙ meant

-- a function that is no earlier than its second, never falls, at midnight neither, and stays by 2 ^ 62 on day 0
pub record IsDayFunction (f : ℕ → ℕ) : Type 0 where
  pub onward : (s : ℕ) → s < day → s ≤ f s
  pub fifo : (s : ℕ) → s + 1 < day → f s ≤ f (s + 1)
  pub midnight : f (day - 1) ≤ day + f 0
  pub bounded : (s : ℕ) → s < day → f s ≤ 2 ^ 62

pub built_function : (f : ℕ → ℕ) (runs : List Run) → IsBuilt f runs day → IsDayFunction f → IsArrivalFunction runs
built_function f runs built is =
    let starts = built.grown.tiled.starts (omega arith) in
    record {
      limits = built.limits;
      starts = starts;
      rises = built.grown.tiled.rises;
      onward = λ s h. let v = built_value f runs built s h in let o = is.onward s h in omega (arith, v, o);
      fifo = λ s h. let v = built_value f runs built s h in elim (cases_lt (s + 1) day) [
        | inl inside ↦ let w = built_value f runs built (s + 1) inside in let r = is.fifo s inside in omega (arith, v, w, r)
        | inr last ↦
            let here : s ≡ day - 1 = omega (arith, h, last) in
            let next : 1 * day + 0 ≡ s + 1 = omega (arith, here) in
            let z = built_value f runs built 0 (omega arith) in
            let d = subst (λ (t : ℕ). arrival_value runs t ≡ 1 * day + arrival_value runs 0) next (value-days runs starts 1 0 (omega arith)) in
            let m = subst (λ (t : ℕ). f t ≤ day + f 0) (sym here) is.midnight in
            omega (arith, v, z, d, m)
      ];
      bounded = λ s h. let v = built_value f runs built s h in let b = is.bounded s h in omega (arith, v, b);
    }
