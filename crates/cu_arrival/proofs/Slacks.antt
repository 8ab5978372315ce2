-- How far one function is behind another: from stretch to stretch, and over one greatest at its first or at its last second.
use Rattle.std.proofs.Common.{◌≡◌, ◌≤◌, ◌<◌, ◌+◌, ◌-◌, ℕ, List, arith, max, min, inl, inr}
use Rattle.std.proofs.lemmas.Bool.{cases_lt}
use Rattle.cu_model.specs.Days.{day}
use Rattle.cu_arrival.specs.declared.runs.Run.{Run}
use Rattle.cu_arrival.specs.declared.runs.RunRule.{RunRule}
use Rattle.cu_arrival.specs.declared.runs.RunRule.TheVariants.{Shift, Fixed}
use Rattle.cu_arrival.specs.declared.stretches.Stretch.{Stretch}
use Rattle.cu_arrival.specs.Runs.{IsArrivalFunction, arrival_value, arrives}
use Rattle.cu_arrival.specs.Steps.Stretches.{IsStretch}
use Rattle.cu_arrival.proofs.StretchLaws.{stretch_later, stretch_value}

pub behind_between : (first second : RunRule) (at end t : ℕ) → at ≤ t → t < end
    → arrives first t < arrives second t
    + max ((arrives first at + 1) - arrives second at) ((arrives first (end - 1) + 1) - arrives second (end - 1))
behind_between (Shift a) (Shift b) at end t le lt = omega (arith, le, lt)
behind_between (Shift a) (Fixed b) at end t le lt = omega (arith, le, lt)
behind_between (Fixed a) (Shift b) at end t le lt = omega (arith, le, lt)
behind_between (Fixed a) (Fixed b) at end t le lt = omega (arith, le, lt)

-- what is kept from step to step: before `at` the slack is enough, and both stretches have begun by then
pub record IsTrailing (limit function : List Run) (slack : ℕ) (x y : Stretch) (at : ℕ) : Type 0 where
  pub within : at ≤ day
  pub enough : (t : ℕ) → t < at → arrival_value limit t < arrival_value function t + slack
  pub on_limit : IsStretch limit x at
  pub on_function : IsStretch function y at

pub trailing_step : (limit function : List Run) (slack more both : ℕ) (x y u v : Stretch) (at end : ℕ)
    → IsArrivalFunction limit → IsArrivalFunction function → IsTrailing limit function slack x y at
    → IsStretch limit u at → at < u.end → u.end ≤ day → IsStretch function v at → at < v.end
    → end ≡ min u.end v.end → both ≡ max slack more
    → ((t : ℕ) → at ≤ t → t < end → arrives u.rule t < arrives v.rule t + more)
    → IsTrailing limit function both u v end
trailing_step limit function slack more both x y u v at end f g is on_limit later in_day on_function later_too ends most behind = record {
  within = omega (arith, in_day, ends);
  enough = λ t h. elim (cases_lt t at) [
    | inl before ↦ let less = is.enough t before in omega (arith, less, most)
    | inr from ↦
        let a = stretch_value limit u at f on_limit t from (omega (arith, h, ends)) in
        let b = stretch_value function v at g on_function t from (omega (arith, h, ends)) in
        let less = behind t from h in
        omega (arith, a, b, less, most)
  ];
  on_limit = stretch_later limit u at end on_limit (omega (arith, later, later_too, ends));
  on_function = stretch_later function v at end on_function (omega (arith, later, later_too, ends));
}
