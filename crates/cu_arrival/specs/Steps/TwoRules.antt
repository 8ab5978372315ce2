-- What one step of a composition or a minimum says of the seconds from `at` until its end.
use Rattle.std.specs.Prelude.{ℕ, ◌≡◌, ◌≤◌, ◌<◌, ◌^◌, min, nat_lt}
use Rattle.cu_arrival.specs.declared.runs.RunRule.{RunRule}
use Rattle.cu_arrival.specs.declared.composition.Linked.{Linked}
use Rattle.cu_arrival.specs.declared.minimum.Earlier.{Earlier}
use Rattle.cu_arrival.specs.Runs.{rule_number, arrives}

-- the first rule and then the second, by 2 ^ 62
pub record IsLinked (first second : RunRule) (at end : ℕ) (step : Linked) : Type 0 where
  pub later : at < step.end
  pub within : step.end ≤ end
  pub limit : rule_number step.rule ≤ 2 ^ 62
  pub arrival : (s : ℕ) → at ≤ s → s < step.end → arrives step.rule s ≡ min (arrives second (arrives first s)) (2 ^ 62)

-- the earlier of two rules, while neither becomes the earlier in the other's place
pub record IsEarlier (first second : RunRule) (at end : ℕ) (step : Earlier) : Type 0 where
  pub later : at < step.end
  pub within : step.end ≤ end
  pub limit : rule_number step.rule ≤ 2 ^ 62
  pub arrival : (s : ℕ) → at ≤ s → s < step.end → arrives step.rule s ≡ min (arrives first s) (arrives second s)
  pub strictly : (s : ℕ) → at ≤ s → s < step.end → step.second ≡ nat_lt (arrives second s) (arrives first s)
