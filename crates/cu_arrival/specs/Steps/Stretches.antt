-- Stretches: the seconds over which one run is in force, in absolute seconds.
use Rattle.std.specs.Prelude.{ℕ, List, Option, Some, None, ◌≡◌, ◌≤◌, ◌+◌, ◌%◌, slice_get}
use Rattle.cu_model.specs.Days.{day}
use Rattle.cu_arrival.specs.declared.runs.Run.{Run}
use Rattle.cu_arrival.specs.declared.runs.RunRule.{RunRule}
use Rattle.cu_arrival.specs.declared.runs.RunRule.TheVariants.{Shift, Fixed}
use Rattle.cu_arrival.specs.declared.stretches.Stretch.{Stretch}

-- the rule in absolute seconds, on the day that begins at this second
abbrev pub on_day : RunRule → ℕ → RunRule
on_day (Shift seconds) midnight = Shift seconds
on_day (Fixed arrival) midnight = Fixed (midnight + arrival)

-- the second of the day from which the next run holds, or the end of the day
abbrev pub until_next : Option Run → ℕ
until_next None = day
until_next (Some next) = next.from

-- the run of this index holds from `t` or an earlier second until the stretch's end
pub record IsStretch (runs : List Run) (x : Stretch) (t : ℕ) : Type 0 where
  pub midnight : x.midnight % day ≡ 0
  pub run : (run : Run)
      × (slice_get runs x.index ≡ Some run)
      × (x.midnight + run.from ≤ t)
      × (x.rule ≡ on_day run.rule x.midnight)
  pub end : x.end ≡ x.midnight + until_next (slice_get runs (x.index + 1))
