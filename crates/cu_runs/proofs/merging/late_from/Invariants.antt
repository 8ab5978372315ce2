use Rattle.std.proofs.Common.{◌≤◌, ◌<◌, ◌-◌, ℕ}
use Rattle.cu_runs.specs.declared.windows.TheConstants.{WINDOWS}
use Rattle.cu_runs.specs.Steps.Merging.{IsLate}
use Rattle.cu_runs.proofs.merging.late_from.Given as goal

abbrev pub invariant-windows : goal.invariant-windows
invariant-windows l = record {
  from : l.first ≤ l.window;
  within : l.window ≤ WINDOWS;
  before : (window : ℕ) → l.first ≤ window → window < l.window → IsLate l.limits.lower.now l.limits.most.now window → ⊥;
}

abbrev pub decreases-windows : goal.decreases-windows
decreases-windows l = WINDOWS - l.window
