use Rattle.std.proofs.Common.{◌≡◌, ◌+◌, ◌*◌, ℕ, length}
use Rattle.cu_runs.specs.declared.windows.TheConstants.{WINDOWS}
use Rattle.cu_runs.specs.declared.windows.Windows.{Windows}
use Rattle.cu_runs.specs.Steps.Bounded.{AreSpans}
use Rattle.cu_runs.proofs.BoundLaws.{AreFirst}
use Rattle.cu_runs.proofs.windows.by_reach.Given as goal

abbrev pub invariant-windows : goal.invariant-windows
invariant-windows l = record {
  long : length l.over ≡ 2 * WINDOWS + 1;
  first : (windows : Windows) → (f : ℕ → ℕ) → AreSpans windows f l.own → AreFirst windows f l.over l.window l.fn.whole;
}
