use Rattle.std.proofs.Common.{◌≡◌, ◌+◌, length}
use Rattle.cu_runs.specs.declared.windows.TheConstants.{STARTS}
use Rattle.cu_runs.specs.Windows.{AreEach, window_start}
use Rattle.cu_runs.proofs.windows.Windows.starts.Given as goal

abbrev pub invariant-windows : goal.invariant-windows
invariant-windows l = record {
  long : length l.starts ≡ STARTS;
  known : AreEach (λ window start. start ≡ window_start l.self window) l.starts (l.window + 1);
}
