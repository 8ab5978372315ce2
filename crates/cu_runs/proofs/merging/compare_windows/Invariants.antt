use Rattle.std.proofs.Common.{◌≤◌, ◌-◌, ℕ}
use Rattle.cu_runs.specs.declared.windows.TheConstants.{WINDOWS}
use Rattle.cu_runs.specs.Steps.Merging.{IsMerging, IsNext, IsSeen}
use Rattle.cu_runs.specs.Windows.{window_start}
use Rattle.cu_runs.proofs.merging.compare_windows.Given as goal

abbrev pub invariant-windows : goal.invariant-windows
invariant-windows l = record {
  within : l.window ≤ WINDOWS;
  next : IsNext l.least l.next;
  order : l.next.done ≤ window_start l.windowed.limits.windows l.window;
  merging : (arrival : ℕ → ℕ) → IsSeen l.windowed.limits l.windowed.candidate l.least arrival
      → IsMerging l.least arrival l.windowed.candidate.way l.next (window_start l.windowed.limits.windows l.window);
}

abbrev pub decreases-windows : goal.decreases-windows
decreases-windows l = WINDOWS - l.window
