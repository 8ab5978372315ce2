use Rattle.std.proofs.Common.{◌≡◌, ◌+◌, ◌≤◌, ℕ, get_or}
use Rattle.cu_runs.specs.Windows.{AreEach, IsLowered, TakesBetween, window_start}
use Rattle.cu_runs.specs.PackedRuns.{composed}
use Rattle.cu_runs.proofs.day_function.DayFunction.bound_with.Given as goal

abbrev pub invariant-windows : goal.invariant-windows
invariant-windows l = record {
  lower : AreEach (λ window bound. TakesBetween (composed l.self l.second) (window_start l.fn.windows window) (window_start l.fn.windows (window + 1)) bound) l.lower l.window;
  lowered : AreEach (λ window limit. IsLowered (composed l.self l.second) (window_start l.fn.windows window) (window_start l.fn.windows (window + 1))
      (get_or l.initial.limits window 0) limit) l.limits l.window;
  ahead : (i : ℕ) → l.window ≤ i → get_or l.limits i 0 ≡ get_or l.initial.limits i 0;
}
