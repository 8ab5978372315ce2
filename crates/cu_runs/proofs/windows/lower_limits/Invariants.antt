use Rattle.std.proofs.Common.{◌≡◌, ◌+◌, ◌≤◌, ℕ, get_or}
use Rattle.cu_arrival.specs.Runs.{arrival_value}
use Rattle.cu_runs.specs.Steps.Bounded.{IsAt}
use Rattle.cu_runs.specs.Windows.{AreEach, IsLowered, window_start}
use Rattle.cu_runs.proofs.windows.lower_limits.Given as goal

abbrev pub invariant-windows : goal.invariant-windows
invariant-windows l = record {
  held : IsAt l.packed l.index (window_start l.fn.windows l.window);
  lowered : AreEach (λ window limit. IsLowered (arrival_value l.packed) (window_start l.fn.windows window) (window_start l.fn.windows (window + 1))
      (get_or l.initial.limits window 0) limit) l.limits l.window;
  ahead : (i : ℕ) → l.window ≤ i → get_or l.limits i 0 ≡ get_or l.initial.limits i 0;
}
