use Rattle.std.proofs.Common.{◌≡◌}
use Rattle.cu_runs.specs.Windows.{AreEach}
use Rattle.cu_runs.proofs.windows.fill.Given as goal

abbrev pub invariant-windows : goal.invariant-windows
invariant-windows l = AreEach (λ window one. one ≡ l.number) l.numbers l.window
