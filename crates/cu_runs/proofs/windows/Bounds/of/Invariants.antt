use Rattle.std.proofs.Common.{◌≡◌, length}
use Rattle.cu_arrival.specs.Runs.{arrival_value}
use Rattle.cu_runs.specs.declared.windows.TheConstants.{WINDOWS}
use Rattle.cu_runs.specs.Steps.Bounded.{AreWindows, IsAt}
use Rattle.cu_runs.specs.Windows.{window_start}
use Rattle.cu_runs.proofs.windows.Bounds.of.Given as goal

abbrev pub invariant-windows : goal.invariant-windows
invariant-windows l = record {
  held : IsAt l.packed l.index (window_start l.fn.windows l.window);
  known : AreWindows l.fn.windows (arrival_value l.packed) l.bounds l.window;
  own_long : length l.bounds.own ≡ WINDOWS;
  reach_long : length l.bounds.reach ≡ WINDOWS;
  windows : l.bounds.windows ≡ l.initial.bounds.windows;
}
