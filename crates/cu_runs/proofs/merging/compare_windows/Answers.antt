use Rattle.std.proofs.Common.{arith, subst, ℕ, ◌≡◌}
use Rattle.cu_runs.specs.declared.windows.TheConstants.{WINDOWS}
use Rattle.cu_runs.specs.Steps.Merging.{IsMerging}
use Rattle.cu_runs.specs.Windows.{window_start}
use Rattle.cu_runs.proofs.CompareLaws.{merging_none}
use Rattle.cu_runs.proofs.merging.compare_windows.Goals as goal

pub windows-init : goal.windows-init
windows-init c = record {
  within = omega arith;
  next = c.requires.next;
  order = omega (arith, c.requires.none);
  merging = λ arrival sees. merging_none c.args.least.now arrival c.args.candidate.way c.args.next.now c.requires.none c.requires.empty;
}

pub windows-smaller : goal.windows-smaller
windows-smaller c = omega (arith, c.in_ok-window.ensures.later, c.in_ok-window.ensures.within)

pub windows-preserved : goal.windows-preserved
windows-preserved c = record {
  within = c.in_ok-window.ensures.within;
  next = c.in_ok-window.ensures.next;
  order = c.in_ok-window.ensures.order;
  merging = λ arrival sees. c.in_ok-window.ensures.merged arrival sees (c.windows.invariant.merging arrival sees);
}

pub returns-clause-merged : goal.returns-clause-merged
returns-clause-merged c arrival sees =
    let all : c.windows.window ≡ WINDOWS = let within = c.windows.invariant.within in omega (arith, within) in
    subst (λ (n : ℕ). IsMerging c.args.least.now arrival c.args.candidate.way c.windows.next (window_start c.args.limits.windows n)) all (c.windows.invariant.merging arrival sees)
