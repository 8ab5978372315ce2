use Rattle.std.proofs.Common.{◌≡◌, ◌<◌, ◌+◌, ◌∙◌, ℕ, arith, length, length-set, subst, sym}
use Rattle.cu_runs.specs.Windows.{AreEach, window_start}
use Rattle.cu_runs.proofs.BoundLaws.{each_set}
use Rattle.cu_runs.proofs.WindowLaws.{start_last, start_next}
use Rattle.cu_runs.proofs.windows.Windows.starts.Goals as goal

pub windows-preserved : goal.windows-preserved
windows-preserved c =
    let windows = c.args.self.now in
    let starts = c.windows.starts in
    let window = c.windows.window in
    let long = c.windows.invariant.long in
    let inside : window + 1 < length starts = omega (arith, long) in
    let here = c.windows.invariant.known window (omega arith) in
    let next = start_next windows window (omega arith) in
    record {
      long = length-set starts (window + 1) c.min.result ∙ long;
      known = each_set (λ window start. start ≡ window_start windows window) starts (window + 1) c.min.result inside c.windows.invariant.known
          (omega (arith, c.min.ensures, c.from.ensures, here, next));
    }

pub returns : goal.returns
returns c =
    let windows = c.args.self.now in
    let starts = c.windows.starts in
    let long = c.windows.invariant.long in
    let inside : 32 < length starts = omega (arith, long) in
    let all : c.windows.window + 1 ≡ 32 = omega arith in
    let known = subst (λ (n : ℕ). AreEach (λ window start. start ≡ window_start windows window) starts n) all c.windows.invariant.known in
    each_set (λ window start. start ≡ window_start windows window) starts 32 86400 inside known (sym (start_last windows 31 (omega arith)))
