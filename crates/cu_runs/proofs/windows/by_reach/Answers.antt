use Rattle.std.proofs.Common.{◌≡◌, ◌+◌, ◌∙◌, ℕ, arith, length-set, subst}
use Rattle.std.proofs.Math.ListN.{set}
use Rattle.cu_runs.specs.declared.windows.TheConstants.{WINDOWS}
use Rattle.cu_runs.specs.Steps.Bounded.{IsSpan}
use Rattle.cu_runs.specs.Windows.{window_start}
use Rattle.cu_runs.proofs.BoundLaws.{AreFirst, first_all, first_set}
use Rattle.cu_runs.proofs.windows.by_reach.Goals as goal

pub windows-preserved : goal.windows-preserved
windows-preserved c =
    let window = c.windows.window in
    let over = c.windows.over in
    let two = c.of_two-two in
    let next = c.of_two in
    let long = c.windows.invariant.long in
    let sum : window + 2 + 2 ≡ window + 4 = omega arith in
    record {
      long = length-set (set over window two.result) (WINDOWS + window) c.joined.result ∙ length-set over window two.result ∙ long;
      first = λ windows f are.
          let one = two.ensures windows f are in
          let behind : IsSpan f (window_start windows (window + 2)) (window_start windows (window + 4)) next.result =
          subst (λ (n : ℕ). IsSpan f (window_start windows (window + 2)) (window_start windows n) next.result) sum (next.ensures windows f are) in
          first_set windows f over window c.args.whole two.result c.joined.result long (omega arith) (c.windows.invariant.first windows f are) one (c.joined.ensures f _ _ _ one behind);
    }

pub returns : goal.returns
returns c windows f are whole =
    let all : c.windows.window ≡ WINDOWS = omega arith in
    first_all windows f c.windows.over c.args.whole (subst (λ (n : ℕ). AreFirst windows f c.windows.over n c.args.whole) all (c.windows.invariant.first windows f are)) whole
