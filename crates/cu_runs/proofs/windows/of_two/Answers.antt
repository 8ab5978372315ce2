use Rattle.std.proofs.Common.{◌≡◌, ◌+◌, ℕ, arith, subst}
use Rattle.cu_runs.specs.Steps.Bounded.{IsSpan, span_at}
use Rattle.cu_runs.specs.Windows.{window_start}
use Rattle.cu_runs.proofs.WindowLaws.{span_in_last}
use Rattle.cu_runs.proofs.windows.of_two.Goals as goal

pub returns : goal.returns
returns c windows f are =
    let own = c.args.own.now in
    let window = c.args.window in
    let sum : window + 1 + 1 ≡ window + 2 = omega arith in
    let one = span_in_last windows f window c.min.result (span_at own c.min.result) c.min.ensures (are c.min.result (omega (arith, c.min.ensures))) in
    let two = span_in_last windows f (window + 1) c.min-2.result (span_at own c.min-2.result) c.min-2.ensures (are c.min-2.result (omega (arith, c.min-2.ensures))) in
    subst (λ (n : ℕ). IsSpan f (window_start windows window) (window_start windows n) c.joined.result) sum (c.joined.ensures f _ _ _ one two)
