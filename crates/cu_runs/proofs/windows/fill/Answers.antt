use Rattle.std.proofs.Common.{◌≡◌, ◌<◌, length, refl, rules}
use Rattle.cu_runs.proofs.BoundLaws.{each_set}
use Rattle.cu_runs.proofs.windows.fill.Goals as goal

pub windows-preserved : goal.windows-preserved
windows-preserved c =
    let inside : c.windows.window < length c.windows.numbers = search rules in
    each_set (λ window one. one ≡ c.args.number) c.windows.numbers c.windows.window c.args.number inside c.windows.invariant refl
