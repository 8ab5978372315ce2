use Rattle.std.proofs.Common.{◌-◌, arith}
use Rattle.cu_wait.proofs.LineLaws.{up_within}
use Rattle.cu_wait.proofs.legs.on_line.Goals as goal

pub overflow_sub-result : goal.overflow_sub-result
overflow_sub-result c =
    let some = c.requires.some in
    let falls = up_within (c.args.first - c.args.last) c.args.behind c.args.seconds (omega (arith, some)) (omega (arith, some)) in
    let a = c.from-else-first-last.ensures in
    let b = c.from-else-first-last-2.ensures in
    let d = c.from-else-first-last-3.ensures in
    let e = c.from-else-first-last-4.ensures in
    rw (a, b, d, e) (omega (arith, falls))
