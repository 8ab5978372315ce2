use Rattle.std.proofs.Common.{◌≡◌, rules, true}
use Rattle.cu_edits.proofs.triangle_halves.are_both_unmoved.Goals as goal

pub returns-then-is_unmoved : goal.returns-then-is_unmoved
returns-then-is_unmoved c is =
    let one : c.is_unmoved.result ≡ true = search rules in
    (c.is_unmoved.ensures.0 one, c.is_unmoved-then-is_unmoved.ensures.0 is)
