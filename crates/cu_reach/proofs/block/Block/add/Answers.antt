use Rattle.std.proofs.Common.{◌≤◌, ◌<◌, ◌^◌, ◌∙◌, ◌++◌, ℕ, List, ap, arith, rules}
use Rattle.cu_reach.proofs.Blanks.{blank_piece, long_digits}
use Rattle.cu_reach.proofs.block.Block.add.Goals as goal

pub write_digits-start-requires : goal.write_digits-start-requires
write_digits-start-requires c =
    let fits : c.in-Some.arrival < 2 ^ 64 = search rules in
    let twenty = long_digits c.in-Some.arrival fits in
    (omega (arith, twenty), omega arith)

pub overflow_sub-start : goal.overflow_sub-start
overflow_sub-start c =
    let fits : c.in-Some.arrival < 2 ^ 64 = search rules in
    omega (arith, long_digits c.in-Some.arrival fits, c.write_digits-start.ensures.start)

pub returns-in-Some : goal.returns-in-Some
returns-in-Some c =
    let fits : c.in-Some.arrival < 2 ^ 64 = search rules in
    let is = c.write_digits-start.ensures in
    let one : 1 ≤ c.write_digits-start.result = omega (arith, long_digits c.in-Some.arrival fits, is.start) in
    let text = blank_piece 21 c.in-Some.arrival c.write_digits-start.result c.write_digits-start.new.buf is.start one is.written is.before in
    rw c.in-Some.is (c.add_piece-in-Some.ensures ∙ ap (λ (t : List ℕ). c.args.self.now ++ t) text)
