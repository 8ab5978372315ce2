use Rattle.std.proofs.Common.{◌<◌, ◌+◌, ◌∙◌, ◌++◌, ℕ, List, ap, arith, length, sym}
use Rattle.std.proofs.lemmas.List.{append-nil, take_all}
use Rattle.cu_io.proofs.Appending.{line_same, line_then, wrote_ok, wrote_same, wrote_then}
use Rattle.cu_cli.proofs.SayingLaws.{numbers_first, numbers_more}
use Rattle.cu_cli.proofs.StopLaws.{line_breaks}
use Rattle.cu_cli.proofs.saying.put_numbers_line.Goals as goal

pub returns-in_err-put_all : goal.returns-in_err-put_all
returns-in_err-put_all g c =
    let (rest, is) = numbers_first c.args.word.now c.args.numbers.now 0 in
    record { wrote = line_same (sym is) (line_breaks rest c.from_residual.ensures.0 c.in_err-put_all.ensures.wrote) }

pub returns-in_err-put_word_and_long : goal.returns-in_err-put_word_and_long
returns-in_err-put_word_and_long g c =
    let index = c.loop-number.number-index in
    let inside : index < length c.args.numbers.now = omega arith in
    let (rest, is) = numbers_first c.args.word.now c.args.numbers.now (index + 1) in
    let more = ap (λ (text : List ℕ). text ++ rest) (numbers_more c.args.word.now c.args.numbers.now index 0 inside) in
    record {
      wrote = line_same (sym (is ∙ more)) (line_breaks rest c.from_residual-in_err-put_word_and_long.ensures.0 (wrote_then c.loop-number.invariant c.in_err-put_word_and_long.ensures.wrote));
    }

pub loop-number-preserved : goal.loop-number-preserved
loop-number-preserved g c =
    let index = c.loop-number.number-index in
    let inside : index < length c.args.numbers.now = omega arith in
    let more = numbers_more c.args.word.now c.args.numbers.now index 0 inside in
    wrote_same (sym more) (wrote_ok (wrote_then c.loop-number.invariant c.in_ok-put_word_and_long.ensures.wrote))

pub returns : goal.returns
returns g c =
    let all = take_all c.loop-number.number-index c.args.numbers.now (omega arith) in
    let wrote = rw all at c.loop-number.invariant in
    record { wrote = line_same (append-nil _) (line_then wrote c.end_line.ensures.wrote) }
