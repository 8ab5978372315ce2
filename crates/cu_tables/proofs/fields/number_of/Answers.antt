use Rattle.std.proofs.Common.{rules, ◌≡◌, ◌∙◌, ◌≤◌, arith, true, get_or}
use Rattle.std.specs.Char.{is_ascii_digit}
use Rattle.cu_tables.proofs.Numerals.{digits_more, kept_more}
use Rattle.cu_tables.proofs.fields.number_of.Goals as goal

pub loop-digit-preserved : goal.loop-digit-preserved
loop-digit-preserved c =
    let word = c.args.word.now in
    let i = c.loop-digit.digit-index in
    let digit = get_or word i 0 in
    let is : is_ascii_digit digit ≡ true = search rules in
    let low : 48 ≤ digit = search rules in
    let high : digit ≤ 57 = search rules in (
      digits_more word i digit (omega arith) (search rules) is c.loop-digit.invariant.0,
      c.with_digit-value.ensures ∙ kept_more word i c.loop-digit.value digit (omega arith) (search rules) low high c.loop-digit.invariant.1,
    )
