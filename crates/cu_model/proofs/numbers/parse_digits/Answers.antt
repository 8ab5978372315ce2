use Rattle.std.proofs.Common.{◌<◌, ◌^◌, length, sym}
use Rattle.std.specs.Prelude.{Err}
use Rattle.std.proofs.lemmas.Str.Parse.{parse_digits}
use Rattle.cu_model.specs.Numbers.{number_value}
use Rattle.cu_model.proofs.NumberWords.{own, digits_utf8, as_number-huge}
use Rattle.cu_model.proofs.numbers.parse_digits.Goals as goal

pub unreachable-requires : goal.unreachable-requires
unreachable-requires c = c.in_default.ensures.cases.0 (digits_utf8 c.args.word.now c.requires.digits)

pub returns-in-Err : goal.returns-in-Err
returns-in-Err c =
    let same = c.in-Ok.ensures.cases.0 in
    let parsed = rw same at c.in-Err.ensures.value.0 in
    let none : ((0 < length c.args.word.now) × (number_value c.args.word.now < 2 ^ 64)) → ⊥ = parse_digits own 64 c.args.word.now (Err c.in-Err.field-0) parsed c.requires.digits in
    sym (as_number-huge (number_value c.args.word.now) (λ lt. none (c.requires.some, lt)))
