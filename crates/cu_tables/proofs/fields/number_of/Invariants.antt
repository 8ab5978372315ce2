use Rattle.std.proofs.Common.{◌≡◌, take, true}
use Rattle.std.specs.Char.{is_ascii_digit}
use Rattle.std.specs.List.{list_all}
use Rattle.cu_tables.specs.Tables.{kept_number}
use Rattle.cu_tables.proofs.fields.number_of.Given as goal

abbrev pub invariant-loop-digit : goal.invariant-loop-digit
invariant-loop-digit l = (list_all is_ascii_digit (take l.digit-index l.word) ≡ true) × (l.value ≡ kept_number (take l.digit-index l.word))
