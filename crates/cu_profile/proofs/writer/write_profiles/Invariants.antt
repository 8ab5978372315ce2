use Rattle.std.proofs.Common.{take}
use Rattle.std.specs.Prelude.{All}
use Rattle.cu_model.specs.Profiles.{IsProfile}
use Rattle.cu_tables.specs.WrittenTexts.{HasRows}
use Rattle.cu_profile.specs.Written.{table_of}
use Rattle.cu_profile.proofs.writer.write_profiles.Given as goal

abbrev pub invariant-loop-number : goal.invariant-loop-number
invariant-loop-number l = record {
  written : HasRows l.writer 4 (table_of (take l.number l.profiles));
  valid : All IsProfile (take l.number l.profiles);
}
