use Rattle.std.proofs.Common.{arith}
use Rattle.cu_model.specs.Queries.{fields_of_line}
use Rattle.cu_script.proofs.LineLaws.{set_fails, set_passes}
use Rattle.cu_script.proofs.lines.check_set.Goals as goal

pub returns-in-Err : goal.returns-in-Err
returns-in-Err c = record {
  checked = set_fails c.args.profiles c.args.profile (fields_of_line c.args.pieces.now) c.in-Err.refusal
      (omega (arith, c.if-profile-profiles.false)) c.in-Err.ensures.refusal;
}

pub returns-in-Ok : goal.returns-in-Ok
returns-in-Ok c = record {
  checked = set_passes c.args.profiles c.args.profile (fields_of_line c.args.pieces.now)
      (omega (arith, c.if-profile-profiles.false)) c.in-Ok.ensures.refusal;
}
