use Rattle.std.proofs.Common.{◌<◌, ◌^◌, arith, subst, sym}
use Rattle.cu_script.specs.Steps.LineChanges.{Makes, piece_fields}
use Rattle.cu_script.proofs.LineLaws.{few_fields}
use Rattle.cu_script.proofs.lines.check_edit.Goals as goal

pub check_change-requires : goal.check_change-requires
check_change-requires c = record {
  few = few_fields c.args.line.now (piece_fields c.in-Some.change) 4294967295 (omega (arith, c.requires.few)) c.in-Some.ensures.few;
}

pub invariant_of-result : goal.invariant_of-result
invariant_of-result c =
    let arcs : c.args.arcs < 2 ^ 32 = omega arith in
    let profiles : c.args.profiles < 2 ^ 32 = omega arith in
    let same = c.in-Some.ensures.read c.args.arcs c.args.profiles arcs profiles in (
      few_fields c.args.line.now (piece_fields c.in-Some.change) 4294967295 (omega (arith, c.requires.few)) c.in-Some.ensures.few,
      subst (λ answer. Makes c.args.arcs c.args.profiles answer c.in-Some.change) (sym same) c.in_ok-check_change.ensures.checked,
    )
