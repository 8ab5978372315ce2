use Rattle.std.proofs.Common.{arith}
use Rattle.std.proofs.lemmas.Fmt.{length-decimal-le}
use Rattle.std.proofs.lemmas.List.{length-drop}
use Rattle.cu_drive.proofs.road_text.RoadText.of.Goals as goal

pub write_digits-start-requires : goal.write_digits-start-requires
write_digits-start-requires c =
    let number = c.ranges.number.fits in
    let digits = length-decimal-le 20 c.args.number (omega arith) (omega (arith, number)) (omega (arith, number)) in
    (omega (arith, digits), omega arith)

pub returns-clause-few : goal.returns-clause-few
returns-clause-few c =
    let number = c.ranges.number.fits in
    let digits = length-decimal-le 20 c.args.number (omega arith) (omega (arith, number)) (omega (arith, number)) in
    let written = c.write_digits-start in
    omega (arith, digits, written.ensures.start, written.auto.buf, length-drop written.result written.new.buf)
