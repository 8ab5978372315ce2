use Rattle.std.proofs.Common.{◌-◌, ap, arith, length}
use Rattle.std.proofs.lemmas.Fmt.{length-decimal-le}
use Rattle.std.proofs.lemmas.List.{length-drop, length-set}
use Rattle.cu_drive.proofs.road_text.RoadText.put_before.Goals as goal

pub write_digits-self-inside-requires : goal.write_digits-self-inside-requires
write_digits-self-inside-requires c =
    let number = c.ranges.number.fits in
    let digits = length-decimal-le 20 c.args.number (omega arith) (omega (arith, number)) (omega (arith, number)) in
    let inside = c.self.inside in
    let old = ap length c.self.view_is in
    let behind = length-drop inside.start inside.bytes in
    let same = length-set inside.bytes (inside.start - 1) 44 in
    (omega (arith, digits, old, behind, c.requires.room, c.self.invariant, c.self.ranges), omega (arith, same, c.self.invariant, c.self.ranges))

pub returns-clause-few : goal.returns-clause-few
returns-clause-few c =
    let number = c.ranges.number.fits in
    let digits = length-decimal-le 20 c.args.number (omega arith) (omega (arith, number)) (omega (arith, number)) in
    let inside = c.self.inside in
    let old = ap length c.self.view_is in
    let behind = length-drop inside.start inside.bytes in
    let written = c.write_digits-self-inside in
    let same = length-set inside.bytes (inside.start - 1) 44 in
    omega (arith, digits, old, behind, same, c.requires.room, c.self.invariant, c.self.ranges, written.ensures.start, written.auto.buf, length-drop written.result written.new.buf)
