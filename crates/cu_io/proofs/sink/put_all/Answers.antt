-- The bytes of one more write follow those before them.
use Rattle.std.proofs.Common.{arith}
use Rattle.std.proofs.lemmas.Grind.{common_steps}
use Rattle.cu_io.proofs.Appending.{wrote_next}
use Rattle.cu_io.proofs.sink.put_all.Goals as goal

pub loop-put-preserved : goal.loop-put-preserved
loop-put-preserved g c =
    let after = c.in_ok-put.ensures in
    record {
      within = grind (arith, common_steps, after.within);
      wrote = wrote_next c.args.piece.now c.loop-put.put c.in_ok-put.field-0 c.loop-put.invariant.wrote after.appends after.tells after.rises after.later after.quiet;
    }
