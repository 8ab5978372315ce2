use Rattle.std.proofs.lemmas.Option.{slice_get-get_or}
use Rattle.cu_recall.proofs.Keeping.{knows_set}
use Rattle.cu_recall.proofs.remembering.meet.Goals as goal

pub returns : goal.returns
returns c = record {
  knows = λ h knows holds.
      knows_set h c.args.rows.now c.args.list c.meet.new.self knows
      (c.meet.ensures.holds h c.args.list (knows c.args.list _ (slice_get-get_or c.args.rows.now c.args.list _ c.requires.list)) (c.of.ensures.holds h c.args.list holds));
}
