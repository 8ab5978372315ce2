use Rattle.std.proofs.lemmas.Option.{slice_get-get_or}
use Rattle.cu_recall.proofs.looking.see.Goals as goal

pub returns : goal.returns
returns c = record {
  holds = λ h knows.
      let row = knows c.args.list _ (slice_get-get_or c.args.rows.now c.args.list _ c.requires.list) in
      (c.widest.ensures.holds h c.args.list row, row.met);
}
