use Rattle.std.proofs.lemmas.Option.{slice_get-get_or}
use Rattle.cu_recall.proofs.Entries.{met_kept}
use Rattle.cu_recall.proofs.looking.met_last.Goals as goal

pub returns : goal.returns
returns c = record {
  met = λ h knows.
      met_kept h c.args.rows.now c.args.asked _ (slice_get-get_or c.args.rows.now c.args.asked.list _ c.requires.list) knows c.at.result c.at.ensures.there c.at.ensures.same;
}
