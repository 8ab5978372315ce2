use Rattle.std.proofs.lemmas.Option.{slice_get-get_or}
use Rattle.cu_recall.proofs.Keeping.{knows_set}
use Rattle.cu_recall.proofs.remembering.remember.Goals as goal

pub returns-in-Some : goal.returns-in-Some
returns-in-Some c = record {
  knows = λ h knows driven.
      let holds = c.in-Some.ensures.holds h c.args.list driven in
      knows_set h c.args.rows.now c.args.list c.keep.new.self knows
      (c.keep.ensures.holds h c.args.list (knows c.args.list _ (slice_get-get_or c.args.rows.now c.args.list _ c.requires.list)) holds);
}
