use Rattle.std.proofs.lemmas.List.{append-nil}
use Rattle.std.proofs.Common.{sym}
use Rattle.cu_io.proofs.Appending.{wrote_same}
use Rattle.cu_reach.specs.ReachTexts.{times_at, times_text}
use Rattle.cu_reach.proofs.TimeLaws.{times_of_labels}
use Rattle.cu_reach.proofs.writing.put_row.Goals as goal

pub returns-in-Done : goal.returns-in-Done
returns-in-Done g c = record {
  wrote = λ from second holds.
      let text = times_text (times_at (g.W.Ways.hierarchy c.args.ways.now) from second c.args.targets) in
      rw c.in-Done.is (wrote_same (sym (append-nil text)) (c.put_times.ensures.wrote from second
      (times_of_labels (g.W.Ways.hierarchy c.args.ways.now) from second c.args.desk.now c.args.targets (rw c.in-Done.is at holds))));
}

pub returns-in-Long : goal.returns-in-Long
returns-in-Long g c = record { wrote = λ from second holds. rw c.in-Long.is c.put_end.ensures.wrote }
