use Rattle.std.proofs.Common.{◌≡◌, List, Option, Some, refl, subst, length}
use Rattle.std.specs.Prelude.{slice_get}
use Rattle.std.proofs.lemmas.Option.{slice_get_read}
use Rattle.cu_arrival.specs.declared.runs.Run.{Run}
use Rattle.std.proofs.lemmas.Result.{on_ok_weaker}
use Rattle.cu_day.proofs.Taking.{takes}
use Rattle.cu_day.proofs.days.take_arc.Goals as goal

pub returns : goal.returns
returns c =
    let labels = c.args.labels.now.items in
    let read = slice_get_read labels (length labels) c.args.leg.from c.index.result.now refl c.requires.start c.index.ensures in
    let start = subst (λ (o : Option (List Run)). slice_get labels c.args.leg.from ≡ Some o) c.in-Some.is read in
    let end = slice_get_read labels (length labels) c.args.leg.to c.index_mut.result.now refl c.requires.end c.index_mut.ensures.value in
    on_ok_weaker c.put_earlier.result
    (takes labels c.args.function.now c.in-Some.label c.in_ok-candidate.candidate c.index_mut.result.now c.put_earlier.new.place
    c.args.leg.from c.args.leg.to c.requires.apart c.requires.end start end c.in_ok-candidate.ensures.value) c.put_earlier.ensures
