use Rattle.std.proofs.Common.{ap}
use Rattle.std.proofs.lemmas.Option.{slice_get-get_or}
use Rattle.cu_recall.specs.declared.spans.Driven.{Driven}
use Rattle.cu_recall.proofs.Keeping.{span_driven}
use Rattle.cu_recall.proofs.looking.known.Goals as goal

pub returns : goal.returns
returns c = record {
  holds = λ h knows.
      let row = knows c.args.asked.list _ (slice_get-get_or c.args.rows.now c.args.asked.list _ c.requires.list) in
      let is = c.over_span.ensures in
      span_driven h c.args.asked.list c.args.asked.second c.in_ok-span.span c.over_span.result c.in_ok-span.ensures.inside (ap (λ (d : Driven). d.back) is) (ap (λ (d : Driven). d.ahead) is)
      (ap (λ (d : Driven). d.travel) is) (ap (λ (d : Driven). d.roads) is) (c.in_ok-span.ensures.holds h c.args.asked.list row);
}
