use Rattle.std.proofs.Common.{ap}
use Rattle.cu_recall.specs.declared.spans.Driven.{Driven}
use Rattle.cu_recall.proofs.Keeping.{span_driven}
use Rattle.cu_recall.proofs.looking.known_from.Goals as goal

pub returns-then-has : goal.returns-then-has
returns-then-has c = record {
  holds = λ h knows holds.
      let is = c.over_span.ensures in
      span_driven h c.args.asked.list c.args.asked.second c.args.span c.over_span.result (c.has.ensures.0 c.if-has.true) (ap (λ (d : Driven). d.back) is) (ap (λ (d : Driven). d.ahead) is)
      (ap (λ (d : Driven). d.travel) is) (ap (λ (d : Driven). d.roads) is) holds;
}
