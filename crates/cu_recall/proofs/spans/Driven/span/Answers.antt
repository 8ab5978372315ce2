use Rattle.std.proofs.Common.{refl, arith}
use Rattle.cu_recall.proofs.Keeping.{driven_span}
use Rattle.cu_recall.proofs.spans.Driven.span.Goals as goal

pub returns : goal.returns
returns c = record {
  holds = λ h list holds.
      driven_span h list c.args.second c.min-back.result c.min-ahead.result c.args.self.now _ c.requires.window (omega (arith, c.min-back.ensures))
      (omega (arith, c.min-ahead.ensures)) refl refl refl refl holds;
}
