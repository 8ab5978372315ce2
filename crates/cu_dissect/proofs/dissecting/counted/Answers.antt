use Rattle.std.proofs.Common.{◌∙◌}
use Rattle.std.proofs.lemmas.Slice.{pushed}
use Rattle.cu_model.proofs.OrderLaws.{count_more}
use Rattle.cu_dissect.proofs.dissecting.counted.Goals as goal

pub loop-number-preserved : goal.loop-number-preserved
loop-number-preserved c = pushed _ c.loop-number.invariant c.in_ok-push.was c.push.ensures.items ∙ count_more c.loop-number.number
