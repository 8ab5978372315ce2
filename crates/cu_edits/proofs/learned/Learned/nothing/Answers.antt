use Rattle.std.proofs.Common.{subst, sym}
use Rattle.cu_unpack.specs.RebuiltRuns.{IsSized}
use Rattle.cu_edits.proofs.StateLaws.{no_packed}
use Rattle.cu_edits.proofs.learned.Learned.nothing.Goals as goal

pub returns : goal.returns
returns g c h long =
    no_packed h c.in_ok-new.field-0 (subst (λ n. IsSized n c.in_ok-new.field-0) (sym long) c.in_ok-new.ensures.size) c.in_ok-new.ensures.unknown
    c.in_ok-new.ensures.none
