use Rattle.std.proofs.Common.{ℕ, subst}
use Rattle.cu_recall.specs.Spans.{HoldsMet, met_of}
use Rattle.cu_recall.proofs.walking.read_ahead.Goals as goal

pub returns-clause-holds : goal.returns-clause-holds
returns-clause-holds c h knows =
    let here = c.read_list-glance.ensures.holds h knows in
    let there = c.read_list-below.ensures.holds h knows in (
      subst (λ (list : ℕ). HoldsMet h list (met_of c.read_list-glance.result.met)) c.read_list-glance.ensures.list here.0,
      subst (λ (list : ℕ). HoldsMet h list (met_of c.read_list-below.result.met)) c.read_list-below.ensures.list there.0,
    )
