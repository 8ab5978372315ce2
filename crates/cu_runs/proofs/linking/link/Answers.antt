use Rattle.std.proofs.Common.{arith}
use Rattle.cu_runs.proofs.linking.link.Goals as goal

pub returns-clause-value : goal.returns-clause-value
returns-clause-value c t h = c.in_ok-link_between.ensures.value t (omega arith) h
