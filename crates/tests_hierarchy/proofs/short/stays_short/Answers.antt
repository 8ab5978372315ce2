use Rattle.std.proofs.Common.{ℕ, List, Option, subst}
use Rattle.std.specs.Prelude.{IfSome}
use Rattle.cu_short.specs.Counts.{AreRoadCounts}
use Rattle.tests_hierarchy.proofs.short.stays_short.Goals as goal

pub renew-requires-clause-kept : goal.renew-requires-clause-kept
renew-requires-clause-kept g c =
    let counts = subst (λ (o : Option (List ℕ)). IfSome o (AreRoadCounts (g.W.Ways.hierarchy c.args.ways.now))) c.in-Some.is c.in_ok-roads.ensures.counts in
    record {
      long = counts.long;
      right = λ edge dir ends at other. counts.right edge dir ends at;
    }
