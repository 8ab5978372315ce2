use Rattle.std.proofs.Common.{ℕ, sym, subst}
use Rattle.cu_recall.specs.declared.walking.Glance.{Glance}
use Rattle.cu_recall.specs.Spans.{HoldsMet, met_of}
use Rattle.cu_recall.specs.Steps.Walks.{HoldsGlance}
use Rattle.cu_recall.proofs.walking.first_of.Goals as goal

pub returns-then-glance-first-clause-holds : goal.returns-then-glance-first-clause-holds
returns-then-glance-first-clause-holds c h knows holds =
    let met = subst (λ (list : ℕ). HoldsMet h list (met_of c.args.glance.below_met)) c.if-glance-first.true holds.1 in
    subst (λ (glance : Glance). HoldsGlance h glance) (sym c.alone.ensures) (met, met)

pub returns-clause-holds : goal.returns-clause-holds
returns-clause-holds c h knows holds = c.read_list.ensures.holds h knows
