use Rattle.std.specs.Prelude.{IfOk}
use Rattle.std.proofs.Common.{subst}
use Rattle.cu_day.specs.DayAnswers.{IsLeastWhereBuilt}
use Rattle.cu_day.specs.DayChains.{IsDayFunction}
use Rattle.cu_interval.specs.Hierarchies.{HierarchyValue}
use Rattle.cu_router.proofs.DayLaws.{held_day}
use Rattle.cu_router.proofs.days.find_over.Goals as goal

pub returns-clause-found : goal.returns-clause-found
returns-clause-found g c =
    let h = g.W.Ways.hierarchy c.args.ways.now in
    let from = c.rank-from.result in
    let to = c.rank-to.result in
    let found = subst (λ (k : HierarchyValue). IfOk c.led_day.result (IsDayFunction k from to)) c.requires.functions c.led_day.ensures.function in
    let least = subst (λ (k : HierarchyValue). IfOk c.led_day.result (IsLeastWhereBuilt k from to)) c.requires.functions c.led_day.ensures.least in
    held_day c.args.held.now h c.args.query from to c.led_day.result c.requires.ways c.rank-from.ensures.sound c.rank-from.ensures.there
    c.rank-to.ensures.there found least
