use Rattle.std.proofs.Common.{◌≢◌, ◌∙◌, Option, List, [], sym, ap, subst}
use Rattle.std.specs.Prelude.{IfSome}
use Rattle.cu_arrival.specs.declared.runs.Choice.{Choice}
use Rattle.cu_arrival.specs.declared.runs.Run.{Run}
use Rattle.cu_customize.specs.Steps.Choosing.{AreTurns, chosen}
use Rattle.cu_customize.specs.Steps.Best.{IsBestOf, IsWayFunction}
use Rattle.cu_customize.proofs.Bests.{best_lesser, best_only, best_without, choices_turn}
use Rattle.cu_customize.proofs.settling.with_way.Goals as goal

pub returns-in_default-clause-best : goal.returns-in_default-clause-best
returns-in_default-clause-best c edges f u v ways best before function =
    best_without edges f u v ways c.args.way c.args.best best (subst (λ (o : Option (List Run)). IsWayFunction edges f u v c.args.way o) c.in_default.is function)

pub returns-in_default-standing-clause-best : goal.returns-in_default-standing-clause-best
returns-in_default-standing-clause-best c edges f u v ways best before function =
    best_only edges f u v ways c.args.way c.args.best.ways _ c.in-Some.function
    (subst (λ (o : Option (List Run)). IsBestOf edges f u v ways (record { ways = c.args.best.ways; function = o })) c.in_default-standing.is best)
    (subst (λ (o : Option (List Run)). IsWayFunction edges f u v c.args.way o) c.in-Some.is function) c.in_ok-one_way.ensures

pub choose_ways-requires-clause-some : goal.choose_ways-requires-clause-some
choose_ways-requires-clause-some c = subst (λ (o : Option (List Run)). IfSome o (λ _. c.args.best.ways ≢ [])) c.in-Some-standing.is c.requires.some

pub choose_ways-requires-clause-choices : goal.choose_ways-requires-clause-choices
choose_ways-requires-clause-choices c = subst (λ (cs : List Choice). AreTurns cs) (sym c.deref.ensures.value) (choices_turn _ _ _ c.in_ok-least.ensures.choices)

pub returns-clause-best : goal.returns-clause-best
returns-clause-best c edges f u v ways best before function =
    best_lesser edges f u v ways c.args.way c.args.best.ways _ c.in-Some-standing.standing c.in-Some.function c.in_ok-least.least c.in_ok-least.choices.items
    (subst (λ (o : Option (List Run)). IsBestOf edges f u v ways (record { ways = c.args.best.ways; function = o })) c.in-Some-standing.is best) before
    (subst (λ (o : Option (List Run)). IsWayFunction edges f u v c.args.way o) c.in-Some.is function) c.in_ok-least.ensures.choices c.in_ok-least.ensures.sound c.in_ok-least.ensures.value
    c.in_ok-choose_ways.ensures.valid c.in_ok-choose_ways.ensures.some
    (λ t lt. c.in_ok-choose_ways.ensures.chosen t lt ∙ ap (λ (cs : List Choice). chosen c.args.best.ways cs c.args.way t) c.deref.ensures.value)
