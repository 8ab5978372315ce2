use Rattle.std.proofs.Common.{List, Option, subst}
use Rattle.cu_arrival.specs.declared.runs.Run.{Run}
use Rattle.cu_interval.specs.declared.ways.Dir.TheVariants.{Down, Up}
use Rattle.cu_customize.specs.Functions.{FunctionsState, IsFunction}
use Rattle.cu_customize.proofs.Halves.{along_function, first_unanswered, knows_first, knows_second, no_first, no_second, second_unanswered}
use Rattle.cu_customize.proofs.by_middles.way_function.Goals as goal

pub returns-in_default-clause-function : goal.returns-in_default-clause-function
returns-in_default-clause-function g c =
    no_first c.args.graph.now.edges (g.F.Functions.state c.args.functions.now) c.args.leg.from c.args.leg.to c.args.middle c.requires.sound.rising c.requires.below c.in_default.ensures.found

pub returns-in_default-edge-clause-function : goal.returns-in_default-edge-clause-function
returns-in_default-edge-clause-function g c =
    no_second c.args.graph.now.edges (g.F.Functions.state c.args.functions.now) c.args.leg.from c.args.leg.to c.args.middle c.requires.sound.rising c.requires.below c.in_default-edge.ensures.found

pub function-requires : goal.function-requires
function-requires g c =
    knows_first c.args.graph.now.edges (g.F.Functions.state c.args.functions.now) c.args.leg.from c.args.leg.to c.args.middle c.requires.sound.rising c.requires.below c.requires.halves
    c.in-Some.to_middle c.in-Some-edge.onward c.in-Some.ensures.found c.in-Some-edge.ensures.found

pub returns-in_default-2-clause-function : goal.returns-in_default-2-clause-function
returns-in_default-2-clause-function g c =
    let state : FunctionsState = g.F.Functions.state c.args.functions.now in
    first_unanswered c.args.graph.now.edges state c.args.leg.from c.args.leg.to c.args.middle c.requires.sound.rising c.requires.below c.in-Some.to_middle c.in-Some.ensures.found
    (subst (λ (o : Option (List Run)). IsFunction o (state.shortcut c.in-Some.to_middle Down)) c.in_default-2.is c.in_ok-first.ensures.function)

pub function-requires-2 : goal.function-requires-2
function-requires-2 g c =
    let state : FunctionsState = g.F.Functions.state c.args.functions.now in
    let known = knows_second c.args.graph.now.edges state c.args.leg.from c.args.leg.to c.args.middle c.requires.sound.rising c.requires.below c.requires.halves
    c.in-Some.to_middle c.in-Some-edge.onward c.in-Some.ensures.found c.in-Some-edge.ensures.found in
    rw c.in_ok-first.ensures.same known

pub returns-in_default-3-clause-function : goal.returns-in_default-3-clause-function
returns-in_default-3-clause-function g c =
    let state : FunctionsState = g.F.Functions.state c.args.functions.now in
    let answered = subst (λ (s : FunctionsState). IsFunction c.in_ok-second.field-0 (s.shortcut c.in-Some-edge.onward Up)) c.in_ok-first.ensures.same c.in_ok-second.ensures.function in
    second_unanswered c.args.graph.now.edges state c.args.leg.from c.args.leg.to c.args.middle c.requires.sound.rising c.requires.below c.in-Some-edge.onward c.in-Some-edge.ensures.found
    (subst (λ (o : Option (List Run)). IsFunction o (state.shortcut c.in-Some-edge.onward Up)) c.in_default-3.is answered)

pub returns-clause-function : goal.returns-clause-function
returns-clause-function g c =
    let state : FunctionsState = g.F.Functions.state c.args.functions.now in
    let answered = subst (λ (s : FunctionsState). IsFunction c.in_ok-second.field-0 (s.shortcut c.in-Some-edge.onward Up)) c.in_ok-first.ensures.same c.in_ok-second.ensures.function in
    along_function c.args.graph.now.edges state c.args.leg.from c.args.leg.to c.args.middle c.requires.sound.rising c.requires.below
    c.in-Some.to_middle c.in-Some-edge.onward c.in-Some.ensures.found c.in-Some-edge.ensures.found c.in-Some-2.first c.in-Some-3.second c.in_ok-function.function
    (subst (λ (o : Option (List Run)). IsFunction o (state.shortcut c.in-Some.to_middle Down)) c.in-Some-2.is c.in_ok-first.ensures.function)
    (subst (λ (o : Option (List Run)). IsFunction o (state.shortcut c.in-Some-edge.onward Up)) c.in-Some-3.is answered)
    c.in_ok-function.ensures.sound c.in_ok-function.ensures.value
