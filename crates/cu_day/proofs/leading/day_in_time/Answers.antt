use Rattle.std.proofs.Common.{◌≡◌, List, Option, Some, refl, sym, ap, subst, arith, rules, length}
use Rattle.std.specs.Prelude.{slice_get}
use Rattle.std.proofs.lemmas.Option.{slice_get_read}
use Rattle.cu_arrival.specs.declared.runs.Run.{Run}
use Rattle.cu_chordal.specs.Graphs.{ChordalValue}
use Rattle.cu_arrival.specs.Behind.{IsBehind}
use Rattle.cu_day.proofs.LedDays.{led_found, led_least}
use Rattle.cu_day.proofs.leading.day_in_time.Goals as goal

pub returns-clause-function : goal.returns-clause-function
returns-clause-function g c =
    let h = g.F.DayFunctions.hierarchy c.args.functions.now in
    let labels = c.in_ok-labels.labels.items in
    let runs = c.in-Some.function in
    let by = c.args.limits.now.by.now in
    let outlook = c.args.limits.now.outlook.now in
    let ranks : c.args.graph.now.ranks ≡ h.network.nodes = ap (λ (v : ChordalValue). v.ranks) c.requires.graph.0 in
    let (from, to) = c.requires.ranks in
    let read = slice_get_read labels (length labels) c.args.leg.to c.index_mut.result.now refl (search rules) c.index_mut.ensures.value in
    let taken = subst (λ (o : Option (List Run)). slice_get labels c.args.leg.to ≡ Some o) (sym c.take.ensures.value) read in
    let there_ = subst (λ (o : Option (List Run)). slice_get labels c.args.leg.to ≡ Some o) c.in-Some.is taken in
    let few = c.if-slack_of-gt1.false in
    let behind = c.slack_of.ensures (omega (arith, few)) in
    let no_later : IsBehind runs by 1 = λ t within. let less = behind t within in omega (arith, less, few) in
    led_found h c.requires.graph.1 c.args.leg.from c.args.leg.to (omega (arith, from, ranks)) (omega (arith, to, ranks)) outlook.up outlook.down
    c.requires.ahead by c.requires.early labels c.in_ok-labels.ensures.swept runs there_ no_later

pub returns-clause-least : goal.returns-clause-least
returns-clause-least g c =
    let h = g.F.DayFunctions.hierarchy c.args.functions.now in
    let labels = c.in_ok-labels.labels.items in
    let runs = c.in-Some.function in
    let by = c.args.limits.now.by.now in
    let outlook = c.args.limits.now.outlook.now in
    let ranks : c.args.graph.now.ranks ≡ h.network.nodes = ap (λ (v : ChordalValue). v.ranks) c.requires.graph.0 in
    let (from, to) = c.requires.ranks in
    let read = slice_get_read labels (length labels) c.args.leg.to c.index_mut.result.now refl (search rules) c.index_mut.ensures.value in
    let taken = subst (λ (o : Option (List Run)). slice_get labels c.args.leg.to ≡ Some o) (sym c.take.ensures.value) read in
    let there_ = subst (λ (o : Option (List Run)). slice_get labels c.args.leg.to ≡ Some o) c.in-Some.is taken in
    let few = c.if-slack_of-gt1.false in
    let behind = c.slack_of.ensures (omega (arith, few)) in
    let no_later : IsBehind runs by 1 = λ t within. let less = behind t within in omega (arith, less, few) in
    led_least h c.requires.graph.1 c.args.leg.from c.args.leg.to (omega (arith, from, ranks)) (omega (arith, to, ranks)) outlook.up outlook.down
    c.requires.ahead by c.requires.early labels c.in_ok-labels.ensures.swept runs there_ no_later
