use Rattle.std.proofs.Common.{◌≡◌, List, Option, Some, refl, sym, subst, rules, length}
use Rattle.std.specs.Prelude.{slice_get}
use Rattle.std.proofs.lemmas.Option.{slice_get_read}
use Rattle.cu_arrival.specs.declared.runs.Run.{Run}
use Rattle.cu_day.proofs.Whole.{day_found, day_least}
use Rattle.cu_day.proofs.days.day.Goals as goal

pub returns-clause-function : goal.returns-clause-function
returns-clause-function g c =
    let h = g.F.DayFunctions.hierarchy c.args.functions.now in
    let labels = c.in_ok-labels.labels.items in
    let swept = c.in_ok-labels.ensures.swept in
    let read = slice_get_read labels (length labels) c.args.to c.index_mut.result.now refl (search rules) c.index_mut.ensures.value in
    let taken = subst (λ (o : Option (List Run)). slice_get labels c.args.to ≡ Some o) (sym c.take.ensures.value) read in
    day_found h c.args.from c.args.to labels swept c.take.result taken

pub returns-clause-least : goal.returns-clause-least
returns-clause-least g c =
    let h = g.F.DayFunctions.hierarchy c.args.functions.now in
    let labels = c.in_ok-labels.labels.items in
    let swept = c.in_ok-labels.ensures.swept in
    let read = slice_get_read labels (length labels) c.args.to c.index_mut.result.now refl (search rules) c.index_mut.ensures.value in
    let taken = subst (λ (o : Option (List Run)). slice_get labels c.args.to ≡ Some o) (sym c.take.ensures.value) read in
    day_least h c.args.from c.args.to labels swept (search rules) (search rules) c.take.result taken
