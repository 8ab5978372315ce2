use Rattle.std.proofs.Common.{ℕ, List, Option, subst}
use Rattle.cu_arrival.specs.declared.runs.Run.{Run}
use Rattle.cu_interval.specs.Hierarchies.{start_of}
use Rattle.cu_unpack.specs.Rebuilds.{IsRebuiltFunction}
use Rattle.cu_day.specs.Steps.Sweeping.{Always, TakesList}
use Rattle.cu_day.specs.Steps.Taking.{TakesArc}
use Rattle.std.proofs.lemmas.Result.{on_ok_weaker}
use Rattle.cu_day.proofs.TakingLists.{none_takes, some_takes}
use Rattle.cu_day.proofs.days.take_list.Goals as goal

pub returns-in_default-clause-takes : goal.returns-in_default-clause-takes
returns-in_default-clause-takes g c =
    let h = g.F.DayFunctions.hierarchy c.args.functions.now in
    let labels = c.args.labels.now.items in
    let (ends, at, start, end) = c.requires.edge in
    let none = subst (λ (o : Option (List Run)).
    IsRebuiltFunction h c.args.shortcut.edge c.args.shortcut.dir o) c.in_default.is c.in_ok-function.ensures.function in
    let takes = none_takes h c.in_ok-function.ensures.sound c.args.shortcut.edge c.args.shortcut.dir ends at Always labels none in
    subst (λ (n : ℕ). TakesList Always h n c.args.leg.to labels labels) start
    (subst (λ (n : ℕ). TakesList Always h (start_of ends c.args.shortcut.dir) n labels labels) end takes)

pub returns-clause-takes : goal.returns-clause-takes
returns-clause-takes g c =
    let h = g.F.DayFunctions.hierarchy c.args.functions.now in
    let labels = c.args.labels.now.items in
    let after = c.take_arc.new.labels.items in
    let runs = c.in-Some.function in
    let (ends, at, start, end) = c.requires.edge in
    let some = subst (λ (o : Option (List Run)).
    IsRebuiltFunction h c.args.shortcut.edge c.args.shortcut.dir o) c.in-Some.is c.in_ok-function.ensures.function in
    let by : TakesArc runs c.args.leg.from c.args.leg.to labels after → TakesList Always h c.args.leg.from c.args.leg.to labels after =
    subst (λ (n : ℕ). TakesArc runs n c.args.leg.to labels after → TakesList Always h n c.args.leg.to labels after) start
    (subst (λ (n : ℕ). TakesArc runs (start_of ends c.args.shortcut.dir) n labels after
    → TakesList Always h (start_of ends c.args.shortcut.dir) n labels after) end
    (some_takes h c.in_ok-function.ensures.sound c.args.shortcut.edge c.args.shortcut.dir ends at Always runs labels after some)) in
    on_ok_weaker c.take_arc.result by c.take_arc.ensures
