use Rattle.std.proofs.Common.{◌<◌, ℕ, subst, sym}
use Rattle.std.specs.Prelude.{IfOk}
use Rattle.cu_chordal.specs.Graphs.{ChordalValue}
use Rattle.cu_interval.specs.Hierarchies.{HierarchyValue}
use Rattle.cu_day.specs.DayCalls.{AddsLedArcs, AddsSweepArcs}
use Rattle.cu_day.specs.Steps.LedSteps.{AddsLimited}
use Rattle.cu_day.proofs.LedArcs.{if_ok_then, led_over, led_within}
use Rattle.cu_day.proofs.Whole.{tree_long}
use Rattle.cu_day.proofs.leading.led_day.Goals as goal

pub list_ancestors-requires : goal.list_ancestors-requires
list_ancestors-requires g c = subst (λ (n : ℕ). c.args.leg.to < n) (sym (tree_long c.args.graph.now c.args.tree.now c.requires.tree)) c.requires.ranks.1

pub returns-in_default-clause-told : goal.returns-in_default-clause-told
returns-in_default-clause-told g c =
    let h = g.F.DayFunctions.hierarchy c.args.functions.now in
    let p = c.args.leg in
    let before = g.F.DayFunctions.calls c.args.functions.now in
    let mid = g.F.DayFunctions.calls c.drive_chain.new.functions in
    let now = g.F.DayFunctions.calls c.day.new.functions in
    if_ok_then c.day.result (λ _. AddsSweepArcs c.args.graph.now p.from p.to mid now) (λ _. AddsLedArcs h p.from p.to before now)
    (λ _ made. led_over h p.from p.to before mid now c.in_ok-by.ensures.told
    (subst (λ (v : ChordalValue). AddsSweepArcs v p.from p.to mid now) c.requires.graph.0 made)) c.day.ensures.told

pub returns-clause-told : goal.returns-clause-told
returns-clause-told g c =
    let h = g.F.DayFunctions.hierarchy c.args.functions.now in
    let p = c.args.leg in
    let before = g.F.DayFunctions.calls c.args.functions.now in
    let mid = g.F.DayFunctions.calls c.drive_chain.new.functions in
    let now = g.F.DayFunctions.calls c.day_until.new.functions in
    let made = subst (λ (v : HierarchyValue). IfOk c.day_until.result (λ _. AddsLimited v p.from p.to mid now)) c.in_ok-by.ensures.stays c.day_until.ensures.told in
    if_ok_then c.day_until.result (λ _. AddsLimited h p.from p.to mid now) (λ _. AddsLedArcs h p.from p.to before now)
    (λ _ limited. led_within h p.from p.to before mid now c.in_ok-by.ensures.told limited) made
