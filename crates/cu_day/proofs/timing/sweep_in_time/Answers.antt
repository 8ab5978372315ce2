use Rattle.std.proofs.Common.{◌≡◌, ◌<◌, ◌∙◌, ℕ, List, Option, sym, ap, subst, arith, reverse}
use Rattle.std.proofs.lemmas.Grind.{common_steps}
use Rattle.std.specs.Prelude.{All}
use Rattle.cu_chordal.specs.Graphs.{ChordalValue}
use Rattle.cu_elimtree.specs.SweepArcs.{ancestors_in}
use Rattle.cu_elimtree.specs.Trees.{ancestors_of}
use Rattle.cu_interval.specs.Hierarchies.{HierarchyValue, graph_of}
use Rattle.cu_interval.specs.declared.ways.Dir.TheVariants.{Up, Down}
use Rattle.cu_sweep.specs.LedCalls.{arcs_of_ranks}
use Rattle.cu_day.specs.Steps.InTime.{InTime}
use Rattle.cu_day.specs.Steps.LedSteps.{AddsSomeOf}
use Rattle.cu_day.specs.Steps.Ranks.{HasSweptDown, HasSweptUp}
use Rattle.cu_day.proofs.LedArcs.{in_sweeps}
use Rattle.cu_day.proofs.Leaving.{slacks_begun}
use Rattle.cu_day.proofs.Whole.{tree_long}
use Rattle.cu_day.proofs.timing.sweep_in_time.Goals as goal

pub list_ancestors-requires : goal.list_ancestors-requires
list_ancestors-requires g c = subst (λ (n : ℕ). c.args.leg.from < n)
    (sym (tree_long c.args.graph.now c.args.tree.now c.requires.tree)) c.requires.ranks.0

pub list_ancestors-requires-2 : goal.list_ancestors-requires-2
list_ancestors-requires-2 g c = subst (λ (n : ℕ). c.args.leg.to < n)
    (sym (tree_long c.args.graph.now c.args.tree.now c.requires.tree)) c.requires.ranks.1

pub rise-requires-clause-path : goal.rise-requires-clause-path
rise-requires-clause-path g c =
    let below = subst (λ (n : ℕ). All (λ rank. rank < n) c.in_ok-ups.ups.items)
    (tree_long c.args.graph.now c.args.tree.now c.requires.tree) c.in_ok-ups.ensures.below in
    subst (λ (xs : List ℕ). All (λ rank. rank < c.args.graph.now.ranks) xs) (sym c.deref.ensures.value) below

pub fall-requires-clause-path : goal.fall-requires-clause-path
fall-requires-clause-path g c =
    let below = subst (λ (n : ℕ). All (λ rank. rank < n) c.in_ok-downs.downs.items)
    (tree_long c.args.graph.now c.args.tree.now c.requires.tree) c.in_ok-downs.ensures.below in
    subst (λ (xs : List ℕ). All (λ rank. rank < c.args.graph.now.ranks) xs) (sym c.deref-2.ensures.value) below

pub returns-clause-swept : goal.returns-clause-swept
returns-clause-swept g c =
    let h = g.F.DayFunctions.hierarchy c.args.functions.now in
    let graph = c.args.graph.now in
    let up_counts = InTime c.args.limits.now.by.now c.args.limits.now.outlook.now.up in
    let down_counts = InTime c.args.limits.now.by.now c.args.limits.now.outlook.now.down in
    let same : graph ≡ graph_of h = c.requires.graph.0 in
    let first = c.in_ok-labels.labels.items in
    let ups = c.rise.new.reached.labels.items in
    let downs = c.fall.new.reached.labels.items in
    let path : (rank : ℕ) (items now : List ℕ) → items ≡ ancestors_of c.args.tree.now rank → now ≡ items → now ≡ ancestors_in (graph_of h) rank =
    λ rank items now is held.
    held ∙ is ∙ ap (λ (ps : List (Option ℕ)). ancestors_of ps rank) c.requires.tree ∙ ap (λ (v : ChordalValue). ancestors_in v rank) same in
    let up = subst (λ (xs : List ℕ). HasSweptUp up_counts h xs first ups)
    (path c.args.leg.from c.in_ok-ups.ups.items c.deref.result.now c.in_ok-ups.ensures.path c.deref.ensures.value) c.in_ok-rise.ensures.swept in
    let swept = subst (λ (v : HierarchyValue).
    HasSweptDown down_counts v c.deref-2.result.now ups downs) c.rise.ensures.stays c.in_ok-fall.ensures.swept in
    let down = subst (λ (xs : List ℕ). HasSweptDown down_counts h xs ups downs)
    (path c.args.leg.to c.in_ok-downs.downs.items c.deref-2.result.now c.in_ok-downs.ensures.path c.deref-2.ensures.value) swept in
    record { ranks = c.ranks.result; first = first; ups = ups; begun = c.in_ok-labels.ensures; up = up; down = down }

pub rise-requires-clause-slacks : goal.rise-requires-clause-slacks
rise-requires-clause-slacks g c =
    let all : All (λ slack. slack ≡ 18446744073709551615) c.in_ok-slacks.slacks.items = λ k d lt. grind (arith, common_steps) in
    slacks_begun c.args.limits.now.by.now c.requires.early c.in_ok-labels.labels.items c.in_ok-slacks.slacks.items 18446744073709551615 (omega arith) all

pub returns-clause-told : goal.returns-clause-told
returns-clause-told g c =
    let h = g.F.DayFunctions.hierarchy c.args.functions.now in
    let same : c.args.graph.now ≡ graph_of h = c.requires.graph.0 in
    let before = g.F.DayFunctions.calls c.args.functions.now in
    let mid = g.F.DayFunctions.calls c.rise.new.functions in
    let now = g.F.DayFunctions.calls c.fall.new.functions in
    let path : (rank : ℕ) (items now : List ℕ) → items ≡ ancestors_of c.args.tree.now rank → now ≡ items → now ≡ ancestors_in (graph_of h) rank =
    λ rank items now is held.
    held ∙ is ∙ ap (λ (ps : List (Option ℕ)). ancestors_of ps rank) c.requires.tree ∙ ap (λ (v : ChordalValue). ancestors_in v rank) same in
    let ups = path c.args.leg.from c.in_ok-ups.ups.items c.deref.result.now c.in_ok-ups.ensures.path c.deref.ensures.value in
    let downs = path c.args.leg.to c.in_ok-downs.downs.items c.deref-2.result.now c.in_ok-downs.ensures.path c.deref-2.ensures.value in
    let up = subst (λ (xs : List ℕ). AddsSomeOf (arcs_of_ranks h Up xs) before mid) ups c.in_ok-rise.ensures.told in
    let swept = subst (λ (v : HierarchyValue). AddsSomeOf (arcs_of_ranks v Down (reverse c.deref-2.result.now)) mid now) c.rise.ensures.stays c.in_ok-fall.ensures.told in
    let down = subst (λ (xs : List ℕ). AddsSomeOf (arcs_of_ranks h Down (reverse xs)) mid now) downs swept in
    in_sweeps h c.args.leg.from c.args.leg.to before mid now up down
