use Rattle.std.proofs.Common.{◌≡◌, ◌<◌, ◌∙◌, ◌++◌, ℕ, List, Option, sym, ap, subst, reverse}
use Rattle.std.specs.Prelude.{All}
use Rattle.cu_chordal.specs.Graphs.{ChordalValue}
use Rattle.cu_elimtree.specs.SweepArcs.{ancestors_in}
use Rattle.cu_elimtree.specs.Trees.{ancestors_of}
use Rattle.cu_interval.specs.Hierarchies.{HierarchyValue, graph_of}
use Rattle.std.specs.List.{AllPairs}
use Rattle.cu_interval.specs.declared.ways.Dir.TheVariants.{Up, Down}
use Rattle.cu_sweep.specs.LedCalls.{arcs_of_ranks}
use Rattle.cu_day.proofs.Calls.{adds_sweep_arcs}
use Rattle.cu_day.specs.Steps.Ranks.{HasSweptDown, HasSweptUp}
use Rattle.cu_day.proofs.Whole.{tree_long}
use Rattle.cu_day.specs.Steps.Sweeping.{Always}
use Rattle.cu_day.proofs.days.sweep.Goals as goal

pub list_ancestors-requires : goal.list_ancestors-requires
list_ancestors-requires g c = subst (λ (n : ℕ). c.args.from < n)
    (sym (tree_long c.args.graph.now c.args.tree.now c.requires.tree)) c.requires.ranks.0

pub list_ancestors-requires-2 : goal.list_ancestors-requires-2
list_ancestors-requires-2 g c = subst (λ (n : ℕ). c.args.to < n)
    (sym (tree_long c.args.graph.now c.args.tree.now c.requires.tree)) c.requires.ranks.1

pub sweep_up-requires-clause-path : goal.sweep_up-requires-clause-path
sweep_up-requires-clause-path g c =
    let below = subst (λ (n : ℕ). All (λ rank. rank < n) c.in_ok-ups.ups.items)
    (tree_long c.args.graph.now c.args.tree.now c.requires.tree) c.in_ok-ups.ensures.below in
    subst (λ (xs : List ℕ). All (λ rank. rank < c.args.graph.now.ranks) xs) (sym c.deref.ensures.value) below

pub sweep_down-requires-clause-path : goal.sweep_down-requires-clause-path
sweep_down-requires-clause-path g c =
    let below = subst (λ (n : ℕ). All (λ rank. rank < n) c.in_ok-downs.downs.items)
    (tree_long c.args.graph.now c.args.tree.now c.requires.tree) c.in_ok-downs.ensures.below in
    subst (λ (xs : List ℕ). All (λ rank. rank < c.args.graph.now.ranks) xs) (sym c.deref-2.ensures.value) below

pub returns-clause-swept : goal.returns-clause-swept
returns-clause-swept g c =
    let h = g.F.DayFunctions.hierarchy c.args.functions.now in
    let graph = c.args.graph.now in
    let same : graph ≡ graph_of h = c.requires.graph.0 in
    let first = c.in_ok-labels.labels.items in
    let ups = c.sweep_up.new.labels.items in
    let downs = c.sweep_down.new.labels.items in
    let path : (rank : ℕ) (items now : List ℕ) → items ≡ ancestors_of c.args.tree.now rank → now ≡ items → now ≡ ancestors_in (graph_of h) rank =
    λ rank items now is held.
    held ∙ is ∙ ap (λ (ps : List (Option ℕ)). ancestors_of ps rank) c.requires.tree ∙ ap (λ (v : ChordalValue). ancestors_in v rank) same in
    let up = subst (λ (xs : List ℕ). HasSweptUp Always h xs first ups)
    (path c.args.from c.in_ok-ups.ups.items c.deref.result.now c.in_ok-ups.ensures.path c.deref.ensures.value) c.in_ok-sweep_up.ensures.swept in
    let swept = subst (λ (v : HierarchyValue).
    HasSweptDown Always v c.deref-2.result.now ups downs) c.sweep_up.ensures.stays c.in_ok-sweep_down.ensures.swept in
    let down = subst (λ (xs : List ℕ). HasSweptDown Always h xs ups downs)
    (path c.args.to c.in_ok-downs.downs.items c.deref-2.result.now c.in_ok-downs.ensures.path c.deref-2.ensures.value) swept in
    record { ranks = c.ranks.result; first = first; ups = ups; begun = c.in_ok-labels.ensures; up = up; down = down }

pub returns-clause-told : goal.returns-clause-told
returns-clause-told g c =
    let h = g.F.DayFunctions.hierarchy c.args.functions.now in
    let same : c.args.graph.now ≡ graph_of h = c.requires.graph.0 in
    let before = g.F.DayFunctions.calls c.args.functions.now in
    let mid = g.F.DayFunctions.calls c.sweep_up.new.functions in
    let now = g.F.DayFunctions.calls c.sweep_down.new.functions in
    let path : (rank : ℕ) (items now : List ℕ) → items ≡ ancestors_of c.args.tree.now rank → now ≡ items → now ≡ ancestors_in (graph_of h) rank =
    λ rank items now is held.
    held ∙ is ∙ ap (λ (ps : List (Option ℕ)). ancestors_of ps rank) c.requires.tree ∙ ap (λ (v : ChordalValue). ancestors_in v rank) same in
    let ups = path c.args.from c.in_ok-ups.ups.items c.deref.result.now c.in_ok-ups.ensures.path c.deref.ensures.value in
    let downs = path c.args.to c.in_ok-downs.downs.items c.deref-2.result.now c.in_ok-downs.ensures.path c.deref-2.ensures.value in
    let rise_ups = subst (AllPairs (λ a b. a < b)) (sym c.deref.ensures.value ∙ ups) c.in_ok-ups.ensures.rising in
    let rise_downs = subst (AllPairs (λ a b. a < b)) (sym c.deref-2.ensures.value ∙ downs) c.in_ok-downs.ensures.rising in
    let up = subst (λ (xs : List ℕ). mid ≡ before ++ arcs_of_ranks h Up xs) ups c.in_ok-sweep_up.ensures.told in
    let swept = subst (λ (v : HierarchyValue). now ≡ mid ++ arcs_of_ranks v Down
    (reverse c.deref-2.result.now)) c.sweep_up.ensures.stays c.in_ok-sweep_down.ensures.told in
    let down = subst (λ (xs : List ℕ). now ≡ mid ++ arcs_of_ranks h Down (reverse xs)) downs swept in
    adds_sweep_arcs h c.requires.graph.1 c.args.graph.now c.args.from c.args.to before mid now same rise_ups rise_downs up down
