use Rattle.std.proofs.Common.{rules, ◌≡◌, ◌<◌, ◌++◌, ◌∙◌, ℕ, Option, length, List, sym, ap, subst, arith, take, drop}
use Rattle.std.specs.Prelude.{All}
use Rattle.std.specs.List.{AllPairs, Contains}
use Rattle.std.proofs.lemmas.List.Kept.{AllPairs-from_increasing}
use Rattle.cu_elimtree.specs.SweepArcs.{ancestors_in, parents_in}
use Rattle.cu_elimtree.specs.Trees.{IsTree, ancestors_of}
use Rattle.cu_elimtree.proofs.Climbing.{ancestors_below, ancestors_rise, tree_of}
use Rattle.cu_links.proofs.Setting.{whole_back}
use Rattle.cu_sweep.specs.Outlooks.{OutlookValue}
use Rattle.cu_sweep.specs.Outlooks.{FallsBy, IsNear, ahead_at}
use Rattle.cu_sweep.proofs.Ancestry.{parents_are_tree}
use Rattle.cu_sweep.proofs.Passing.{tree_long}
use Rattle.cu_sweep.proofs.outlook.Outlook.look_by.Goals as goal

pub climb-count-requires-clause-rank : goal.climb-count-requires-clause-rank
climb-count-requires-clause-rank g c = let long = tree_long c.args.graph.now c.args.tree.now c.requires.tree in let lt = c.requires.ranks.0 in omega (arith, long, lt)

pub climb-count-requires-clause-places : goal.climb-count-requires-clause-places
climb-count-requires-clause-places g c = let long = tree_long c.args.graph.now c.args.tree.now c.requires.tree in let is = c.requires.path in omega (arith, long, is)

pub look_up-requires-clause-path : goal.look_up-requires-clause-path
look_up-requires-clause-path g c =
    let graph = c.args.graph.now in
    let tree = c.args.tree.now in
    let chordal = c.requires.graph in
    let sound : IsTree tree = subst IsTree (sym c.requires.tree) (tree_of graph (parents_in graph) chordal (parents_are_tree graph)) in
    let long = tree_long graph tree c.requires.tree in
    let from = c.requires.ranks.0 in
    let below = ancestors_below tree c.args.question.from sound (omega (arith, long, from)) in
    subst (λ (xs : List ℕ). All (λ rank. rank < graph.ranks) xs) (sym c.climb-count.ensures.path)
    (subst (λ (n : ℕ). All (λ rank. rank < n) (ancestors_of tree c.args.question.from)) long below)

pub look_up-requires-clause-rising : goal.look_up-requires-clause-rising
look_up-requires-clause-rising g c =
    let graph = c.args.graph.now in
    let tree = c.args.tree.now in
    let chordal = c.requires.graph in
    let sound : IsTree tree = subst IsTree (sym c.requires.tree) (tree_of graph (parents_in graph) chordal (parents_are_tree graph)) in
    subst (AllPairs (λ a b. a < b)) (sym c.climb-count.ensures.path)
    (AllPairs-from_increasing (ancestors_of tree c.args.question.from) (ancestors_rise tree c.args.question.from sound))

pub start_up-requires-clause-ranks : goal.start_up-requires-clause-ranks
start_up-requires-clause-ranks g c =
    let long = tree_long c.args.graph.now c.args.tree.now c.requires.tree in
    let (from, to) = c.requires.ranks in
    (omega (arith, long, from), omega (arith, long, to))

pub start_up-requires-clause-places : goal.start_up-requires-clause-places
start_up-requires-clause-places g c =
    let long = tree_long c.args.graph.now c.args.tree.now c.requires.tree in
    let inside = c.self.inside in
    let back = c.look_back.new.ahead in
    let kept : inside.down.len ≡ length back = search rules in
    let down : length c.deref.result.now ≡ length back = ap (λ (xs : List ℕ). length xs) (c.deref.ensures.value ∙ whole_back inside.down.len back (drop (length back) inside.down.items) kept) in
    let old : length back ≡ length inside.down.items = c.look_back.ensures.places ∙ ap (λ (xs : List ℕ). length xs) c.deref_mut.ensures.value in
    let up : length c.deref_mut-3.result.now ≡ length inside.up.items = ap (λ (xs : List ℕ). length xs) c.deref_mut-3.ensures.value in
    let same = c.self.invariant.0 in
    let nodes : length inside.up.items ≡ c.args.graph.now.ranks = ap (λ (v : OutlookValue). v.nodes) c.self.view_is ∙ c.requires.nodes in
    (omega (arith, down, old, same, nodes, long), omega (arith, up, nodes, long))

pub start_up-requires-clause-near : goal.start_up-requires-clause-near
start_up-requires-clause-near g c =
    let inside = c.self.inside in
    let back = c.look_back.new.ahead in
    let kept : inside.down.len ≡ length back = search rules in
    let down : c.deref.result.now ≡ back = c.deref.ensures.value ∙ whole_back inside.down.len back (drop (length back) inside.down.items) kept in
    (subst IsNear (sym down) c.look_back.ensures.near, subst IsNear (sym c.deref_mut-3.ensures.value) c.self.invariant.3)

pub returns-clause-ahead : goal.returns-clause-ahead
returns-clause-ahead g c =
    let graph = c.args.graph.now in
    let p = c.args.question in
    let inside = c.self.inside in
    let back = c.look_back.new.ahead in
    let start = c.start_up.new.up in
    let up = c.look_up.new.ahead in
    let kept_back : inside.down.len ≡ length back = search rules in
    let kept_start : inside.up.len ≡ length start = search rules in
    let kept_up : inside.up.len ≡ length up = search rules in
    let down_is : take inside.down.len (back ++ drop (length back) inside.down.items) ≡ back = whole_back inside.down.len back (drop (length back) inside.down.items) kept_back in
    let middle = take inside.up.len (start ++ drop (length start) inside.up.items) in
    let middle_is : middle ≡ start = whole_back inside.up.len start (drop (length start) inside.up.items) kept_start in
    let up_is : take inside.up.len (up ++ drop (length up) middle) ≡ up = whole_back inside.up.len up (drop (length up) middle) kept_up in
    let tree_of_from : ancestors_of c.args.tree.now p.from ≡ ancestors_in graph p.from = ap (λ (ps : List (Option ℕ)). ancestors_of ps p.from) c.requires.tree in
    let path = c.climb-count.ensures.path ∙ tree_of_from in
    let tree_of_to : ancestors_of c.args.tree.now p.to ≡ ancestors_in graph p.to = ap (λ (ps : List (Option ℕ)). ancestors_of ps p.to) c.requires.tree in
    let bound = g.B.Bounds.bounds c.args.bounds.now in
    let ahead : FallsBy bound graph p.from p.to up back = record {
      climb = λ x y edge m e. c.look_up.ensures.climb x y edge (subst (λ (xs : List ℕ). Contains xs x) (sym path) m) e;
      turn = λ x m.
          let turned = c.start_up.ensures.turn x (subst (λ (xs : List ℕ). Contains xs x) (sym tree_of_to) m) in
          let less = c.look_up.ensures.less x in
          let begun : ahead_at c.deref_mut-4.result.now x ≡ ahead_at start x = ap (λ (xs : List ℕ). ahead_at xs x) (c.deref_mut-4.ensures.value ∙ middle_is) in
          let read : ahead_at c.deref.result.now x ≡ ahead_at back x = ap (λ (xs : List ℕ). ahead_at xs x) (c.deref.ensures.value ∙ down_is) in
          omega (arith, turned, less, begun, read);
      fall = λ x y edge m e. c.look_back.ensures.fall x y edge m e;
      end = c.look_back.ensures.end;
    } in
    subst (λ (us : List ℕ). FallsBy bound graph p.from p.to us (take inside.down.len (back ++ drop (length back) inside.down.items))) (sym up_is)
    (subst (λ (ds : List ℕ). FallsBy bound graph p.from p.to up ds) (sym down_is) ahead)
