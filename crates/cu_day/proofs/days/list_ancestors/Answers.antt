use Rattle.std.proofs.Common.{◌≡◌, ◌<◌, ◌∙◌, ◌++◌, ℕ, List, [], sym, ap, subst, rules}
use Rattle.std.specs.List.{AllPairs}
use Rattle.std.specs.Iterator.{Yields, YieldsFirst}
use Rattle.std.proofs.lemmas.List.{append-nil}
use Rattle.std.proofs.lemmas.List.Kept.{AllPairs-from_increasing}
use Rattle.cu_elimtree.specs.Trees.{ancestors_of}
use Rattle.cu_elimtree.proofs.Climbing.{yielded_first}
use Rattle.cu_day.proofs.days.list_ancestors.Goals as goal

pub returns-clause-rising : goal.returns-clause-rising
returns-clause-rising c =
    let met = c.ranks.yielded in
    let left : c.ranks.ancestor-iterator ≡ [] = search rules in
    let whole : c.ancestors-ancestor-items.result ≡ met ++ c.ranks.ancestor-iterator =
    yielded_first (λ (left : List ℕ). left) c.ancestors-ancestor-items.result met c.ranks.ancestor-iterator
    (subst (λ s. Yields (YieldsFirst
    (λ (left : List ℕ). left)) s met c.ranks.ancestor-iterator) c.into_iter-ancestor-iterator.ensures.into_iter_gives c.ranks.yielded_by) in
    let same : ancestors_of c.args.tree.now c.args.rank ≡ c.ranks.path.items =
    sym c.ancestors-ancestor-items.ensures.left ∙ whole ∙ ap (λ (xs : List ℕ). met ++ xs) left ∙ append-nil met ∙ sym c.ranks.invariant in
    subst (AllPairs (λ a b. a < b)) same
    (AllPairs-from_increasing (ancestors_of c.args.tree.now c.args.rank) c.ancestors-ancestor-items.ensures.rising)
