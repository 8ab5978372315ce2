use Rattle.std.proofs.Common.{◌≡◌, ◌≤◌, ◌<◌, ◌∙◌, ◌++◌, ◌∷◌, [], ℕ, List, ap, sym, subst, arith, length, length-append}
use Rattle.std.specs.Iterator.{Yields, YieldsFirst}
use Rattle.std.proofs.lemmas.List.{take_more_set}
use Rattle.cu_elimtree.specs.Trees.{ancestors_of}
use Rattle.cu_elimtree.proofs.Climbing.{yielded_first}
use Rattle.cu_sweep.proofs.Passing.{few_ancestors, inside}
use Rattle.cu_sweep.proofs.querying.climb.Goals as goal

pub bounds-path-count : goal.bounds-path-count
bounds-path-count c =
    let rest : c.ranks.ancestor-iterator ≡ c.in-Some.ancestor ∷ c.next.new.self = c.in-Some.ensures.steps in
    let whole : c.ancestors-ancestor-items.result ≡ c.ranks.yielded ++ c.ranks.ancestor-iterator =
    yielded_first (λ (left : List ℕ). left) c.ancestors-ancestor-items.result c.ranks.yielded c.ranks.ancestor-iterator
    (subst (λ s. Yields (YieldsFirst (λ (left : List ℕ). left)) s c.ranks.yielded c.ranks.ancestor-iterator) c.into_iter-ancestor-iterator.ensures.into_iter_gives c.ranks.yielded_by) in
    let all : ancestors_of c.args.tree.now c.args.rank ≡ c.ranks.yielded ++ (c.in-Some.ancestor ∷ c.next.new.self) =
    sym c.ancestors-ancestor-items.ensures.left ∙ whole ∙ ap (λ (xs : List ℕ). c.ranks.yielded ++ xs) rest in
    let few : length (ancestors_of c.args.tree.now c.args.rank) ≤ length c.args.tree.now = few_ancestors c.args.tree.now c.args.rank in
    let less : length c.ranks.yielded < length (ancestors_of c.args.tree.now c.args.rank) =
    inside (ancestors_of c.args.tree.now c.args.rank) c.ranks.yielded c.in-Some.ancestor (c.next.new.self) all in
    omega (arith, few, less, c.ranks.invariant.count, c.requires.places, c.ranks.auto.path)

pub ranks-preserved : goal.ranks-preserved
ranks-preserved c =
    let lt = bounds-path-count c in
    record {
      count = let e = c.ranks.invariant.count in let more = length-append c.ranks.yielded (c.in-Some.ancestor ∷ []) in omega (arith, e, more);
      path = take_more_set c.ranks.path c.ranks.count c.in-Some.ancestor lt ∙ ap (λ (xs : List ℕ). xs ++ (c.in-Some.ancestor ∷ [])) c.ranks.invariant.path;
    }
