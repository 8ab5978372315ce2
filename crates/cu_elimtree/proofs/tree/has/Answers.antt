use Rattle.std.proofs.Common.{◌≡◌, ◌++◌, ◌∷◌, ap, subst, ◌∙◌}
use Rattle.std.specs.Iterator.{Yields, YieldsFirst}
use Rattle.cu_elimtree.proofs.Climbing.{tells, yielded_first}
use Rattle.cu_elimtree.proofs.tree.has.Goals as goal

pub returns-then-ancestor-rank : goal.returns-then-ancestor-rank
returns-then-ancestor-rank c =
    let yielded = c.loop-ancestor.yielded in
    let left = c.loop-ancestor.ancestor-iterator in
    let rest : left ≡ c.in-Some.ancestor ∷ c.next.new.self = c.in-Some.ensures.steps in
    let by = subst (λ s. Yields (YieldsFirst (λ xs. xs)) s yielded left) c.into_iter-ancestor-iterator.ensures.into_iter_gives c.loop-ancestor.yielded_by in
    let whole : c.args.ancestors ≡ yielded ++ left = yielded_first (λ xs. xs) c.args.ancestors yielded left by in
    tells c.args.ancestors yielded c.next.new.self c.in-Some.ancestor c.args.rank c.requires (whole ∙ ap (λ xs. yielded ++ xs) rest) c.loop-ancestor.invariant c.if-ancestor-rank.true
