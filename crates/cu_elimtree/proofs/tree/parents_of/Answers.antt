use Rattle.std.proofs.Common.{◌≡◌, ◌∙◌, ◌∷◌, [], ap, refl, arith}
use Rattle.std.specs.Prelude.{slice_get}
use Rattle.std.proofs.lemmas.Slice.{pushed}
use Rattle.cu_chordal.specs.Graphs.{parent_of}
use Rattle.cu_elimtree.proofs.Climbing.{holds_higher, holds_upwards, parents_all, parents_more, parents_none, tree_of}
use Rattle.cu_elimtree.proofs.tree.parents_of.Goals as goal

pub loop-rank-init : goal.loop-rank-init
loop-rank-init c = parents_none c.args.graph.now c.in_ok-parents.parents.items c.in_ok-parents.ensures.items

pub loop-rank-preserved : goal.loop-rank-preserved
loop-rank-preserved c =
    let graph = c.args.graph.now in
    let parent : c.copied.result ≡ parent_of graph.edges c.loop-rank.rank = c.copied.ensures ∙ c.first.ensures.value ∙ ap (λ xs. slice_get xs 0) c.up.ensures.exact in
    let same : c.loop-rank.parents.items ≡ c.loop-rank.parents.items = refl in
    parents_more graph c.loop-rank.rank c.loop-rank.parents.items c.push.new.self.items c.copied.result c.loop-rank.invariant parent
    (pushed (c.copied.result ∷ []) same c.in_ok-push.was c.push.ensures.items)

pub returns-clause-parents : goal.returns-clause-parents
returns-clause-parents c =
    let last : c.loop-rank.rank ≡ c.args.graph.now.ranks = omega (arith, c.loop-rank-test.false, c.loop-rank.auto.rank-end, c.ranks-ranks.ensures.count) in
    parents_all c.args.graph.now c.loop-rank.rank c.loop-rank.parents.items last c.loop-rank.invariant

pub returns-clause-sound : goal.returns-clause-sound
returns-clause-sound c =
    let last : c.loop-rank.rank ≡ c.args.graph.now.ranks = omega (arith, c.loop-rank-test.false, c.loop-rank.auto.rank-end, c.ranks-ranks.ensures.count) in
    tree_of c.args.graph.now c.loop-rank.parents.items c.ranks-ranks.ensures.sound (parents_all c.args.graph.now c.loop-rank.rank c.loop-rank.parents.items last c.loop-rank.invariant)

pub returns-clause-holds : goal.returns-clause-holds
returns-clause-holds c =
    let last : c.loop-rank.rank ≡ c.args.graph.now.ranks = omega (arith, c.loop-rank-test.false, c.loop-rank.auto.rank-end, c.ranks-ranks.ensures.count) in
    holds_higher c.args.graph.now c.loop-rank.parents.items c.ranks-ranks.ensures.sound (parents_all c.args.graph.now c.loop-rank.rank c.loop-rank.parents.items last c.loop-rank.invariant)

pub returns-clause-upwards : goal.returns-clause-upwards
returns-clause-upwards c =
    let last : c.loop-rank.rank ≡ c.args.graph.now.ranks = omega (arith, c.loop-rank-test.false, c.loop-rank.auto.rank-end, c.ranks-ranks.ensures.count) in
    holds_upwards c.args.graph.now c.loop-rank.parents.items c.ranks-ranks.ensures.sound (parents_all c.args.graph.now c.loop-rank.rank c.loop-rank.parents.items last c.loop-rank.invariant)
