use Rattle.std.proofs.Common.{◌≡◌, ◌<◌, ◌∙◌, ◌++◌, ◌∷◌, [], ℕ, List, true, length, append_assoc, ap, arith, subst, sym}
use Rattle.std.proofs.lemmas.List.{append-nil, length-set}
use Rattle.cu_reach.specs.Steps.Aiming.{AreMarked}
use Rattle.cu_reach.proofs.AimLaws.{marked_nodes}
use Rattle.cu_reach.proofs.aiming.mark_nodes.Goals as goal

pub nodes-preserved : goal.nodes-preserved
nodes-preserved g c =
    let h = g.W.Ways.hierarchy c.args.ways.now in
    let node = c.in-Some.node in
    let behind = c.next.new.self in
    let marks = c.nodes.marks in
    let at = c.rank.result in
    let all : c.args.nodes ≡ c.nodes.yielded ++ (node ∷ behind) = c.nodes.invariant.whole ∙ ap (λ (xs : List ℕ). c.nodes.yielded ++ xs) c.in-Some.ensures.steps in
    let long = c.nodes.invariant.long in
    let lt : at < length marks = let low = c.rank.ensures.range in omega (arith, low, long, c.requires.marks) in
    record {
      whole = all ∙ sym (append_assoc c.nodes.yielded (node ∷ []) behind);
      long = length-set marks at true ∙ long;
      marked = marked_nodes h c.nodes.yielded node at marks lt c.rank.ensures.there c.nodes.invariant.marked;
    }

pub returns-clause-marked : goal.returns-clause-marked
returns-clause-marked g c =
    let h = g.W.Ways.hierarchy c.args.ways.now in
    let all : c.args.nodes ≡ c.nodes.yielded = c.nodes.invariant.whole ∙ ap (λ (xs : List ℕ). c.nodes.yielded ++ xs) c.in-None.ensures.steps.0 ∙ append-nil c.nodes.yielded in
    subst (λ (nodes : List ℕ). AreMarked h nodes c.nodes.marks) (sym all) c.nodes.invariant.marked
