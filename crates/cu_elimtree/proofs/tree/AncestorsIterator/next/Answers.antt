use Rattle.std.proofs.Common.{◌∙◌, sym, ap, arith, rules, length}
use Rattle.cu_elimtree.proofs.Climbing.{climb_step}
use Rattle.cu_elimtree.proofs.tree.AncestorsIterator.next.Goals as goal

pub returns-clause-steps : goal.returns-clause-steps
returns-clause-steps c =
    let tree = c.self.inside in
    let parent = c.parent_at-self-inside in
    sym c.self.view_is ∙ climb_step tree.fuel tree.parents.now tree.next parent.result c.in_ok-rank.rank (omega (arith, c.if-self-eq0.false)) (search rules) parent.ensures

pub returns-clause-goes : goal.returns-clause-goes
returns-clause-goes c =
    let less = ap length (returns-clause-steps c) in
    record { on = λ finite. (search rules, search rules, omega (arith, less)); keeps = search rules; rests = search rules }
