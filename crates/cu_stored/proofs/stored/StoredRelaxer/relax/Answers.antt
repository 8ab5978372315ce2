use Rattle.std.proofs.Common.{◌<◌, length, subst, sym}
use Rattle.cu_interval.specs.Hierarchies.{HierarchyValue}
use Rattle.cu_filling.proofs.AnswersNear.{answer_near}
use Rattle.cu_stored.proofs.stored.StoredRelaxer.relax.Goals as goal

pub returns-in-At-clause-near : goal.returns-in-At-clause-near
returns-in-At-clause-near g c =
    let h : HierarchyValue = g.R.Relaxer.hierarchy c.self.inside.other in
    let edge : c.args.edge < length h.edges = subst (λ (v : HierarchyValue). c.args.edge < length v.edges) (sym c.self.view_is) c.requires.edge in
    answer_near h c.self.invariant.0 c.args.edge c.args.dir c.args.at c.in-At.arrival edge c.in-At.ensures
