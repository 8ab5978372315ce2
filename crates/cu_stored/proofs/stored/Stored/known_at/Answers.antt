use Rattle.std.proofs.Common.{arith, ◌≡◌, ◌<◌, ◌-◌, ◌+◌, ◌%◌, ◌∙◌, ℕ, ap, length, subst, sym}
use Rattle.cu_interval.specs.declared.relaxing.Relaxed.TheVariants.{At, NoWay}
use Rattle.cu_interval.specs.Hierarchies.{HierarchyValue}
use Rattle.cu_interval.specs.Unpacking.{relaxed}
use Rattle.cu_filling.proofs.AnswersNear.{answer_near}
use Rattle.cu_stored.proofs.KnownAnswers.{known_drives, known_none}
use Rattle.cu_stored.proofs.stored.Stored.known_at.Goals as goal

pub overflow_add-result : goal.overflow_add-result
overflow_add-result g c =
    let h : HierarchyValue = g.R.Relaxer.hierarchy c.self.inside.other in
    let sound = c.self.invariant.0 in
    let edge : c.args.edge < length h.edges = subst (λ (v : HierarchyValue). c.args.edge < length v.edges) (sym c.self.view_is) c.requires.edge in
    let s = c.args.at % c.from.result in
    let drives = known_drives h sound c.self.inside.store.now.known c.self.invariant.2 c.args.edge c.args.dir edge c.list.result c.list.ensures.number c.args.at s c.in-At.arrival
    (ap (λ (n : ℕ). c.args.at % n) c.from.ensures) (sym c.value.ensures ∙ c.in-At.is) in
    let near = answer_near h sound c.args.edge c.args.dir c.args.at ((c.args.at - s) + c.in-At.arrival) edge drives in
    omega (arith, near.1, c.requires.time)

pub returns-in-NoWay : goal.returns-in-NoWay
returns-in-NoWay g c =
    let h : HierarchyValue = g.R.Relaxer.hierarchy c.self.inside.other in
    let edge : c.args.edge < length h.edges = subst (λ (v : HierarchyValue). c.args.edge < length v.edges) (sym c.self.view_is) c.requires.edge in
    subst (λ (v : HierarchyValue). relaxed v c.args.edge c.args.dir c.args.at ≡ NoWay) c.self.view_is
    (known_none h c.self.invariant.0 c.self.inside.store.now.known c.self.invariant.2 c.args.edge c.args.dir edge c.list.result c.list.ensures.number c.args.at
    (c.args.at % c.from.result) (sym c.value.ensures ∙ c.in-NoWay.is))

pub returns-in-At : goal.returns-in-At
returns-in-At g c =
    let h : HierarchyValue = g.R.Relaxer.hierarchy c.self.inside.other in
    let edge : c.args.edge < length h.edges = subst (λ (v : HierarchyValue). c.args.edge < length v.edges) (sym c.self.view_is) c.requires.edge in
    let s = c.args.at % c.from.result in
    subst (λ (v : HierarchyValue). relaxed v c.args.edge c.args.dir c.args.at ≡ At ((c.args.at - s) + c.in-At.arrival)) c.self.view_is
    (known_drives h c.self.invariant.0 c.self.inside.store.now.known c.self.invariant.2 c.args.edge c.args.dir edge c.list.result c.list.ensures.number c.args.at s c.in-At.arrival
    (ap (λ (n : ℕ). c.args.at % n) c.from.ensures) (sym c.value.ensures ∙ c.in-At.is))
