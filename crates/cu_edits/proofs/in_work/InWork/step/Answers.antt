use Rattle.std.proofs.Common.{subst}
use Rattle.cu_edits.specs.InWork.{InWorkValue, SettlesNext, in_work_of}
use Rattle.cu_edits.proofs.InWorkLaws.{step_asks, step_leaves}
use Rattle.cu_edits.proofs.in_work.InWork.step.Goals as goal

pub settle-requires : goal.settle-requires
settle-requires g c =
    let inside = c.self.inside in
    let next = step_asks inside.papers (g.S.Settler.state inside.settler) c.self.invariant.0 c.self.invariant.1 c.next-edge.result c.next-edge.ensures in
    record { touched = next.touched; fresh = next.fresh; sides = next.sides }

pub invariant_of-self-2 : goal.invariant_of-self-2
invariant_of-self-2 g c =
    let inside = c.self.inside in
    let settles = c.in_ok-touched.ensures in
    let stepped = step_leaves inside.papers (g.S.Settler.state inside.settler) c.self.invariant.0 c.self.invariant.1 c.next-edge.result c.next-edge.ensures
    c.add.new.self (g.S.Settler.state c.settle.new.self) c.in_ok-touched.touched settles.edge c.add.ensures settles.settled settles.resettled in
    (stepped.work, stepped.same)

pub returns-clause-settled : goal.returns-clause-settled
returns-clause-settled g c =
    let inside = c.self.inside in
    let settles = c.in_ok-touched.ensures in
    subst (λ (work : InWorkValue). SettlesNext work (in_work_of c.add.new.self (g.S.Settler.state c.settle.new.self))) c.self.view_is
    (step_leaves inside.papers (g.S.Settler.state inside.settler) c.self.invariant.0 c.self.invariant.1 c.next-edge.result c.next-edge.ensures
    c.add.new.self (g.S.Settler.state c.settle.new.self) c.in_ok-touched.touched settles.edge c.add.ensures settles.settled settles.resettled).next
