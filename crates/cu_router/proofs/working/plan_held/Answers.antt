use Rattle.std.proofs.Common.{ℕ, subst, sym}
use Rattle.std.specs.Global.{Vec}
use Rattle.cu_interval.specs.Hierarchies.{HierarchyValue, IsHierarchy}
use Rattle.cu_router.proofs.WorkingLaws.{few_found}
use Rattle.cu_router.proofs.working.plan_held.Goals as goal

pub returns-clause-few : goal.returns-clause-few
returns-clause-few c =
    let sound = subst (λ (h : HierarchyValue). IsHierarchy h) (sym c.view-view.ensures.same) c.view-view.ensures.sound in
    few_found c.view-view.result sound c.args.edit.now c.plan.result (λ (edges : Vec ℕ). edges.items) c.plan.ensures.touched
