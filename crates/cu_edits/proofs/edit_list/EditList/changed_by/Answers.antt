use Rattle.std.proofs.Common.{subst, sym}
use Rattle.std.proofs.lemmas.Result.{IfOk-weaker}
use Rattle.cu_model.specs.declared.roads.Edit.{Edit}
use Rattle.cu_edits.specs.EditLists.{AreChanged}
use Rattle.cu_edits.proofs.edit_list.EditList.changed_by.Goals as goal

pub returns-in-Set : goal.returns-in-Set
returns-in-Set g c =
    let n = g.R.Roads.network c.args.roads.now in
    IfOk-weaker c.driven_by.result _ _ (λ arcs all. subst (λ (e : Edit). AreChanged n e arcs.items) (sym c.in-Set.is) all) c.driven_by.ensures
