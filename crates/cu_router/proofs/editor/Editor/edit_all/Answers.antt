use Rattle.std.proofs.Common.{subst}
use Rattle.std.proofs.lemmas.Result.{IfOk-weaker}
use Rattle.cu_interval.specs.Hierarchies.{HierarchyValue}
use Rattle.cu_router.specs.Edited.{IsEditedAll}
use Rattle.cu_router.proofs.RoomLaws.{edits_made}
use Rattle.cu_router.proofs.editor.Editor.edit_all.Goals as goal

pub returns : goal.returns
returns g c =
    let held = c.self.inside.held in
    let edits = c.args.edits.edits in
    let touched = c.in_ok-lists.ensures in
    record {
      edited = IfOk-weaker c.of.result _ _ (λ file same. subst (λ (h : HierarchyValue). IsEditedAll h edits file) c.self.view_is
          (edits_made held file edits c.in_ok-lists.lists.items touched.held touched.resettled touched.sound same)) c.of.ensures;
    }
