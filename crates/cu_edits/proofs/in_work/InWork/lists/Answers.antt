use Rattle.std.proofs.Common.{◌≡◌, ◌∙◌, subst, sym}
use Rattle.cu_model.specs.Networks.{IsNetwork}
use Rattle.cu_interval.specs.Hierarchies.{IsHierarchy}
use Rattle.cu_edits.specs.InWork.{InWorkValue, in_work_of, left_of}
use Rattle.cu_edits.specs.Settling.{numbers_of}
use Rattle.cu_edits.proofs.InWorkLaws.{work_resettled, work_sound, work_touched}
use Rattle.cu_edits.proofs.in_work.InWork.lists.Goals as goal
use Rattle.cu_resettled.specs.ResettlingAll.{IsResettledAll, NumbersTouchedBySome, edited_all, hierarchy_with_all}

pub returns-clause-touched : goal.returns-clause-touched
returns-clause-touched g c =
    let work = in_work_of c.self.inside.papers (g.S.Settler.state c.self.inside.settler) in
    let left = subst (λ (w : InWorkValue). left_of w ≡ 0) (sym c.self.view_is) c.requires.left in
    subst (λ (w : InWorkValue). NumbersTouchedBySome w.state.before w.state.edit (numbers_of c.lists.result.now)) c.self.view_is
    (work_touched work c.self.invariant.0 left c.lists.result.now (c.lists.ensures ∙ c.self.invariant.1))

pub returns-clause-resettled : goal.returns-clause-resettled
returns-clause-resettled g c =
    let work = in_work_of c.self.inside.papers (g.S.Settler.state c.self.inside.settler) in
    let left = subst (λ (w : InWorkValue). left_of w ≡ 0) (sym c.self.view_is) c.requires.left in
    subst (λ (w : InWorkValue). IsResettledAll w.state.before w.state.edit (hierarchy_with_all w.state.before w.state.edit c.lists.result.now)) c.self.view_is
    (work_resettled work c.self.invariant.0 left c.lists.result.now (c.lists.ensures ∙ c.self.invariant.1))

pub returns-clause-sound : goal.returns-clause-sound
returns-clause-sound g c =
    let work = in_work_of c.self.inside.papers (g.S.Settler.state c.self.inside.settler) in
    let left = subst (λ (w : InWorkValue). left_of w ≡ 0) (sym c.self.view_is) c.requires.left in
    subst (λ (w : InWorkValue). IsNetwork (edited_all w.state.before.network w.state.edit) → IsHierarchy (hierarchy_with_all w.state.before w.state.edit c.lists.result.now)) c.self.view_is
    (work_sound work c.self.invariant.0 left c.lists.result.now (c.lists.ensures ∙ c.self.invariant.1))
