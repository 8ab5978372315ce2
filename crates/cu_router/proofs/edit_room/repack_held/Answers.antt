use Rattle.std.proofs.Common.{◌∷◌, [], List, subst, sym}
use Rattle.cu_model.specs.declared.roads.Edit.{Edit}
use Rattle.cu_model.specs.Edits.{IsEditInRange}
use Rattle.cu_edits.specs.Settling.{numbers_of}
use Rattle.cu_interval.specs.declared.ways.TouchedEdge.{TouchedEdge}
use Rattle.cu_interval.specs.Hierarchies.{IsHierarchy}
use Rattle.cu_interval.specs.Replacing.{hierarchy_with}
use Rattle.cu_resettled.specs.ResettlingAll.{NumbersTouchedBySome}
use Rattle.cu_resettled.proofs.TouchedBySome.{numbers_of_one}
use Rattle.cu_pack.specs.Checks.{Spells, sealed}
use Rattle.cu_router.proofs.edit_room.repack_held.Goals as goal

pub repacked-requires-clause-edits : goal.repacked-requires-clause-edits
repacked-requires-clause-edits c = subst (IsEditInRange c.args.held.now.network) (sym c.in_ok-touched.ensures.edit) c.requires.range

pub repacked-requires-clause-touched : goal.repacked-requires-clause-touched
repacked-requires-clause-touched c =
    let held = c.args.held.now in
    let one = (numbers_of_one held c.args.edit (numbers_of c.in_ok-touched.touched.lists.items)).0 c.in_ok-touched.ensures.touched in
    subst (λ (e : Edit). NumbersTouchedBySome held (e ∷ []) (numbers_of c.as_slice.result.now)) (sym c.in_ok-touched.ensures.edit)
    (subst (λ (lists : List TouchedEdge). NumbersTouchedBySome held (c.args.edit ∷ []) (numbers_of lists)) (sym c.as_slice.ensures.value) one)

pub repacked-requires-clause-sound : goal.repacked-requires-clause-sound
repacked-requires-clause-sound c =
    let held = c.args.held.now in
    subst (λ (e : Edit). IsHierarchy (hierarchy_with held e c.as_slice.result.now)) (sym c.in_ok-touched.ensures.edit)
    (subst (λ (lists : List TouchedEdge). IsHierarchy (hierarchy_with held c.args.edit lists)) (sym c.as_slice.ensures.value) c.in_ok-touched.ensures.sound)

pub returns-clause-spelled : goal.returns-clause-spelled
returns-clause-spelled c =
    let held = c.args.held.now in
    let edit = c.args.edit in
    let bytes = sealed c.in_ok-bytes.bytes.items in
    let spelled = subst (λ (e : Edit). Spells bytes (hierarchy_with held e c.as_slice.result.now)) c.in_ok-touched.ensures.edit c.in_ok-bytes.ensures.spelled in
    subst (λ (lists : List TouchedEdge). Spells bytes (hierarchy_with held edit lists)) c.as_slice.ensures.value spelled
