use Rattle.std.proofs.Common.{List, subst, sym}
use Rattle.cu_edits.specs.Settling.{numbers_of}
use Rattle.cu_interval.specs.declared.ways.TouchedEdge.{TouchedEdge}
use Rattle.cu_interval.specs.Hierarchies.{IsHierarchy}
use Rattle.cu_resettled.specs.ResettlingAll.{NumbersTouchedBySome, hierarchy_with_all}
use Rattle.cu_pack.specs.Checks.{Spells, sealed}
use Rattle.cu_router.proofs.edit_room.repack_all_held.Goals as goal

pub repacked-requires-clause-edits : goal.repacked-requires-clause-edits
repacked-requires-clause-edits g c = c.requires.edits.network

pub repacked-requires-clause-touched : goal.repacked-requires-clause-touched
repacked-requires-clause-touched g c =
    subst (λ (lists : List TouchedEdge). NumbersTouchedBySome c.args.held.now c.args.edits.now.edits (numbers_of lists)) (sym c.as_slice.ensures.value) c.in_ok-lists.ensures.touched

pub repacked-requires-clause-sound : goal.repacked-requires-clause-sound
repacked-requires-clause-sound g c =
    subst (λ (lists : List TouchedEdge). IsHierarchy (hierarchy_with_all c.args.held.now c.args.edits.now.edits lists)) (sym c.as_slice.ensures.value) c.in_ok-lists.ensures.sound

pub returns-clause-spelled : goal.returns-clause-spelled
returns-clause-spelled g c =
    subst (λ (lists : List TouchedEdge). Spells (sealed c.in_ok-bytes.bytes.items) (hierarchy_with_all c.args.held.now c.args.edits.now.edits lists)) c.as_slice.ensures.value
    c.in_ok-bytes.ensures.spelled
