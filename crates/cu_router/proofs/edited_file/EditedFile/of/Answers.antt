use Rattle.std.proofs.Common.{List, subst, sym}
use Rattle.cu_edits.specs.Settling.{numbers_of}
use Rattle.cu_interval.specs.declared.ways.TouchedEdge.{TouchedEdge}
use Rattle.cu_interval.specs.Hierarchies.{IsHierarchy}
use Rattle.cu_resettled.specs.ResettlingAll.{NumbersTouchedBySome, hierarchy_with_all}
use Rattle.cu_router.proofs.edited_file.EditedFile.of.Goals as goal

pub bounds_and_length-requires-clause-edits : goal.bounds_and_length-requires-clause-edits
bounds_and_length-requires-clause-edits c = c.requires.edits.network

pub bounds_and_length-requires-clause-touched : goal.bounds_and_length-requires-clause-touched
bounds_and_length-requires-clause-touched c =
    subst (λ (lists : List TouchedEdge). NumbersTouchedBySome c.args.held.now c.args.edits.edits (numbers_of lists)) (sym c.as_slice.ensures.value) c.requires.touched

pub bounds_and_length-requires-clause-sound : goal.bounds_and_length-requires-clause-sound
bounds_and_length-requires-clause-sound c =
    subst (λ (lists : List TouchedEdge). IsHierarchy (hierarchy_with_all c.args.held.now c.args.edits.edits lists)) (sym c.as_slice.ensures.value) c.requires.sound
