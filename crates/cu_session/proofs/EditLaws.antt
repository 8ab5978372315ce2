-- Edits that were made.
use Rattle.std.proofs.Common.{◌≡◌, ◌++◌, ℕ, Result, Ok, refl, inl, decimal}
use Rattle.std.specs.Prelude.{codes}
use Rattle.cu_model.specs.declared.roads.Edit.{Edit}
use Rattle.cu_interval.specs.Hierarchies.{HierarchyValue}
use Rattle.cu_script.specs.declared.lines.EditRefusal.{EditRefusal}
use Rattle.cu_router.specs.Edited.{IsEdited}
use Rattle.cu_session.specs.Held.{IsHeldDone, IsHeldReplyTo}
use Rattle.cu_session.specs.Questions.{asked_by_edit}

-- the reply to an edit that was made
module _ (old new : HierarchyValue) (edit : Edit) (count : ℕ) (made : IsEdited old edit new count) where
  pub counted : IsHeldDone old edit (codes "done " ++ decimal count) new
  counted = record {
    count = count;
    touches = record { edges = old.edges; listed = made.sound.edges; touched = made.touched; rising = made.numbers.rising; exact = made.numbers.exact; counted = made.count };
    said = refl;
    resettled = made.resettled;
    sound = made.after;
    built = made.built;
  }

  -- to a line of a script
  pub edit_done : (asked : Result Edit EditRefusal) → asked ≡ Ok edit → IsHeldReplyTo old (asked_by_edit asked) (codes "done " ++ decimal count) new
  edit_done asked is = rw is (inl counted)
