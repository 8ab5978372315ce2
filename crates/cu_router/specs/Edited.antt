-- What edits make of a hierarchy.
use Rattle.std.specs.Prelude.{ℕ, List, ◌≡◌, length}
use Rattle.cu_model.specs.declared.roads.Edit.{Edit}
use Rattle.cu_interval.specs.Hierarchies.{HierarchyValue, IsBuilt, IsHierarchy}
use Rattle.cu_interval.specs.Resettling.{IsResettled}
use Rattle.cu_interval.specs.Touching.{NumbersTouched}
use Rattle.cu_resettled.specs.ResettlingAll.{IsResettledAll}

-- an edit was made that touches so many edges
pub record IsEdited (old : HierarchyValue) (edit : Edit) (new : HierarchyValue) (touches : ℕ) : Type 0 where
  pub sound : IsHierarchy old
  pub touched : List ℕ
  pub numbers : NumbersTouched old edit touched
  pub count : touches ≡ length touched
  pub resettled : IsResettled old edit new
  pub after : IsHierarchy new
  pub built : IsBuilt old → IsBuilt new

-- edits were made, one after the other
pub record IsEditedAll (old : HierarchyValue) (edits : List Edit) (new : HierarchyValue) : Type 0 where
  pub sound : IsHierarchy old
  pub resettled : IsResettledAll old edits new
  pub after : IsHierarchy new
  pub built : IsBuilt old → IsBuilt new
