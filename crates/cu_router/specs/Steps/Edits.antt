-- What is kept of a file after edits until it is written.
use Rattle.std.specs.Prelude.{ℕ, List, ◌≡◌, length}
use Rattle.cu_bounds.specs.KeptBounds.{bounds_of}
use Rattle.cu_edits.specs.EditLists.{EditListValue, FitsList}
use Rattle.cu_edits.specs.Settling.{numbers_of}
use Rattle.cu_interval.specs.declared.ways.TouchedEdge.{TouchedEdge}
use Rattle.cu_interval.specs.Hierarchies.{HierarchyValue, IsHierarchy}
use Rattle.cu_pack.specs.Spelling.{spelling}
use Rattle.cu_resettled.specs.ResettlingAll.{NumbersTouchedBySome, hierarchy_with_all}

-- edits that fit a hierarchy touch these edges, whose lists are these after them; these are the least bounds then, and the length of the file
pub record IsEditedFile (h : HierarchyValue) (edits : EditListValue) (lists : List TouchedEdge) (bounds : List ℕ) (size : ℕ) : Type 0 where
  pub fits : FitsList h edits
  pub touched : NumbersTouchedBySome h edits.edits (numbers_of lists)
  pub sound : IsHierarchy (hierarchy_with_all h edits.edits lists)
  pub bounded : bounds ≡ bounds_of (hierarchy_with_all h edits.edits lists)
  pub long : size ≡ length (spelling (hierarchy_with_all h edits.edits lists))
