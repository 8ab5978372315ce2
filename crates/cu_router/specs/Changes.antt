-- Bytes that may take the place of those that are held, and which edges are known to be customized.
use Rattle.std.specs.Prelude.{ℕ, Bool, List, ◌≡◌, length}
use Rattle.cu_model.specs.declared.roads.Edit.{Edit}
use Rattle.cu_edits.specs.Customized.{AreCustomized}
use Rattle.cu_edits.specs.Settling.{numbers_of}
use Rattle.cu_interval.specs.declared.ways.TouchedEdge.{TouchedEdge}
use Rattle.cu_interval.specs.Hierarchies.{HierarchyValue}
use Rattle.cu_resettled.specs.ResettlingAll.{IsResettledAll, NumbersTouchedBySome, hierarchy_with_all}
use Rattle.cu_pack.specs.Checks.{Spells, sealed}

-- these bytes are, but for their digest, the packed file of the hierarchy after some edits, which together resettle the lists of these edges
pub record IsChange (h : HierarchyValue) (bytes : List ℕ) (lists : List TouchedEdge) : Type 0 where
  pub edits : List Edit
  pub spelled : Spells (sealed bytes) (hierarchy_with_all h edits lists)
  pub resettled : IsResettledAll h edits (hierarchy_with_all h edits lists)
  pub touched : NumbersTouchedBySome h edits (numbers_of lists)

-- marks say of each edge of a hierarchy whether it is known to be customized
pub record KnowsCustomized (h : HierarchyValue) (marks : List Bool) : Type 0 where
  pub long : length marks ≡ length h.edges
  pub customized : AreCustomized h marks
