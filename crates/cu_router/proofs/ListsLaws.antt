-- What is known of lists beside a held file, after an edit.
use Rattle.std.proofs.Common.{◌≡◌, ◌<◌, ◌+◌, ◌*◌, List, Option, arith, length}
use Rattle.std.specs.Prelude.{All}
use Rattle.cu_model.specs.declared.roads.Edit.{Edit}
use Rattle.cu_edits.specs.Settling.{numbers_of}
use Rattle.cu_interval.specs.declared.ways.TouchedEdge.{TouchedEdge}
use Rattle.cu_interval.specs.Hierarchies.{HierarchyValue}
use Rattle.cu_resettled.specs.ResettlingAll.{NumbersTouchedBySome}
use Rattle.cu_store.specs.Known.{KnownFunction}
use Rattle.cu_router.proofs.HeldLaws.{touched_below}

-- there are places for the lists of edges that some edit touches
pub lists_below : (h : HierarchyValue) (edits : List Edit) (lists : List TouchedEdge) (known : List (Option (Option KnownFunction))) → NumbersTouchedBySome h edits (numbers_of lists)
    → length known ≡ 2 * length h.edges → All (λ (touched : TouchedEdge). 2 * touched.edge + 1 < length known) lists
lists_below h edits lists known touched size k d inside =
    let below = touched_below h edits lists touched k d inside in
    omega (arith, below, size)
