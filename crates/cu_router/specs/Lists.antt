-- What is known of the lists of a hierarchy beside its bytes.
use Rattle.std.specs.Prelude.{◌≡◌, ◌*◌, length}
use Rattle.cu_interval.specs.Hierarchies.{HierarchyValue}
use Rattle.cu_sequences.specs.Kept.{AreSequences}
use Rattle.cu_store.specs.Known.{Knows}
use Rattle.cu_router.specs.declared.known_lists.KnownLists.{KnownLists}

-- there is a place for each list, and what is known is so of this hierarchy
pub record FitsLists (h : HierarchyValue) (lists : KnownLists) : Type 0 where
  pub size : length lists.store.known ≡ 2 * length h.edges
  pub knows : Knows h lists.store.known
  pub sequences : AreSequences h lists.sequences
