-- Functions of lists that were rebuilt for a day.
use Rattle.std.specs.Prelude.{◌≡◌, ◌*◌, length}
use Rattle.cu_interval.specs.Hierarchies.{HierarchyValue}
use Rattle.cu_unpack.specs.Rebuilds.{Keeps, RebuiltValue}

-- they are of lists of a hierarchy, with a place for each
pub record AreRebuiltOf (h : HierarchyValue) (rebuilt : RebuiltValue) : Type 0 where
  pub size : length rebuilt.kept ≡ 2 * length h.edges
  pub keeps : Keeps h rebuilt
