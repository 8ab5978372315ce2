-- What stands beside the packed bytes of a hierarchy.
use Rattle.std.specs.Prelude.{ℕ, Bool, true, List, Option, ◌≡◌}
use Rattle.cu_chordal.specs.Graphs.{ChordalValue}
use Rattle.cu_elimtree.specs.SweepArcs.{parents_in}
use Rattle.cu_interval.specs.Hierarchies.{HierarchyValue, IsBuilt, graph_of}
use Rattle.cu_pack.specs.Checks.{Spells, sealed}
use Rattle.cu_short.specs.Counts.{AreRoadCounts, AreRoadCountsBut}
use Rattle.cu_short.specs.Shortness.{IsShort}
use Rattle.cu_router.specs.declared.held_file.Known.{Known}
use Rattle.cu_router.specs.declared.held_file.Known.TheVariants.{Built, Short, Nothing}
use Rattle.cu_router.specs.Changes.{KnowsCustomized}

-- The bytes are a hierarchy's packed file, or would be with their digest; beside them stand its graph, its tree and its marks.
pub record HoldsFile (h : HierarchyValue) (bytes : List ℕ) (has_digest : Bool) (graph : ChordalValue) (parents : List (Option ℕ)) (marks : List Bool) : Type 0 where
  pub spelled : Spells (sealed bytes) h
  pub digest : has_digest ≡ true → sealed bytes ≡ bytes
  pub chordal : graph ≡ graph_of h
  pub tree : parents ≡ parents_in (graph_of h)
  pub knows : KnowsCustomized h marks

-- what is known of a hierarchy's walks is so
abbrev pub IsKnown : HierarchyValue → Known → Type 0
IsKnown h Built = IsBuilt h
IsKnown h (Short roads) = AreRoadCounts h roads
IsKnown h Nothing = Unit {0}

-- it is so but for the lists of these edges
abbrev pub IsKnownBut : HierarchyValue → Known → List ℕ → Type 0
IsKnownBut h Built edges = IsBuilt h
IsKnownBut h (Short roads) edges = AreRoadCountsBut h roads edges
IsKnownBut h Nothing edges = Unit {0}

-- nothing is known only of a hierarchy that isn't short
abbrev pub TellsShort : HierarchyValue → Known → Type 0
TellsShort h known = known ≡ Nothing → IsShort h → ⊥

-- so it is after an edit, where something was known before
abbrev pub StaysLed : HierarchyValue → Known → Known → Type 0
StaysLed h Nothing new = new ≡ Nothing
StaysLed h old new = TellsShort h new
