-- Plain functions of settled lists, taken from packed runs or rebuilt.
use Rattle.std.specs.Prelude.{ℕ, List, Option, Some, None, ◌≡◌, ◌*◌, ◌⊎◌, length, slice_get}
use Rattle.std.specs.List.{Contains}
use Rattle.cu_arrival.specs.declared.runs.Run.{Run}
use Rattle.cu_arrival.specs.Runs.{IsArrivalFunction, arrival_value}
use Rattle.cu_interval.specs.declared.ways.Dir.{Dir}
use Rattle.cu_interval.specs.declared.ways.TouchedEdge.{TouchedEdge}
use Rattle.cu_interval.specs.Hierarchies.{HierarchyValue}
use Rattle.cu_unpack.specs.Rebuilds.{IsRebuiltFunction, Keeps}
use Rattle.cu_edits.specs.declared.settler_state.PlainState.{PlainState}
use Rattle.cu_edits.specs.declared.edge_functions.EdgeFunctions.{EdgeFunctions}
use Rattle.cu_edits.specs.Settling.{numbers_of}
use Rattle.cu_edits.specs.Steps.Known.{function_in}
use Rattle.cu_edits.specs.Steps.Moving.{IsMovedTo, IsUnmoved, MovedValue}

-- an arrival function that arrives when packed runs do; none where these are none
abbrev pub SaysSame : Option (List Run) → Option (List Run) → Type 0
SaysSame None None = Unit {0}
SaysSame (Some packed) (Some runs) = IsArrivalFunction runs × ((t : ℕ) → arrival_value runs t ≡ arrival_value packed t)
SaysSame None (Some runs) = ⊥
SaysSame (Some packed) None = ⊥

-- the function of a list after an edit: of one that stands the rebuilt one of the hierarchy before, of one that was moved what packed runs say
abbrev pub SaysList : HierarchyValue → MovedValue → ℕ → Dir → Option (List Run) → Type 0
SaysList h moved edge dir function = (IsUnmoved moved edge dir × IsRebuiltFunction h edge dir function)
    ⊎ ((packed : Option (List Run)) × IsMovedTo moved edge dir packed × SaysSame packed function)

-- so it is of an edge, in both directions
abbrev pub SayLists : HierarchyValue → MovedValue → ℕ → EdgeFunctions → Type 0
SayLists h moved edge functions = (dir : Dir) → SaysList h moved edge dir (function_in functions dir)

-- the functions of these edges are known, and nothing else
pub record ArePlainOf (h : HierarchyValue) (settled : List TouchedEdge) (moved : MovedValue) (held : PlainState) : Type 0 where
  pub size : length held.rebuilt.kept ≡ 2 * length h.edges
  pub keeps : Keeps h held.rebuilt
  pub count : length held.known.items ≡ length h.edges
  pub functions : (edge : ℕ) (functions : EdgeFunctions) → slice_get held.known.items edge ≡ Some (Some functions) → Contains (numbers_of settled) edge × SayLists h moved edge functions
  pub known : (edge : ℕ) → Contains (numbers_of settled) edge → slice_get held.known.items edge ≡ Some None → ⊥
