-- Which list is the first that is wrong: edge by edge, upwards before downwards.
use Rattle.std.specs.Prelude.{ℕ, suc, List, Option, Some, None, ◌≤◌, ◌<◌}
use Rattle.cu_interval.specs.declared.ways.Dir.{Dir}
use Rattle.cu_interval.specs.declared.ways.Dir.TheVariants.{Up, Down}
use Rattle.cu_interval.specs.Hierarchies.{list_number}
use Rattle.cu_pack.specs.Checks.{AreEntriesWrong}
use Rattle.cu_pack.specs.Reading.{edge_start}

abbrev pub number_of_list : (ℕ × Dir) → ℕ
number_of_list (edge, dir) = list_number edge dir

-- the list of an edge in a direction is wrong
abbrev pub IsWrongWay : List ℕ → ℕ → Dir → Type 0
IsWrongWay bytes edge dir = AreEntriesWrong bytes (list_number edge dir) edge dir

-- neither list of an edge is wrong
abbrev pub AreBothRight : List ℕ → ℕ → Type 0
AreBothRight bytes edge = (dir : Dir) → IsWrongWay bytes edge dir → ⊥

-- the first direction in which the list of an edge is wrong
abbrev pub IsFirstDir : List ℕ → ℕ → Dir → Type 0
IsFirstDir bytes edge Up = IsWrongWay bytes edge Up
IsFirstDir bytes edge Down = (IsWrongWay bytes edge Up → ⊥) × IsWrongWay bytes edge Down

abbrev pub FindsDir : List ℕ → ℕ → Option Dir → Type 0
FindsDir bytes edge None = AreBothRight bytes edge
FindsDir bytes edge (Some dir) = IsFirstDir bytes edge dir

-- the first list that is wrong among those of the edges from a rank upwards
abbrev pub FindsFirstOf : List ℕ → ℕ → Option (ℕ × Dir) → Type 0
FindsFirstOf bytes low None = (edge : ℕ) → edge_start bytes low ≤ edge → edge < edge_start bytes (suc low) → AreBothRight bytes edge
FindsFirstOf bytes low (Some (edge, dir)) =
    (edge_start bytes low ≤ edge) × (edge < edge_start bytes (suc low)) × IsFirstDir bytes edge dir
    × ((before : ℕ) → edge_start bytes low ≤ before → before < edge → AreBothRight bytes before)
