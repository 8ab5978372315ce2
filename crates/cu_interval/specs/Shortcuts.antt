-- Shortcuts: their lists, their middles and their halves.
use Rattle.std.specs.Prelude.{ℕ, List, Option, Some, None, ◌≡◌, ◌*◌, slice_get}
use Rattle.cu_chordal.specs.declared.graph.Ends.{Ends}
use Rattle.cu_chordal.specs.Graphs.{HasEdge}
use Rattle.cu_interval.specs.declared.shortcuts.Shortcut.{Shortcut}
use Rattle.cu_interval.specs.declared.ways.Dir.{Dir}
use Rattle.cu_interval.specs.declared.ways.Dir.TheVariants.{Up, Down}
use Rattle.cu_interval.specs.declared.ways.Entry.{Entry}
use Rattle.cu_interval.specs.Hierarchies.{HierarchyValue, list_number, list_of, start_of, end_of}

-- the number of a shortcut's list, and the list
abbrev pub number_of : Shortcut → ℕ
number_of shortcut = list_number shortcut.edge shortcut.dir

abbrev pub ways_of : HierarchyValue → Shortcut → List Entry
ways_of h shortcut = list_of h shortcut.edge shortcut.dir

-- a middle that an edge joins to both ends of this one
abbrev pub IsMiddle : HierarchyValue → ℕ → Dir → ℕ → Type 0
IsMiddle h edge dir middle =
    (ends : Ends) × (slice_get h.edges edge ≡ Some ends) × HasEdge h.edges middle (start_of ends dir) × HasEdge h.edges middle (end_of ends dir)

-- the halves of a shortcut at a middle: downwards to it, and upwards from it
pub record AreHalves (h : HierarchyValue) (whole : Shortcut) (middle : ℕ) (first second : Shortcut) : Type 0 where
  pub ends : Ends
  pub at : slice_get h.edges whole.edge ≡ Some ends
  pub down : first.dir ≡ Down
  pub to : slice_get h.edges first.edge ≡ Some (record { low = middle; high = start_of ends whole.dir })
  pub up : second.dir ≡ Up
  pub onward : slice_get h.edges second.edge ≡ Some (record { low = middle; high = end_of ends whole.dir })

-- the edges of both halves at a middle, of an edge with these ends: its first half is the one's list downwards, its second half the other's
-- upwards
pub record AreHalfEdges (edges : List Ends) (ends : Ends) (dir : Dir) (middle first second : ℕ) : Type 0 where
  pub to : slice_get edges first ≡ Some (record { low = middle; high = start_of ends dir })
  pub on : slice_get edges second ≡ Some (record { low = middle; high = end_of ends dir })

-- both edges, or none where one of them isn't there
abbrev pub FindsHalves : List Ends → Ends → Dir → ℕ → Option (ℕ × ℕ) → Type 0
FindsHalves edges ends dir middle None = (first second : ℕ) → AreHalfEdges edges ends dir middle first second → ⊥
FindsHalves edges ends dir middle (Some (first, second)) = AreHalfEdges edges ends dir middle first second
