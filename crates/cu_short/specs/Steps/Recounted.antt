-- Lists whose most roads are counted anew, in their place.
use Rattle.std.specs.Prelude.{ℕ, Bool, List, Some, true, false, ◌≡◌, slice_get, slice_set}
use Rattle.cu_chordal.specs.declared.graph.Ends.{Ends}
use Rattle.cu_interval.specs.declared.shortcuts.Shortcut.{Shortcut}
use Rattle.cu_interval.specs.declared.ways.Dir.TheVariants.{Up, Down}
use Rattle.cu_interval.specs.Hierarchies.{HierarchyValue}
use Rattle.cu_interval.specs.Shortcuts.{number_of}
use Rattle.cu_short.specs.Counts.{IsCounted}
use Rattle.cu_short.specs.Shortness.{IsShort}

-- the most roads of a list stand in its place, and all else is as before
pub record IsRecounted (h : HierarchyValue) (old new : List ℕ) (shortcut : Shortcut) : Type 0 where
  pub most : ℕ
  pub set : new ≡ slice_set old (number_of shortcut) most
  pub counted : (ends : Ends) → slice_get h.edges shortcut.edge ≡ Some ends → IsCounted h most shortcut.dir ends

-- those of both lists of an edge
pub record AreBothRecounted (h : HierarchyValue) (old new : List ℕ) (edge : ℕ) : Type 0 where
  pub middle : List ℕ
  pub up : IsRecounted h old middle (record { edge = edge; dir = Up })
  pub down : IsRecounted h middle new (record { edge = edge; dir = Down })

-- a list is recounted, or else not all lists are short
abbrev pub RecountsList : HierarchyValue → List ℕ → List ℕ → Shortcut → Bool → Type 0
RecountsList h old new shortcut true = IsRecounted h old new shortcut
RecountsList h old new shortcut false = IsShort h → ⊥

-- both lists of an edge are, or else not all lists are short
abbrev pub RecountsEdge : HierarchyValue → List ℕ → List ℕ → ℕ → Bool → Type 0
RecountsEdge h old new edge true = AreBothRecounted h old new edge
RecountsEdge h old new edge false = IsShort h → ⊥
