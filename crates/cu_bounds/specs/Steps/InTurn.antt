-- Lists that are taken in turn, by rising number.
use Rattle.std.specs.Prelude.{ℕ, List, Option, Some, None, ◌≡◌, ◌≤◌, length, slice_get, slice_index}
use Rattle.cu_chordal.specs.declared.graph.Ends.{Ends}
use Rattle.cu_interval.specs.declared.shortcuts.Shortcut.{Shortcut}
use Rattle.cu_interval.specs.declared.ways.Way.{Way}
use Rattle.cu_interval.specs.Hierarchies.{HierarchyValue, IsWellFormed, end_of, start_of}
use Rattle.cu_interval.specs.Shortcuts.{number_of}
use Rattle.cu_bounds.specs.KeptBounds.{AreRightBelow, IsWrongBound}

-- a way that is well formed between the ends of a shortcut
abbrev pub IsWayOf : HierarchyValue → Shortcut → Way → Type 0
IsWayOf h shortcut way =
    (ends : Ends) × (slice_get h.edges shortcut.edge ≡ Some ends) × IsWellFormed h (start_of ends shortcut.dir) (end_of ends shortcut.dir) way

-- a finder of halves knows a hierarchy, and has come no further than to an edge
pub record IsFinderUpTo (h : HierarchyValue) (edge : ℕ) (known : HierarchyValue) (reached : ℕ) : Type 0 where
  pub same : known ≡ h
  pub turn : reached ≤ edge

-- the least bounds of the first so many lists
pub record AreFirstBounds (h : HierarchyValue) (bounds : List ℕ) (count : ℕ) : Type 0 where
  pub long : length bounds ≡ count
  pub right : AreRightBelow h (slice_index bounds) count

-- the first wrong one of the first so many lists; none where there is no such list
abbrev pub FindsWrongBelow : HierarchyValue → (ℕ → ℕ) → ℕ → Option Shortcut → Type 0
FindsWrongBelow h kept count None = AreRightBelow h kept count
FindsWrongBelow h kept count (Some shortcut) = IsWrongBound h kept shortcut.edge shortcut.dir × AreRightBelow h kept (number_of shortcut)
