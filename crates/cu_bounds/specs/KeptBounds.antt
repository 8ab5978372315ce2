-- Numbers that are kept for the lists of a hierarchy, and which of them are its least bounds.
use Rattle.std.specs.Prelude.{ℕ, List, [], ◌∷◌, Option, Some, None, ◌≡◌, ◌≢◌, ◌<◌, flat_map, length}
use Rattle.std.specs.List.{Contains, range_with_len}
use Rattle.cu_interval.specs.declared.shortcuts.Shortcut.{Shortcut}
use Rattle.cu_interval.specs.declared.ways.Dir.{Dir}
use Rattle.cu_interval.specs.declared.ways.TouchedEdge.{TouchedEdge}
use Rattle.cu_interval.specs.declared.ways.Dir.TheVariants.{Up, Down}
use Rattle.cu_interval.specs.Hierarchies.{HierarchyValue, list_number, list_of}
use Rattle.cu_interval.specs.LeastBounds.{least_bound}
use Rattle.cu_interval.specs.Shortcuts.{number_of}

-- the least bound of each list, by its number
abbrev pub bounds_of : HierarchyValue → List ℕ
bounds_of h = flat_map (λ edge. least_bound h edge Up ∷ least_bound h edge Down ∷ []) (range_with_len 0 (length h.edges))

-- the number that is kept for a list isn't its least bound
abbrev pub IsWrongBound : HierarchyValue → (ℕ → ℕ) → ℕ → Dir → Type 0
IsWrongBound h kept edge dir = (edge < length h.edges) × (kept (list_number edge dir) ≢ least_bound h edge dir)

-- for each list of a lower number its least bound is kept
abbrev pub AreRightBelow : HierarchyValue → (ℕ → ℕ) → ℕ → Type 0
AreRightBelow h kept count =
    (edge : ℕ) (dir : Dir) → edge < length h.edges → list_number edge dir < count → kept (list_number edge dir) ≡ least_bound h edge dir

-- the first list for which another number is kept than its least bound; none where there is no such list
abbrev pub FindsFirstWrong : HierarchyValue → (ℕ → ℕ) → Option Shortcut → Type 0
FindsFirstWrong h kept None = (edge : ℕ) (dir : Dir) → edge < length h.edges → kept (list_number edge dir) ≡ least_bound h edge dir
FindsFirstWrong h kept (Some shortcut) = IsWrongBound h kept shortcut.edge shortcut.dir × AreRightBelow h kept (number_of shortcut)

-- for each list of an edge that isn't among these its least bound is kept
abbrev pub AreRightBut : HierarchyValue → (ℕ → ℕ) → List ℕ → Type 0
AreRightBut h kept edges =
    (edge : ℕ) (dir : Dir) → edge < length h.edges → (Contains edges edge → ⊥) → kept (list_number edge dir) ≡ least_bound h edge dir

-- each list of an edge that isn't among these has the same least bound in another hierarchy
abbrev pub BoundsStayBut : HierarchyValue → HierarchyValue → List ℕ → Type 0
BoundsStayBut h other edges =
    (edge : ℕ) (dir : Dir) → edge < length h.edges → (Contains edges edge → ⊥) → least_bound h edge dir ≡ least_bound other edge dir

-- an edge of a hierarchy with both of its lists, as they are there
pub record HasListsOf (h : HierarchyValue) (touched : TouchedEdge) : Type 0 where
  pub edge : touched.edge < length h.edges
  pub up : touched.up ≡ list_of h touched.edge Up
  pub down : touched.down ≡ list_of h touched.edge Down
