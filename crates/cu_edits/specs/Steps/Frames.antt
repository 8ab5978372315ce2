-- Two hierarchies that agree on some lists, and on all that these lead over.
use Rattle.std.specs.Prelude.{ℕ, List, [], ◌∷◌, ◌≡◌, ◌<◌, All, Some, slice_get}
use Rattle.cu_model.specs.Roads.{drive}
use Rattle.cu_chordal.specs.declared.graph.Ends.{Ends}
use Rattle.cu_interval.specs.declared.ways.Dir.{Dir}
use Rattle.cu_interval.specs.declared.ways.Way.{Way}
use Rattle.cu_interval.specs.declared.ways.Way.TheVariants.{Road, Via}
use Rattle.cu_interval.specs.declared.ways.Entry.{Entry}
use Rattle.cu_interval.specs.Hierarchies.{HierarchyValue, end_of, list_from, start_of}

-- an edge in a direction that leads from one rank to another
pub record LeadsOver (edges : List Ends) (edge : ℕ) (dir : Dir) (u v : ℕ) : Type 0 where
  pub ends : Ends
  pub at : slice_get edges edge ≡ Some ends
  pub from : start_of ends dir ≡ u
  pub to : end_of ends dir ≡ v

-- the pairs of ranks that such edges join
abbrev pub PairOf : List Ends → (ℕ → Type 0) → ℕ → ℕ → Type 0
PairOf edges Good u v = (edge : ℕ) × (dir : Dir) × LeadsOver edges edge dir u v × Good edge

-- a way has the same value in both: its road is driven alike, or its halves, both of lower edges, are among the pairs
abbrev pub IsFramed : HierarchyValue → HierarchyValue → (ℕ → ℕ → Type 0) → ℕ → ℕ → Way → Type 0
IsFramed a b Pair u v (Road road) = (t : ℕ) → drive a.network (road ∷ []) t ≡ drive b.network (road ∷ []) t
IsFramed a b Pair u v (Via m) = (m < u) × (m < v) × Pair u m × Pair m v

-- both hierarchies have the same lists between these pairs of ranks, and their ways lead to none but such pairs
pub record IsFrame (a b : HierarchyValue) (Pair : ℕ → ℕ → Type 0) : Type 0 where
  pub lists : (u v : ℕ) → Pair u v → list_from a u v ≡ list_from b u v
  pub ways : (u v : ℕ) → Pair u v → All (λ (entry : Entry). IsFramed a b Pair u v entry.way) (list_from a u v)
