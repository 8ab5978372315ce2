-- The lower triangles of an edge: which they are, by rising middle.
use Rattle.std.specs.Prelude.{ℕ, List, Some, ◌≡◌, All, map, slice_get}
use Rattle.std.specs.List.{Contains}
use Rattle.std.specs.List.Sorted.{IsStrictlyIncreasing}
use Rattle.cu_chordal.specs.declared.graph.Ends.{Ends}
use Rattle.cu_chordal.specs.Graphs.{HasEdge}
use Rattle.cu_customize.specs.declared.triangles.Triangle.{Triangle}

abbrev pub middles_in : List Triangle → List ℕ
middles_in triangles = map (λ (triangle : Triangle). triangle.middle) triangles

-- a triangle of the edge between two ranks: its edges lead from its middle to both
pub record IsTriangle (edges : List Ends) (low high : ℕ) (triangle : Triangle) : Type 0 where
  pub to_low : slice_get edges triangle.to_low ≡ Some (record { low = triangle.middle; high = low })
  pub to_high : slice_get edges triangle.to_high ≡ Some (record { low = triangle.middle; high = high })

-- exactly the lower triangles of the edge between two ranks, by rising middle
pub record AreTriangles (edges : List Ends) (low high : ℕ) (triangles : List Triangle) : Type 0 where
  pub each : All (IsTriangle edges low high) triangles
  pub rising : IsStrictlyIncreasing (middles_in triangles)
  pub whole : (middle : ℕ) → HasEdge edges middle low → HasEdge edges middle high → Contains (middles_in triangles) middle

-- those of the edge with a number
abbrev pub AreTrianglesOf : List Ends → ℕ → List Triangle → Type 0
AreTrianglesOf edges edge triangles = (ends : Ends) → slice_get edges edge ≡ Some ends → AreTriangles edges ends.low ends.high triangles
