-- The edges that a sweep from or to a rank may use.
use Rattle.std.specs.Prelude.{ℕ, List, Option, map}
use Rattle.std.specs.List.{Contains, range_with_len}
use Rattle.cu_chordal.specs.Graphs.{ChordalValue, HasEdge, parent_of}
use Rattle.cu_elimtree.specs.Trees.{ancestors_of}

-- the parent of each rank of a graph
abbrev pub parents_in : ChordalValue → List (Option ℕ)
parents_in graph = map (parent_of graph.edges) (range_with_len 0 graph.ranks)

-- a rank and all that come above it in the graph's tree, rising
abbrev pub ancestors_in : ChordalValue → ℕ → List ℕ
ancestors_in graph rank = ancestors_of (parents_in graph) rank

-- a sweep arc of a rank: the edge between one of its ancestors and a higher neighbour of that one
abbrev pub IsSweepArc : ChordalValue → ℕ → ℕ → ℕ → Type 0
IsSweepArc graph rank low high = Contains (ancestors_in graph rank) low × HasEdge graph.edges low high
