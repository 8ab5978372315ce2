-- There is one list of the parents of a graph's ranks.
use Rattle.std.proofs.Common.{◌≡◌, ◌<◌, ℕ, List, Option, sym, ◌∙◌, ap, arith}
use Rattle.std.proofs.lemmas.List.{same_lists}
use Rattle.std.proofs.lemmas.List.FromFn.{get_or-map-range_with_len, length-map-range_with_len}
use Rattle.std.proofs.lemmas.Option.{get_or_from_slice_get}
use Rattle.cu_chordal.specs.Graphs.{ChordalValue, parent_of}
use Rattle.cu_elimtree.specs.Trees.{IsTreeOf, ancestors_of}
use Rattle.cu_elimtree.specs.SweepArcs.{ancestors_in, parents_in}

-- the parents of a tree are those of its graph
pub tree_unique : (graph : ChordalValue) (parents : List (Option ℕ)) → IsTreeOf graph parents → parents ≡ parents_in graph
tree_unique graph parents f =
    let long = length-map-range_with_len (parent_of graph.edges) 0 graph.ranks in
    same_lists parents (parents_in graph) (omega (arith, f.long, long))
    (λ k d lt.
    let below : k < graph.ranks = omega (arith, lt, f.long) in
    get_or_from_slice_get parents k (parent_of graph.edges k) d (f.each k below) ∙ sym (get_or-map-range_with_len (parent_of graph.edges) 0 graph.ranks k k d below (omega arith)))

-- and so are the ancestors of each rank
pub ancestors_unique : (graph : ChordalValue) (parents : List (Option ℕ)) (rank : ℕ) → IsTreeOf graph parents → ancestors_of parents rank ≡ ancestors_in graph rank
ancestors_unique graph parents rank f = ap (λ ps. ancestors_of ps rank) (tree_unique graph parents f)
