-- The edges up from one rank after the other.
use Rattle.std.proofs.Common.{◌≡◌, ◌<◌, ◌+◌, ℕ, List, [], ◌∷◌, Some, refl, subst, arith, length, get_or}
use Rattle.std.specs.Prelude.{slice_get}
use Rattle.std.proofs.lemmas.Option.{slice_get-get_or, slice_get_within}
use Rattle.cu_chordal.specs.declared.graph.Ends.{Ends}
use Rattle.cu_chordal.specs.Graphs.{ChordalValue, IsChordal, NumbersEdges, first_edge_of, up_of}
use Rattle.cu_chordal.proofs.Tables.{first_all}
use Rattle.cu_chordal.proofs.Grouping.{zero_step}
use Rattle.cu_customize.specs.declared.triangles.Triangle.{Triangle}
use Rattle.cu_customize.specs.Steps.Triangles.{HoldsTriangles}
use Rattle.cu_customize.specs.Triangles.{AreTriangles, AreTrianglesOf}

pub first_zero : (edges : List Ends) → first_edge_of edges 0 ≡ 0
first_zero [] = refl
first_zero (e ∷ es) = zero_step e.low (first_edge_of es 0) (first_zero es)

pub first_last : (graph : ChordalValue) → IsChordal graph → first_edge_of graph.edges graph.ranks ≡ length graph.edges
first_last graph is = first_all graph.edges graph.ranks (λ k d h. let range = is.in_range k d h in let low = range.0 in let high = range.1 in omega (arith, low, high))

-- the group at a place is that of the edge to the higher neighbour there
pub group_here : (edges : List Ends) (rank first place : ℕ) (groups : List (List Triangle)) (group : List Triangle) → NumbersEdges edges rank first → HoldsTriangles edges rank groups
    → place < length (up_of edges rank) → slice_get groups place ≡ Some group → (first + place < length edges) × AreTrianglesOf edges (first + place) group
group_here edges rank first place groups group numbers holds inside there =
    let high = get_or (up_of edges rank) place 0 in
    let at : slice_get (up_of edges rank) place ≡ Some high = slice_get-get_or (up_of edges rank) place 0 inside in
    let edge = numbers place high at in
    let (found, found_there, are) = holds place high at in
    let same : found ≡ group = cc (found_there, there) in (
      slice_get_within edges (first + place) (record { low = rank; high = high }) edge,
      λ ends is.
          let ends_are : record { low = rank; high = high } ≡ ends = cc (edge, is) in
          subst (λ (e : Ends). AreTriangles edges e.low e.high group) ends_are (subst (λ (g : List Triangle). AreTriangles edges rank high g) same are),
    )

-- it is there
pub group_there : (edges : List Ends) (rank place : ℕ) (groups : List (List Triangle)) → HoldsTriangles edges rank groups → place < length (up_of edges rank) → place < length groups
group_there edges rank place groups holds inside =
    let (found, found_there, are) = holds place (get_or (up_of edges rank) place 0) (slice_get-get_or (up_of edges rank) place 0 inside) in
    slice_get_within groups place found found_there
