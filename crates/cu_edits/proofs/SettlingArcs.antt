-- What settling an edge asks of the roads and of its lower sides.
use Rattle.std.proofs.Common.{◌≡◌, ◌<◌, ◌*◌, ◌∙◌, ℕ, List, Option, Some, ap, sym, subst, arith, inl, inr, length, true}
use Rattle.std.specs.Prelude.{All, slice_get}
use Rattle.std.specs.List.Sorted.{IsStrictlyIncreasing}
use Rattle.std.proofs.lemmas.Option.{slice_get-get_or}
use Rattle.cu_model.specs.declared.roads.Edit.{Edit}
use Rattle.cu_model.specs.Networks.{NetworkValue}
use Rattle.cu_model.specs.Orders.{OrderValue}
use Rattle.cu_model.proofs.RoadLaws.{links_within}
use Rattle.cu_edits.proofs.EditedLists.{arcs_all}
use Rattle.cu_arrival.specs.declared.runs.Run.{Run}
use Rattle.cu_chordal.specs.declared.graph.Ends.{Ends}
use Rattle.cu_chordal.specs.Graphs.{ChordalValue}
use Rattle.cu_chordal.proofs.Members.{all_from_members}
use Rattle.cu_interval.specs.declared.ways.Dir.{Dir}
use Rattle.cu_interval.specs.declared.ways.Dir.TheVariants.{Up, Down}
use Rattle.cu_interval.specs.declared.ways.Entry.{Entry}
use Rattle.cu_interval.specs.declared.ways.TouchedEdge.{TouchedEdge}
use Rattle.cu_interval.specs.EdgeArcs.{AreEdgeArcs}
use Rattle.cu_interval.specs.Hierarchies.{end_of, list_number, start_of}
use Rattle.cu_interval.proofs.Lookups.{number_found}
use Rattle.cu_customize.specs.Functions.{FunctionsState}
use Rattle.cu_customize.specs.Settling.{IsSettledList, IsValueOf, KnowsHalves}
use Rattle.cu_edits.specs.declared.edge_functions.EdgeFunctions.{EdgeFunctions}
use Rattle.cu_edits.specs.Settling.{IsLowerSide, list_in}
use Rattle.cu_edits.specs.Steps.Holding.{IsSettledEdge}
use Rattle.cu_edits.specs.Steps.Known.{HasFunctions, function_in, functions_of, is_known}
use Rattle.cu_edits.specs.Steps.Parts.{FitTogether, PartsValue}
use Rattle.cu_resettled.specs.ResettlingAll.{edited_all}

-- the roads of an edge are roads of the edited network
pub arcs_within : (g : NetworkValue) (o : OrderValue) (edges : List Ends) (lists : List (List ℕ)) (edit : List Edit) (edge : ℕ) (dir : Dir) → AreEdgeArcs g o edges lists → edge < length edges
    → (list : List ℕ) → slice_get lists (list_number edge dir) ≡ Some list → All (λ a. a < length (edited_all g edit).arcs) list
arcs_within g o edges lists edit edge dir are inside list at =
    let ends = slice_get-get_or edges edge (record { low = 0; high = 0 }) inside in
    all_from_members (λ a. a < length (edited_all g edit).arcs) list (λ a c.
    let (u, v, links, from, to) = ((are.each edge dir _ list ends at).exact a).0 c in
    let lt = links_within g a u v links in
    let long = arcs_all g edit in
    omega (arith, lt, long))

-- so they are of a network that is the edited one, by rising number
pub arcs_sound : (g : NetworkValue) (o : OrderValue) (edges : List Ends) (lists : List (List ℕ)) (edit : List Edit) (edge : ℕ) (dir : Dir) → AreEdgeArcs g o edges lists → edge < length edges
    → (after : NetworkValue) → after ≡ edited_all g edit → (list : List ℕ) → slice_get lists (list_number edge dir) ≡ Some list
    → IsStrictlyIncreasing list × All (λ a. a < length after.arcs) list
arcs_sound g o edges lists edit edge dir are inside after same list at =
    let ends = slice_get-get_or edges edge (record { low = 0; high = 0 }) inside in (
      (are.each edge dir _ list ends at).rising,
      subst (λ (n : NetworkValue). All (λ a. a < length n.arcs) list) (sym same) (arcs_within g o edges lists edit edge dir are inside list at),
    )

side_is_known : (known : List (Option EdgeFunctions)) (e : ℕ) → HasFunctions known e → is_known (slice_get known e) ≡ true
side_is_known known e (f, at) = ap is_known at

-- the halves that a list of the edge needs are known
pub halves_known : (edges : List Ends) (g : NetworkValue) (known : List (Option EdgeFunctions)) (edge : ℕ) (dir : Dir) → ((side : ℕ) → IsLowerSide edges edge side → HasFunctions known side)
    → (ends : Ends) → slice_get edges edge ≡ Some ends → KnowsHalves edges (functions_of (record { network = g; known = known })) (start_of ends dir) (end_of ends dir)
halves_known edges g known edge Up sides ends at = λ m to on first second. (
  (λ e found. let (j, is, there) = number_found 0 edges m ends.low e found in
      let same : j ≡ e = omega (arith, is) in
      side_is_known known e (sides e (ends, m, at, first, second, inl (subst (λ (n : ℕ). slice_get edges n ≡ Some (record { low = m; high = ends.low })) same there)))),
  λ e found. let (j, is, there) = number_found 0 edges m ends.high e found in
      let same : j ≡ e = omega (arith, is) in
      side_is_known known e (sides e (ends, m, at, first, second, inr (subst (λ (n : ℕ). slice_get edges n ≡ Some (record { low = m; high = ends.high })) same there))),
)
halves_known edges g known edge Down sides ends at = λ m to on second first. (
  (λ e found. let (j, is, there) = number_found 0 edges m ends.high e found in
      let same : j ≡ e = omega (arith, is) in
      side_is_known known e (sides e (ends, m, at, first, second, inr (subst (λ (n : ℕ). slice_get edges n ≡ Some (record { low = m; high = ends.high })) same there)))),
  λ e found. let (j, is, there) = number_found 0 edges m ends.low e found in
      let same : j ≡ e = omega (arith, is) in
      side_is_known known e (sides e (ends, m, at, first, second, inl (subst (λ (n : ℕ). slice_get edges n ≡ Some (record { low = m; high = ends.low })) same there))),
)

-- one direction of an edge, settled
pub record IsSettledIn (edges : List Ends) (arcs : List (List ℕ)) (f : FunctionsState) (edge : ℕ) (dir : Dir) (list : List Entry) (function : Option (List Run)) : Type 0 where
  pub ways : (ends : Ends) (roads : List ℕ) → slice_get edges edge ≡ Some ends → slice_get arcs (list_number edge dir) ≡ Some roads
      → IsSettledList edges roads f (start_of ends dir) (end_of ends dir) list
  pub value : (ends : Ends) → slice_get edges edge ≡ Some ends → IsValueOf edges f (start_of ends dir) (end_of ends dir) list function

-- both directions
pub settled_both : (edges : List Ends) (arcs : List (List ℕ)) (f : FunctionsState) (edge : ℕ) (lists : TouchedEdge) (functions : EdgeFunctions) → lists.edge ≡ edge
    → IsSettledIn edges arcs f edge Up lists.up functions.up → IsSettledIn edges arcs f edge Down lists.down functions.down → IsSettledEdge edges arcs f edge lists functions
settled_both edges arcs f edge lists functions named up down = record { number = named; ways = ways; values = values }
  where
    ways : (dir : Dir) (ends : Ends) (roads : List ℕ) → slice_get edges edge ≡ Some ends → slice_get arcs (list_number edge dir) ≡ Some roads
        → IsSettledList edges roads f (start_of ends dir) (end_of ends dir) (list_in lists dir)
    ways Up = up.ways
    ways Down = down.ways

    values : (dir : Dir) (ends : Ends) → slice_get edges edge ≡ Some ends → IsValueOf edges f (start_of ends dir) (end_of ends dir) (list_in lists dir) (function_in functions dir)
    values Up = up.value
    values Down = down.value

-- what settling the list of an edge in a direction by these functions asks for
pub record AsksList (edges : List Ends) (lists : List (List ℕ)) (f : FunctionsState) (edge : ℕ) (dir : Dir) : Type 0 where
  pub inside : edge < length edges
  pub long : length lists ≡ 2 * length edges
  pub arcs : (list : List ℕ) → slice_get lists (list_number edge dir) ≡ Some list → All (λ a. a < f.arcs) list
  pub halves : (ends : Ends) → slice_get edges edge ≡ Some ends → KnowsHalves edges f (start_of ends dir) (end_of ends dir)

module _ (p : PartsValue) (graph : ChordalValue) (lists : List (List ℕ)) (of_graph : graph ≡ p.graph) (of_lists : lists ≡ p.arcs) where
  -- over what stands for the graph and the roads of these parts, and for these functions
  pub asks_list : FitTogether p → (known : List (Option EdgeFunctions)) (f : FunctionsState) → f ≡ functions_of (record { network = edited_all p.before.network p.edit; known = known }) → (edge : ℕ)
      → edge < length p.graph.edges → ((side : ℕ) → IsLowerSide p.graph.edges edge side → HasFunctions known side) → (dir : Dir) → AsksList graph.edges lists f edge dir
  asks_list fit known f meant edge inside sides dir =
      let h = p.before in
      let asked = functions_of (record { network = edited_all h.network p.edit; known = known }) in
      let same : p.graph.edges ≡ h.edges = ap (λ (k : ChordalValue). k.edges) fit.0.hierarchy.0 in
      let own = subst (λ (es : List Ends). edge < length es) same inside in
      subst (λ (s : FunctionsState). AsksList graph.edges lists s edge dir) (sym meant)
      (subst (λ (ls : List (List ℕ)). AsksList graph.edges ls asked edge dir) (sym of_lists)
      (subst (λ (k : ChordalValue). AsksList k.edges p.arcs asked edge dir) (sym of_graph) (record {
        inside = inside;
        long = fit.0.roads.long ∙ ap (λ (es : List Ends). 2 * length es) (sym same);
        arcs = arcs_within h.network h.order h.edges p.arcs p.edit edge dir fit.0.roads own;
        halves = halves_known p.graph.edges (edited_all h.network p.edit) known edge dir sides;
      })))

  -- what was settled over these is settled over the parts
  pub settled_over : (f asked : FunctionsState) → f ≡ asked → (edge : ℕ) (dir : Dir) (list : List Entry) (function : Option (List Run)) → IsSettledIn graph.edges lists f edge dir list function
      → IsSettledIn p.graph.edges p.arcs asked edge dir list function
  settled_over f asked same edge dir list function is =
      subst (λ (s : FunctionsState). IsSettledIn p.graph.edges p.arcs s edge dir list function) same
      (subst (λ (ls : List (List ℕ)). IsSettledIn p.graph.edges ls f edge dir list function) of_lists
      (subst (λ (k : ChordalValue). IsSettledIn k.edges lists f edge dir list function) of_graph is))
