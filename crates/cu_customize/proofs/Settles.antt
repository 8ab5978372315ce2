-- What settling a shortcut gives, by its edge's ends.
use Rattle.std.proofs.Common.{◌≡◌, ◌≤◌, ◌<◌, ◌++◌, ◌⊎◌, ◌↔◌, ℕ, List, Some, sym, subst, arith, inl, inr, refl, map}
use Rattle.std.specs.Prelude.{slice_get}
use Rattle.std.specs.List.{Contains}
use Rattle.cu_model.specs.Networks.{NetworkValue, IsNetwork}
use Rattle.cu_model.specs.Orders.{OrderValue, IsOrder}
use Rattle.cu_model.proofs.RoadLaws.{all_at}
use Rattle.cu_chordal.specs.declared.graph.Ends.{Ends}
use Rattle.cu_chordal.specs.Edges.{IsClosureOf}
use Rattle.cu_chordal.specs.Graphs.{ChordalValue, HasEdge, IsChordal}
use Rattle.cu_interval.specs.declared.ways.Dir.{Dir}
use Rattle.cu_interval.specs.declared.ways.Dir.TheVariants.{Up, Down}
use Rattle.cu_interval.specs.declared.ways.Entry.{Entry}
use Rattle.cu_interval.specs.declared.ways.Way.TheVariants.{Road, Via}
use Rattle.cu_interval.specs.EdgeArcs.{AreEdgeArcs}
use Rattle.cu_interval.specs.FirstWays.{IsBuiltList}
use Rattle.cu_interval.specs.Hierarchies.{end_of, list_number, start_of}
use Rattle.cu_customize.specs.declared.settling.Settled.{Settled}
use Rattle.cu_customize.specs.Functions.{AreFunctionsOf, FunctionsState}
use Rattle.cu_customize.specs.Settling.{IsSettledList, IsValueOf, KnowsHalves}
use Rattle.cu_customize.specs.Steps.Best.{IsBestOf}
use Rattle.cu_customize.proofs.Loops.{taken_settled}
use Rattle.cu_customize.proofs.LowFunctions.{IsSetting, settled_built}

-- the ranks from which and to which an edge leads, whose lower end is this
pub record LeadsOver (ranks u v low : ℕ) : Type 0 where
  pub from : low ≤ u
  pub to : low ≤ v
  pub end : (low ≡ u) ⊎ (low ≡ v)
  pub start_in : u < ranks
  pub end_in : v < ranks

leads_by : (ranks : ℕ) (ends : Ends) (dir : Dir) → ends.low < ends.high → ends.high < ranks → LeadsOver ranks (start_of ends dir) (end_of ends dir) ends.low
leads_by ranks ends Up lt inside = record { from = omega arith; to = omega (arith, lt); end = inl refl; start_in = omega (arith, lt, inside); end_in = inside }
leads_by ranks ends Down lt inside = record { from = omega (arith, lt); to = omega arith; end = inr refl; start_in = inside; end_in = omega (arith, lt, inside) }

pub leads_over : (graph : ChordalValue) → IsChordal graph → (edge : ℕ) (ends : Ends) (dir : Dir) (u v : ℕ) → slice_get graph.edges edge ≡ Some ends → u ≡ start_of ends dir → v ≡ end_of ends dir
    → LeadsOver graph.ranks u v ends.low
leads_over graph is edge ends dir u v at from to =
    let range = all_at (λ (e : Ends). (e.low < e.high) × (e.high < graph.ranks)) graph.edges edge ends is.in_range at in
    subst (λ (x : ℕ). LeadsOver graph.ranks x v ends.low) (sym from) (subst (λ (y : ℕ). LeadsOver graph.ranks (start_of ends dir) y ends.low) (sym to) (leads_by graph.ranks ends dir range.0 range.1))

-- who is joined to both ends is joined to the lower
lower_joined : (edges : List Ends) (low u v x : ℕ) → (low ≡ u) ⊎ (low ≡ v) → HasEdge edges x u → HasEdge edges x v → HasEdge edges x low
lower_joined edges low u v x (inl e) one two = subst (λ (y : ℕ). HasEdge edges x y) (sym e) one
lower_joined edges low u v x (inr e) one two = subst (λ (y : ℕ). HasEdge edges x y) (sym e) two

pub settled_at : (graph : ChordalValue) → IsChordal graph → (edge : ℕ) (ends : Ends) (dir : Dir) (u v : ℕ) (arcs middles : List ℕ) (f : FunctionsState) (best : Settled)
    → slice_get graph.edges edge ≡ Some ends → u ≡ start_of ends dir → v ≡ end_of ends dir → ((x : ℕ) → Contains middles x ↔ HasEdge graph.edges x ends.low)
    → IsBestOf graph.edges f u v (map Road arcs ++ map Via middles) best
    → IsSettledList graph.edges arcs f (start_of ends dir) (end_of ends dir) best.ways × IsValueOf graph.edges f (start_of ends dir) (end_of ends dir) best.ways best.function
settled_at graph is edge ends dir u v arcs middles f best at from to members of_ways =
    let over = leads_over graph is edge ends dir u v at from to in
    let list = taken_settled graph is f u v ends.low arcs middles over.from over.to (λ x held. (members x).0 held)
    (λ x one two. (members x).1 (lower_joined graph.edges ends.low u v x over.end one two)) best.ways of_ways.runs in
    subst (λ (x : ℕ). IsSettledList graph.edges arcs f x (end_of ends dir) best.ways × IsValueOf graph.edges f x (end_of ends dir) best.ways best.function) from
    (subst (λ (y : ℕ). IsSettledList graph.edges arcs f u y best.ways × IsValueOf graph.edges f u y best.ways best.function) to (list, of_ways.value))

pub setting_at : (g : NetworkValue) (o : OrderValue) (graph : ChordalValue) (edge : ℕ) (ends : Ends) (dir : Dir) (lists : List (List ℕ)) (arcs : List ℕ) (f : FunctionsState)
    → IsNetwork g → IsOrder o → IsClosureOf g o graph → AreEdgeArcs g o graph.edges lists → AreFunctionsOf g o graph.edges f
    → slice_get graph.edges edge ≡ Some ends → slice_get lists (list_number edge dir) ≡ Some arcs → KnowsHalves graph.edges f (start_of ends dir) (end_of ends dir)
    → IsSetting g o graph.edges arcs f (start_of ends dir) (end_of ends dir)
setting_at g o graph edge ends dir lists arcs f n k closed are functions at listed halves = record {
  network = n;
  order = k;
  listed = closed.edges;
  roads = are.each edge dir ends arcs at listed;
  functions = functions;
  halves = halves;
}

pub built_at : (g : NetworkValue) (o : OrderValue) (graph : ChordalValue) (edge : ℕ) (ends : Ends) (dir : Dir) (lists : List (List ℕ)) (arcs : List ℕ) (f : FunctionsState) (entries : List Entry)
    → IsNetwork g → IsOrder o → IsClosureOf g o graph → AreEdgeArcs g o graph.edges lists → AreFunctionsOf g o graph.edges f
    → slice_get graph.edges edge ≡ Some ends → slice_get lists (list_number edge dir) ≡ Some arcs → KnowsHalves graph.edges f (start_of ends dir) (end_of ends dir)
    → IsSettledList graph.edges arcs f (start_of ends dir) (end_of ends dir) entries → IsBuiltList g o (start_of ends dir) (end_of ends dir) entries
built_at g o graph edge ends dir lists arcs f entries n k closed are functions at listed halves settled =
    settled_built g o graph.edges arcs f (start_of ends dir) (end_of ends dir) (setting_at g o graph edge ends dir lists arcs f n k closed are functions at listed halves) entries settled
