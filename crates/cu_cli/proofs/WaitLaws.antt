-- Where nothing fails, a script is answered over measured profiles but for want of memory.
use Rattle.std.proofs.Common.{◌≡◌, ◌∙◌, ◌∷◌, ℕ, List, sym, subst, inl, inr}
use Rattle.std.specs.Prelude.{Result, Ok}
use Rattle.cu_io.specs.Counts.{Rose}
use Rattle.cu_io.specs.Shelves.{ShelfState}
use Rattle.cu_model.specs.Orders.{OrderValue}
use Rattle.cu_chordal.specs.Edges.{HasTooManyEdges}
use Rattle.cu_order.specs.declared.refusals.OrderRefusal.{OrderRefusal}
use Rattle.cu_roads.specs.declared.refusals.RoadRefusal.{RoadRefusal}
use Rattle.cu_session.specs.Waiting.{IsWaitingOutput, roads_of}
use Rattle.cu_wait.specs.declared.points.Point.{Point}
use Rattle.cu_wait.specs.MeasuredTexts.{measured_of_text}
use Rattle.cu_cli.specs.declared.stops.Stop.{Stop}
use Rattle.cu_cli.specs.declared.stops.Stop.TheVariants as stop
use Rattle.cu_cli.specs.Commands.Wait.{waiting}
use Rattle.cu_cli.specs.Preparing.{IsOrderOf, IsOrderRefused, StopsOrder}
use Rattle.cu_cli.specs.PreparingWaiting.{IsWaitable, RawRead, StopsRoads, StopsTexts, StopsWaiting, raw_network_of, roads_read}
use Rattle.cu_cli.specs.Words.{OrderAsked, TablesAsked, table_files}
use Rattle.cu_cli.proofs.Completeness.{IsComplete, OnTables, answers_stop, loads_stop, network_stops, order_stops, same_texts}
use Rattle.cu_cli.proofs.MeasureLaws.{read_stops}

-- tables of nodes and roads that name this network, whose order isn't refused and has few edges
module _ (asked : OrderAsked) (read : RawRead) (given : List (List ℕ)) (why : Stop) (ordered : (other : OrderRefusal) → IsOrderRefused asked (roads_read read) given other → ⊥)
    (few : (order : OrderValue) → IsOrderOf asked (roads_read read) given order → HasTooManyEdges (roads_of read.network) order → ⊥) where
  roads_stopped : (named : Result RawRead RoadRefusal) → named ≡ Ok read → StopsRoads asked named given why → why ≡ stop.NoMemory
  roads_stopped named is (inl stops) = network_stops named read why is stops
  roads_stopped named is (inr (other, other_is, stops)) =
      let same : other ≡ read = cc (other_is, is) in
      order_stops asked (roads_read read) given why ordered few (subst (λ (r : RawRead). StopsOrder asked (roads_read r) given why) same stops)

  texts_stopped : (nodes roads text : List ℕ) (measured : List (List Point)) → measured_of_text text ≡ Ok measured → raw_network_of nodes roads measured ≡ Ok read
      → StopsTexts asked nodes roads text given why → why ≡ stop.NoMemory
  texts_stopped nodes roads text measured points named (inl stops) = read_stops (measured_of_text text) measured why points stops
  texts_stopped nodes roads text measured points named (inr (other, other_is, stops)) =
      let same : other ≡ measured = cc (other_is, points) in
      roads_stopped (raw_network_of nodes roads measured) named
      (subst (λ (m : List (List Point)). StopsRoads asked (raw_network_of nodes roads m) given why) same stops)

-- nothing but want of memory stops the preparing of tables that can be waited on
waiting_stops : (a b : ShelfState) (tables : TablesAsked) (asked : OrderAsked) (why : Stop) → IsWaitable tables asked a
    → ((name : List ℕ) → Rose (a.load_faults name) (b.load_faults name) → ⊥) → StopsWaiting a b tables asked why → why ≡ stop.NoMemory
waiting_stops a b tables asked why (files, read, given, told, (nodes, roads, text, measured, loaded, points, named), ordered, few) fine (inl loading) =
    loads_stop a b files (table_files tables asked) (nodes ∷ roads ∷ text ∷ given) why told loaded fine loading
waiting_stops a b tables asked why (files, read, given, told, (nodes, roads, text, measured, loaded, points, named), ordered, few) fine (inr (n, r, t, g, there, stops)) =
    let same = same_texts a files (table_files tables asked) (nodes ∷ roads ∷ text ∷ given) (n ∷ r ∷ t ∷ g) told loaded there in
    let here = subst (λ (texts : List (List ℕ)). OnTables (λ n r t g. StopsTexts asked n r t g why) texts) same stops in
    texts_stopped asked read given why ordered few nodes roads text measured points named here

pub wait_law : (tables : TablesAsked) (asked : OrderAsked) → IsComplete (waiting tables asked)
unfolding waiting
wait_law tables asked a b work why can fine is (inl (read, order, prepares, answers)) = inl (answers_stop (IsWaitingOutput read.network order) work why fine is answers)
wait_law tables asked a b work why can fine is (inr (other, stops, before)) =
    let same : other ≡ why = cc (before.0, is) in
    inl (sym same ∙ waiting_stops a b tables asked other can fine.loads stops)
