-- The order that is asked for, and what gives it.
use Rattle.std.proofs.Common.{◌∷◌, inl, inr}
use Rattle.cu_io.specs.Shelves.{ShelfState}
use Rattle.cu_model.specs.Orders.{OrderValue}
use Rattle.cu_order.specs.declared.refusals.OrderRefusal.{OrderRefusal}
use Rattle.cu_roads.specs.NetworkTexts.{NetworkRead}
use Rattle.cu_cli.specs.declared.preparing.OrderGiven.{OrderGiven}
use Rattle.cu_cli.specs.declared.preparing.OrderGiven.TheVariants as given
use Rattle.cu_cli.specs.declared.preparing.TableTexts.{TableTexts}
use Rattle.cu_cli.specs.declared.stops.Stop.{Stop}
use Rattle.cu_cli.specs.declared.stops.Stop.TheVariants as stop
use Rattle.cu_cli.specs.Preparing.{AreLoaded, IsOrderGiven, IsOrderOf, IsOrderRefused, StopsOrder, StopsPreparing}
use Rattle.cu_cli.specs.Steps.Loading.{IsGivenBy, StopsReading, order_kind, order_texts}
use Rattle.cu_cli.specs.Words.{OrderAsked, Identity, Dissected, Named, TablesAsked, table_files}

given_asked : (asked : OrderAsked) (by : OrderGiven) (read : NetworkRead) (order : OrderValue) → IsGivenBy asked by
    → IsOrderGiven (order_kind by) read (order_texts by) order → IsOrderGiven asked read (order_texts by) order
given_asked Identity given.Identity read order h k = k
given_asked Dissected given.Dissected read order h k = k
given_asked (Named name) (given.Text text) read order h k = k
given_asked _ _ read order h k = absurd h

refused_asked : (asked : OrderAsked) (by : OrderGiven) (read : NetworkRead) (other : OrderRefusal) → IsGivenBy asked by
    → IsOrderRefused (order_kind by) read (order_texts by) other → IsOrderRefused asked read (order_texts by) other
refused_asked Identity given.Identity read other h k = k
refused_asked Dissected given.Dissected read other h k = k
refused_asked (Named name) (given.Text text) read other h k = k
refused_asked _ _ read other h k = absurd h

-- the order of what gives it is the one that is asked for
pub order_asked_is : (asked : OrderAsked) (by : OrderGiven) (read : NetworkRead) (order : OrderValue) → IsGivenBy asked by
    → IsOrderOf (order_kind by) read (order_texts by) order → IsOrderOf asked read (order_texts by) order
order_asked_is asked by read order h k = record { sound = k.sound; count = k.count; given = given_asked asked by read order h k.given }

-- and what stops its making stops that of the one that is asked for
pub order_stops_asked : (asked : OrderAsked) (by : OrderGiven) (read : NetworkRead) (why : Stop) → IsGivenBy asked by
    → StopsOrder (order_kind by) read (order_texts by) why → StopsOrder asked read (order_texts by) why
order_stops_asked asked by read (stop.Order refusal) h k = refused_asked asked by read refusal h k
order_stops_asked asked by read stop.TooManyEdges h (order, is, many) = (order, order_asked_is asked by read order h is, many)
order_stops_asked asked by read stop.NoMemory h k = tt
order_stops_asked asked by read _ h k = absurd k

-- behind texts that are loaded, what stops their reading stops the preparing
pub reading_stops : (a b : ShelfState) (tables : TablesAsked) (asked : OrderAsked) (texts : TableTexts) (by : OrderGiven) (why : Stop) → IsGivenBy asked by
    → AreLoaded a (table_files tables asked) (texts.nodes.items ∷ texts.roads.items ∷ texts.profiles.items ∷ order_texts by) → StopsReading texts by why
    → StopsPreparing a b tables asked why
reading_stops a b tables asked texts by why h loaded (inl stops) = inl (inr (texts.nodes.items, texts.roads.items, texts.profiles.items, order_texts by, loaded, stops))
reading_stops a b tables asked texts by why h loaded (inr (read, named, stops)) =
    inr (read, order_texts by, (texts.nodes.items, texts.roads.items, texts.profiles.items, loaded, named), order_stops_asked asked by read why h stops)
