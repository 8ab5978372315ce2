-- What a command over measured profiles prepares: its files loaded, the measured profiles read, then the tables of nodes and roads, and the
-- graph closed; or the first of these that stops it.
use Rattle.std.specs.Prelude.{ℕ, List, ◌∷◌, ◌≡◌, ◌⊎◌, Option, Some, Result, Ok, Err, length, map}
use Rattle.cu_io.specs.Shelves.{ShelfState}
use Rattle.cu_model.specs.declared.roads.RoadArc.{RoadArc}
use Rattle.cu_model.specs.Orders.{OrderValue}
use Rattle.cu_chordal.specs.Edges.{HasTooManyEdges}
use Rattle.cu_order.specs.declared.refusals.OrderRefusal.{OrderRefusal}
use Rattle.cu_roads.specs.NetworkTexts.{NetworkRead, arcs_of_text, places_of_text}
use Rattle.cu_roads.specs.declared.places.Place.{Place}
use Rattle.cu_roads.specs.declared.refusals.RoadRefusal.{RoadRefusal}
use Rattle.cu_session.specs.Waiting.{roads_of}
use Rattle.cu_wait.specs.declared.points.Point.{Point}
use Rattle.cu_wait.specs.MeasuredTexts.{measured_of_text}
use Rattle.cu_wait.specs.Networks.{Measured, RawNetwork}
use Rattle.cu_cli.specs.declared.stops.Stop.{Stop}
use Rattle.cu_cli.specs.Commands.Measure.{StopsMeasured}
use Rattle.cu_cli.specs.Preparing.{AreLoaded, HasFewEdges, IsOrderOf, IsOrderRefused, StopsLoading, StopsNetwork, StopsOrder}
use Rattle.cu_cli.specs.Words.{FileAsked, OrderAsked, TablesAsked, table_files}

-- a network with measured profiles, and the place of each of its nodes
pub record RawRead : Type 0 where
  pub network : RawNetwork
  pub places : List Place

-- the network of these nodes, measured profiles and roads
abbrev pub joined_raw : List Place → List (List Point) → Result (List RoadArc) RoadRefusal → Result RawRead RoadRefusal
joined_raw places measured (Err refusal) = Err refusal
joined_raw places measured (Ok arcs) =
    Ok (record { network = record { nodes = length places; arcs = arcs; profiles = map Measured measured }; places = places })

-- the roads are read where the places are there
abbrev pub with_places_raw : Result (List Place) RoadRefusal → List ℕ → List (List Point) → Result RawRead RoadRefusal
with_places_raw (Err refusal) roads measured = Err refusal
with_places_raw (Ok places) roads measured = joined_raw places measured (arcs_of_text (length places) (length measured) roads)

-- the network that two texts give with these measured profiles, or the first check that fails: of the nodes, then of the roads
abbrev pub raw_network_of : (nodes roads : List ℕ) → List (List Point) → Result RawRead RoadRefusal
raw_network_of nodes roads measured = with_places_raw (places_of_text nodes) roads measured

-- the nodes and roads that were read, from which alone an order follows
abbrev pub roads_read : RawRead → NetworkRead
roads_read read = record { network = roads_of read.network; places = read.places }

-- the files are loaded; the third text names measured profiles, the first two are tables that name this network with them, and these are
-- the texts of the others
abbrev pub ReadsMeasured : ShelfState → List FileAsked → RawRead → List (List ℕ) → Type 0
ReadsMeasured before files read given =
    (nodes : List ℕ) × (roads : List ℕ) × (text : List ℕ) × (measured : List (List Point))
    × AreLoaded before files (nodes ∷ roads ∷ text ∷ given) × (measured_of_text text ≡ Ok measured)
    × (raw_network_of nodes roads measured ≡ Ok read)

-- all files are loaded and read: they name this network with measured profiles, and this is the order that is asked for, whose graph has
-- few edges
abbrev pub PreparesWaiting : ShelfState → TablesAsked → OrderAsked → RawRead → OrderValue → Type 0
PreparesWaiting before tables asked read order =
    (given : List (List ℕ)) × ReadsMeasured before (table_files tables asked) read given × IsOrderOf asked (roads_read read) given order
    × HasFewEdges (roads_of read.network) order

-- the reading of nodes and roads with measured profiles stops the run so, or behind it that of the order
abbrev pub StopsRoads : OrderAsked → Result RawRead RoadRefusal → List (List ℕ) → Stop → Type 0
StopsRoads asked named given why =
    StopsNetwork named why ⊎ ((read : RawRead) × (named ≡ Ok read) × StopsOrder asked (roads_read read) given why)

-- the reading of these texts stops the run so: first that of the measured profiles, then that of the nodes and the roads, then that of the
-- order
abbrev pub StopsTexts : OrderAsked → (nodes roads text : List ℕ) → List (List ℕ) → Stop → Type 0
StopsTexts asked nodes roads text given why =
    StopsMeasured (measured_of_text text) why
    ⊎ ((measured : List (List Point)) × (measured_of_text text ≡ Ok measured) × StopsRoads asked (raw_network_of nodes roads measured) given why)

-- a load stops the run so, or the reading behind all loads
abbrev pub StopsWaiting : ShelfState → ShelfState → TablesAsked → OrderAsked → Stop → Type 0
StopsWaiting before now tables asked why =
    StopsLoading before now (table_files tables asked) why
    ⊎ ((nodes : List ℕ) × (roads : List ℕ) × (text : List ℕ) × (given : List (List ℕ))
    × AreLoaded before (table_files tables asked) (nodes ∷ roads ∷ text ∷ given) × StopsTexts asked nodes roads text given why)

-- tables that are there, within the limit, and name a network with measured profiles and an order of few edges
abbrev pub IsWaitable : TablesAsked → OrderAsked → ShelfState → Type 0
IsWaitable tables asked before =
    (files : List ℕ → Option (List ℕ)) × (read : RawRead) × (given : List (List ℕ)) × (before.held ≡ Some files)
    × ReadsMeasured before (table_files tables asked) read given
    × ((other : OrderRefusal) → IsOrderRefused asked (roads_read read) given other → ⊥)
    × ((order : OrderValue) → IsOrderOf asked (roads_read read) given order → HasTooManyEdges (roads_of read.network) order → ⊥)
