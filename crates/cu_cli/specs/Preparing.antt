-- What a command prepares before its work: its files loaded, their texts read, and the graph closed; or the first of these that stops it.
use Rattle.std.specs.Prelude.{ℕ, List, [], ◌∷◌, ◌≡◌, ◌<◌, ◌≤◌, ◌⊎◌, Option, Some, Result, Ok, Err, length, slice_get}
use Rattle.cu_io.specs.Counts.{Rose}
use Rattle.cu_io.specs.Holdings.{Holds, HoldsMore}
use Rattle.cu_io.specs.Shelves.{ShelfState}
use Rattle.cu_model.specs.Networks.{NetworkValue}
use Rattle.cu_model.specs.Orders.{OrderValue, IsOrder}
use Rattle.cu_dissect.specs.Dissection.{dissected}
use Rattle.cu_chordal.specs.Edges.{HasTooManyEdges, ListsEdges}
use Rattle.cu_chordal.specs.declared.graph.TheConstants.{MAX_EDGES}
use Rattle.cu_chordal.specs.declared.graph.Ends.{Ends}
use Rattle.cu_order.specs.OrderTexts.{order_of}
use Rattle.cu_order.specs.declared.refusals.OrderRefusal.{OrderRefusal}
use Rattle.cu_roads.specs.NetworkTexts.{NetworkRead, network_of}
use Rattle.cu_roads.specs.declared.refusals.RoadRefusal.{RoadRefusal}
use Rattle.cu_cli.specs.declared.stops.Stop.{Stop}
use Rattle.cu_cli.specs.declared.stops.Stop.TheVariants as stop
use Rattle.cu_cli.specs.Words.{FileAsked, OrderAsked, Identity, Dissected, Named, TablesAsked, table_files}

-- the file is loaded with these bytes
abbrev pub IsLoaded : ShelfState → FileAsked → List ℕ → Type 0
IsLoaded before file bytes = Holds before.held file.name bytes × (length bytes ≤ before.most)

-- the load of the file stops the run so: its name's count of faults rose; or it has more bytes than the limit, and no count of loads
-- changed; or memory ran out
abbrev pub StopsLoad : ShelfState → ShelfState → FileAsked → Stop → Type 0
StopsLoad before now file (stop.Fault whose) = (whose ≡ file.role) × Rose (before.load_faults file.name) (now.load_faults file.name)
StopsLoad before now file (stop.TooLong whose) =
    (whose ≡ file.role) × HoldsMore before.held file.name before.most × (now.load_faults ≡ before.load_faults)
StopsLoad before now file stop.NoMemory = Unit {0}
StopsLoad before now file _ = ⊥

-- the files are loaded with these texts
abbrev pub AreLoaded : ShelfState → List FileAsked → List (List ℕ) → Type 0
AreLoaded before [] [] = Unit {0}
AreLoaded before (file ∷ files) (text ∷ texts) = IsLoaded before file text × AreLoaded before files texts
AreLoaded before _ _ = ⊥

-- the first load that is refused stops the run so
abbrev pub StopsLoading : ShelfState → ShelfState → List FileAsked → Stop → Type 0
StopsLoading before now [] why = ⊥
StopsLoading before now (file ∷ files) why =
    StopsLoad before now file why ⊎ ((text : List ℕ) × IsLoaded before file text × StopsLoading before now files why)

-- the files are loaded; the first three are tables that name this network, and these are the texts of the others
abbrev pub ReadsTables : ShelfState → List FileAsked → NetworkRead → List (List ℕ) → Type 0
ReadsTables before files read given =
    (nodes : List ℕ) × (roads : List ℕ) × (profiles : List ℕ) × AreLoaded before files (nodes ∷ roads ∷ profiles ∷ given)
    × (network_of nodes roads profiles ≡ Ok read)

-- the first check that the tables fail, or memory ran out
abbrev pub StopsNetwork : {Read : Type 0} → Result Read RoadRefusal → Stop → Type 0
StopsNetwork named (stop.Network refusal) = named ≡ Err refusal
StopsNetwork named stop.NoMemory = Unit {0}
StopsNetwork named _ = ⊥

-- a load, or the reading of the tables behind all loads, stops the run so
abbrev pub StopsTables : ShelfState → ShelfState → List FileAsked → Stop → Type 0
StopsTables before now files why =
    StopsLoading before now files why
    ⊎ ((nodes : List ℕ) × (roads : List ℕ) × (profiles : List ℕ) × (given : List (List ℕ))
    × AreLoaded before files (nodes ∷ roads ∷ profiles ∷ given) × StopsNetwork (network_of nodes roads profiles) why)

-- the order that is given: each node its own rank, or that of the dissection of the network, or that of the text
abbrev pub IsOrderGiven : OrderAsked → NetworkRead → List (List ℕ) → OrderValue → Type 0
IsOrderGiven Identity read texts order = (rank : ℕ) → rank < read.network.nodes → slice_get order.node_at rank ≡ Some rank
IsOrderGiven Dissected read texts order = order.node_at ≡ (dissected read.network read.places).order
IsOrderGiven (Named name) read (text ∷ texts) order = order_of read.network.nodes text ≡ Ok order.node_at
IsOrderGiven (Named name) read [] order = ⊥

-- an order of the network's nodes, the one that is given
pub record IsOrderOf (asked : OrderAsked) (read : NetworkRead) (texts : List (List ℕ)) (order : OrderValue) : Type 0 where
  pub sound : IsOrder order
  pub count : length order.node_at ≡ read.network.nodes
  pub given : IsOrderGiven asked read texts order

-- the order's text is refused so
abbrev pub IsOrderRefused : OrderAsked → NetworkRead → List (List ℕ) → OrderRefusal → Type 0
IsOrderRefused (Named name) read (text ∷ texts) other = order_of read.network.nodes text ≡ Err other
IsOrderRefused _ read texts other = ⊥

abbrev pub HasFewEdges : NetworkValue → OrderValue → Type 0
HasFewEdges g order = (edges : List Ends) × ListsEdges g order edges × (length edges ≤ MAX_EDGES)

-- behind the tables: the order's text is refused, or the graph has too many edges, or memory ran out
abbrev pub StopsOrder : OrderAsked → NetworkRead → List (List ℕ) → Stop → Type 0
StopsOrder asked read given (stop.Order refusal) = IsOrderRefused asked read given refusal
StopsOrder asked read given stop.TooManyEdges = (order : OrderValue) × IsOrderOf asked read given order × HasTooManyEdges read.network order
StopsOrder asked read given stop.NoMemory = Unit {0}
StopsOrder asked read given _ = ⊥

-- all files are loaded and read: the tables name this network, and this is the order that is asked for, whose graph has few edges
abbrev pub Prepares : ShelfState → TablesAsked → OrderAsked → NetworkRead → OrderValue → Type 0
Prepares before tables asked read order =
    (given : List (List ℕ)) × ReadsTables before (table_files tables asked) read given × IsOrderOf asked read given order
    × HasFewEdges read.network order

-- a load stops the run so, or the reading behind all loads: that of the tables, or else that of the order
abbrev pub StopsPreparing : ShelfState → ShelfState → TablesAsked → OrderAsked → Stop → Type 0
StopsPreparing before now tables asked why =
    StopsTables before now (table_files tables asked) why
    ⊎ ((read : NetworkRead) × (given : List (List ℕ)) × ReadsTables before (table_files tables asked) read given
    × StopsOrder asked read given why)

-- tables that are there, within the limit, and name a network and an order of few edges
abbrev pub IsServable : TablesAsked → OrderAsked → ShelfState → Type 0
IsServable tables asked before =
    (files : List ℕ → Option (List ℕ)) × (read : NetworkRead) × (given : List (List ℕ)) × (before.held ≡ Some files)
    × ReadsTables before (table_files tables asked) read given
    × ((other : OrderRefusal) → IsOrderRefused asked read given other → ⊥)
    × ((order : OrderValue) → IsOrderOf asked read given order → HasTooManyEdges read.network order → ⊥)
