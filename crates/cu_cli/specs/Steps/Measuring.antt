-- Tables whose profiles are measured, and what is prepared from them.
use Rattle.std.specs.Prelude.{List, ◌≡◌, Ok, map}
use Rattle.cu_io.specs.Shelves.{ShelfState}
use Rattle.cu_interval.specs.Hierarchies.{HierarchyValue, IsBuilt}
use Rattle.cu_session.specs.Waiting.{roads_of}
use Rattle.cu_wait.specs.declared.points.Point.{Point}
use Rattle.cu_wait.specs.Converted.{IsConverted}
use Rattle.cu_wait.specs.MeasuredTexts.{measured_of_text}
use Rattle.cu_wait.specs.Networks.{Measured}
use Rattle.cu_cli.specs.declared.preparing.OrderGiven.{OrderGiven}
use Rattle.cu_cli.specs.declared.measuring.PreparedWaiting.{PreparedWaiting}
use Rattle.cu_cli.specs.declared.preparing.TableTexts.{TableTexts}
use Rattle.cu_cli.specs.declared.stops.Stop.{Stop}
use Rattle.cu_cli.specs.Preparing.{HasFewEdges, IsOrderOf}
use Rattle.cu_cli.specs.PreparingWaiting.{PreparesWaiting, RawRead, StopsTexts, raw_network_of, roads_read}
use Rattle.cu_cli.specs.Steps.Loading.{order_kind, order_texts}
use Rattle.cu_cli.specs.Words.{OrderAsked, TablesAsked}

-- the network is in pieces that stand for the measured profiles of the tables, and its order is theirs
abbrev pub HasPreparedMeasured : ShelfState → TablesAsked → OrderAsked → PreparedWaiting → Type 0
HasPreparedMeasured before tables asked ready =
    (read : RawRead) × IsConverted read.network ready.prepared.network × (read.network.profiles ≡ map Measured ready.measured.items)
    × PreparesWaiting before tables asked read ready.prepared.order

-- and this is the hierarchy built of it, and these are the points of the profiles
pub record HasBuiltMeasured (before : ShelfState) (tables : TablesAsked) (asked : OrderAsked) (points : List (List Point)) (h : HierarchyValue) : Type 0 where
  pub built : IsBuilt h
  pub read : RawRead
  pub converted : IsConverted read.network h.network
  pub measured : read.network.profiles ≡ map Measured points
  pub prepares : PreparesWaiting before tables asked read h.order

-- the network and its order are likewise those of the texts of the tables, and of what gives the order
abbrev pub IsReadMeasured : TableTexts → OrderGiven → PreparedWaiting → Type 0
IsReadMeasured texts given ready =
    (read : RawRead) × (measured_of_text texts.profiles.items ≡ Ok ready.measured.items)
    × (raw_network_of texts.nodes.items texts.roads.items ready.measured.items ≡ Ok read) × IsConverted read.network ready.prepared.network
    × IsOrderOf (order_kind given) (roads_read read) (order_texts given) ready.prepared.order × HasFewEdges (roads_of read.network) ready.prepared.order

-- the reading of these texts stops the run so
abbrev pub StopsReadingMeasured : TableTexts → OrderGiven → Stop → Type 0
StopsReadingMeasured texts given why =
    StopsTexts (order_kind given) texts.nodes.items texts.roads.items texts.profiles.items (order_texts given) why
