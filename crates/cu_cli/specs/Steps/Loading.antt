-- What loads leave of a shelf, and the texts that a command has loaded.
use Rattle.std.specs.Prelude.{◌≡◌, ◌⊎◌, ℕ, List, [], ◌∷◌, Option, Result, Ok}
use Rattle.cu_io.specs.Shelves.{ShelfState}
use Rattle.cu_interval.specs.Hierarchies.{HierarchyValue, IsBuilt}
use Rattle.cu_order.specs.declared.refusals.OrderRefusal.{OrderRefusal}
use Rattle.cu_order.specs.declared.refusals.OrderRefusal.TheVariants as order
use Rattle.cu_roads.specs.NetworkTexts.{NetworkRead, network_of}
use Rattle.cu_roads.specs.declared.places.Place.{Place}
use Rattle.cu_roads.specs.declared.refusals.RoadRefusal.{RoadRefusal}
use Rattle.cu_cli.specs.declared.preparing.OrderGiven.{OrderGiven}
use Rattle.cu_cli.specs.declared.preparing.OrderGiven.TheVariants as given
use Rattle.cu_cli.specs.declared.preparing.Prepared.{Prepared}
use Rattle.cu_cli.specs.declared.preparing.TableTexts.{TableTexts}
use Rattle.cu_cli.specs.declared.stops.Stop.{Stop}
use Rattle.cu_cli.specs.Preparing.{HasFewEdges, IsOrderOf, IsOrderRefused, Prepares, StopsNetwork, StopsOrder}
use Rattle.cu_cli.specs.Runs.{CountsFaults}
use Rattle.cu_cli.specs.Words.{OrderAsked, Identity, Dissected, Named, TablesAsked}

-- what the names hold, the limit and the counts of stores are as before; and so are those of loads, unless a fault is why the loads stopped
pub record OnlyLoads (why : Option Stop) (before now : ShelfState) : Type 0 where
  pub held : now.held ≡ before.held
  pub most : now.most ≡ before.most
  pub stores : now.store_faults ≡ before.store_faults
  pub faults : CountsFaults why before now

-- the texts of three tables
abbrev pub table_texts : TableTexts → List (List ℕ)
table_texts texts = texts.nodes.items ∷ texts.roads.items ∷ texts.profiles.items ∷ []

-- what they name
abbrev pub named_by : TableTexts → Result NetworkRead RoadRefusal
named_by texts = network_of texts.nodes.items texts.roads.items texts.profiles.items

-- what gives the order is what is asked for
abbrev pub IsGivenBy : OrderAsked → OrderGiven → Type 0
IsGivenBy Identity given.Identity = Unit {0}
IsGivenBy Dissected given.Dissected = Unit {0}
IsGivenBy (Named name) (given.Text text) = Unit {0}
IsGivenBy _ _ = ⊥

-- what was asked for, but for the name of a file
abbrev pub order_kind : OrderGiven → OrderAsked
order_kind given.Identity = Identity
order_kind given.Dissected = Dissected
order_kind (given.Text text) = Named []

-- the text of an order, where a file has it
abbrev pub order_texts : OrderGiven → List (List ℕ)
order_texts (given.Text text) = text.items ∷ []
order_texts _ = []

-- the network, whatever its places are, and its order are those of the tables
abbrev pub HasPrepared : ShelfState → TablesAsked → OrderAsked → Prepared → Type 0
HasPrepared before tables asked prepared =
    (places : List Place) × Prepares before tables asked (record { network = prepared.network; places = places }) prepared.order

-- the tables were read, whatever their places are, and this is their built hierarchy
pub record HasBuilt (before : ShelfState) (tables : TablesAsked) (asked : OrderAsked) (h : HierarchyValue) : Type 0 where
  pub built : IsBuilt h
  pub places : List Place
  pub prepares : Prepares before tables asked (record { network = h.network; places = places }) h.order

-- the network and its order are likewise those of the texts of the tables, and of what gives the order
abbrev pub IsReadFrom : TableTexts → OrderGiven → Prepared → Type 0
IsReadFrom texts given prepared =
    (places : List Place) × (named_by texts ≡ Ok (record { network = prepared.network; places = places }))
    × IsOrderOf (order_kind given) (record { network = prepared.network; places = places }) (order_texts given) prepared.order
    × HasFewEdges prepared.network prepared.order

-- the reading of these texts stops the run so
abbrev pub StopsReading : TableTexts → OrderGiven → Stop → Type 0
StopsReading texts given why =
    StopsNetwork (named_by texts) why
    ⊎ ((read : NetworkRead) × (named_by texts ≡ Ok read) × StopsOrder (order_kind given) read (order_texts given) why)

-- the order wasn't made: memory ran out, or its text is refused so
abbrev pub RefusesOrder : OrderGiven → NetworkRead → OrderRefusal → Type 0
RefusesOrder given read order.NoMemory = Unit {0}
RefusesOrder given read other = IsOrderRefused (order_kind given) read (order_texts given) other
