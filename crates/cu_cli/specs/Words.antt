-- What words of commands ask for: files by their names, an order, the size of a grid.
use Rattle.std.specs.Prelude.{ℕ, List, [], ◌∷◌, ◌++◌, Option, Some, None, ◌-◌, ◌^◌, ◌&&◌, nat_le, if◌then◌else◌, codes, bytes_eq}
use Rattle.cu_model.specs.Numbers.{is_number_word, number_value}
use Rattle.cu_roads.specs.declared.grids.TheConstants.{MAX_SIDE}
use Rattle.cu_roads.specs.Grids.{grid_network}
use Rattle.cu_roads.specs.NetworkTexts.{NetworkRead}
use Rattle.cu_cli.specs.declared.stops.Role.{Role}
use Rattle.cu_cli.specs.declared.stops.Role.TheVariants as role

-- the order that is asked for: each node is its own rank, or it follows from the places and roads by dissection, or a file has it
pub data OrderAsked : Type 0 where
  Identity : OrderAsked
  Dissected : OrderAsked
  Named : (name : List ℕ) → OrderAsked

-- the tables of a network, each by its file's name
pub record TablesAsked : Type 0 where
  pub nodes : List ℕ
  pub roads : List ℕ
  pub profiles : List ℕ

-- the size of a grid and where its draws start
pub record GridAsked : Type 0 where
  pub start : ℕ
  pub width : ℕ
  pub height : ℕ

-- the network of a grid
abbrev pub grid_read : GridAsked → NetworkRead
grid_read grid = grid_network grid.start grid.width grid.height

-- the order of a word; `./identity` and `./dissect` are files
abbrev pub order_of_word : List ℕ → OrderAsked
order_of_word word =
    if bytes_eq word (codes "identity") then Identity
    else if bytes_eq word (codes "dissect") then Dissected
    else Named word

-- the value of a number word, where it is from `least` to `most`
abbrev pub number_within : (least most : ℕ) → List ℕ → Option ℕ
number_within least most word =
    if is_number_word word && nat_le least (number_value word) && nat_le (number_value word) most
    then Some (number_value word)
    else None

-- the grid of three numbers, where all three are there
abbrev pub grid_by : (start width height : Option ℕ) → Option GridAsked
grid_by (Some start) (Some width) (Some height) = Some (record { start = start; width = width; height = height })
grid_by _ _ _ = None

-- the grid of three words: where its draws start, and its sides
abbrev pub grid_of : (start width height : List ℕ) → Option GridAsked
grid_of start width height =
    grid_by (number_within 0 (2 ^ 64 - 1) start) (number_within 1 MAX_SIDE width) (number_within 1 MAX_SIDE height)

-- a file that a command loads: whose word names it, and the name
pub record FileAsked : Type 0 where
  pub role : Role
  pub name : List ℕ

-- the files of a network's tables, in the order of their words
abbrev pub network_files : TablesAsked → List FileAsked
network_files tables =
    record { role = role.Nodes; name = tables.nodes }
    ∷ record { role = role.Roads; name = tables.roads }
    ∷ record { role = role.Profiles; name = tables.profiles }
    ∷ []

-- the file of an order that a file has
abbrev pub order_files : OrderAsked → List FileAsked
order_files (Named name) = record { role = role.Order; name = name } ∷ []
order_files _ = []

-- the files of the tables and of the order, in the order of their words
abbrev pub table_files : TablesAsked → OrderAsked → List FileAsked
table_files tables asked = network_files tables ++ order_files asked

-- the file of a packed hierarchy
abbrev pub hierarchy_file : List ℕ → FileAsked
hierarchy_file name = record { role = role.Hierarchy; name = name }

-- the files of a packed hierarchy and of edits, in the order of their words
abbrev pub editing_files : (hierarchy edits : List ℕ) → List FileAsked
editing_files hierarchy edits = hierarchy_file hierarchy ∷ record { role = role.Edits; name = edits } ∷ []
