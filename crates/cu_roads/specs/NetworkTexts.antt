-- The tables of a road network: `node,x,y`, a row for each node, and `arc,tail,head,profile`, a row for each road.
use Rattle.std.specs.Prelude.{ℕ, List, [], ◌∷◌, Bool, not, Option, Some, None, Result, Ok, Err, ◌+◌, ◌&&◌, ◌==◌, nat_le, nat_lt, length, map, codes, if◌then◌else◌}
use Rattle.std.specs.Option.{option_or}
use Rattle.cu_model.specs.declared.limits.TheConstants.{MAX_ARCS, MAX_NODES}
use Rattle.cu_model.specs.declared.profiles.Piece.{Piece}
use Rattle.cu_model.specs.declared.roads.RoadArc.{RoadArc}
use Rattle.cu_model.specs.Networks.{NetworkValue}
use Rattle.cu_model.specs.Numbers.{is_number_word, number_value}
use Rattle.cu_tables.specs.Checks.{below, unless}
use Rattle.cu_tables.specs.Tables.{field_of, rows_below, table}
use Rattle.cu_profile.specs.declared.refusals.ProfileRefusal.{ProfileRefusal}
use Rattle.cu_profile.specs.ProfileTexts.{profiles_of_text}
use Rattle.cu_roads.specs.declared.places.Place.{Place}
use Rattle.cu_roads.specs.declared.places.TheConstants.{MAX_COORDINATE}
use Rattle.cu_roads.specs.declared.refusals.File.TheVariants.{Nodes, Roads}
use Rattle.cu_roads.specs.declared.refusals.RoadRefusal.{RoadRefusal}
use Rattle.cu_roads.specs.declared.refusals.RoadRefusal.TheVariants.{Header, Fields, Number, Sequence, TooManyNodes, TooManyArcs, NodeRange, ProfileRange, Profiles}

abbrev pub node_header : List (List ℕ)
node_header = codes "node" ∷ codes "x" ∷ codes "y" ∷ []

abbrev pub arc_header : List (List ℕ)
arc_header = codes "arc" ∷ codes "tail" ∷ codes "head" ∷ codes "profile" ∷ []

-- the number that a field of a row names
abbrev pub value_at : List (List ℕ) → ℕ → ℕ
value_at row index = number_value (field_of row index)

-- whether a word is a number that a coordinate may be
abbrev pub is_coordinate : List ℕ → Bool
is_coordinate word = is_number_word word && nat_le (number_value word) MAX_COORDINATE

-- whether a row names a node and the x and y of its place
abbrev pub has_node_numbers : List (List ℕ) → Bool
has_node_numbers row = is_number_word (field_of row 0) && is_coordinate (field_of row 1) && is_coordinate (field_of row 2)

-- whether a row names a road, its two ends and its profile
abbrev pub has_arc_numbers : List (List ℕ) → Bool
has_arc_numbers row = is_number_word (field_of row 0) && is_number_word (field_of row 1) && is_number_word (field_of row 2) && is_number_word (field_of row 3)

-- the first check that a row of a node fails, where the row has this number
abbrev pub node_fault : ℕ → List (List ℕ) → Option RoadRefusal
node_fault number row =
    if not (length row == 3) then Some (Fields Nodes number)
    else if not (has_node_numbers row) then Some (Number Nodes number)
    else if number == MAX_NODES then Some (TooManyNodes number)
    else if not (value_at row 0 == number) then Some (Sequence Nodes number)
    else None

-- the first check that a row of a road fails, where there are so many nodes and profiles and the row has this number
abbrev pub arc_fault : ℕ → ℕ → ℕ → List (List ℕ) → Option RoadRefusal
arc_fault nodes profiles number row =
    if not (length row == 4) then Some (Fields Roads number)
    else if not (has_arc_numbers row) then Some (Number Roads number)
    else if number == MAX_ARCS then Some (TooManyArcs number)
    else if not (value_at row 0 == number) then Some (Sequence Roads number)
    else if not (nat_lt (value_at row 1) nodes && nat_lt (value_at row 2) nodes) then Some (NodeRange number)
    else if not (nat_lt (value_at row 3) profiles) then Some (ProfileRange number)
    else None

-- the first row that fails a check, from the row with this number on
abbrev pub first_fault : (ℕ → List (List ℕ) → Option RoadRefusal) → ℕ → List (List (List ℕ)) → Option RoadRefusal
first_fault fault number [] = None
first_fault fault number (row ∷ rows) = option_or (fault number row) (first_fault fault (number + 1) rows)

abbrev pub place_of_row : List (List ℕ) → Place
place_of_row row = record { x = value_at row 1; y = value_at row 2 }

abbrev pub arc_of_row : List (List ℕ) → RoadArc
arc_of_row row = record { tail = value_at row 1; head = value_at row 2; profile = value_at row 3 }

-- the place of each of these rows, or the first refusal
abbrev pub places_of_rows : List (List (List ℕ)) → Result (List Place) RoadRefusal
places_of_rows rows = unless (first_fault node_fault 0 rows) (Ok (map place_of_row rows))

-- the road of each of these rows, where there are so many nodes and profiles, or the first refusal
abbrev pub arcs_of_rows : ℕ → ℕ → List (List (List ℕ)) → Result (List RoadArc) RoadRefusal
arcs_of_rows nodes profiles rows = unless (first_fault (arc_fault nodes profiles) 0 rows) (Ok (map arc_of_row rows))

abbrev pub places_of_text : List ℕ → Result (List Place) RoadRefusal
places_of_text text = below (Header Nodes) places_of_rows (rows_below node_header (table text))

abbrev pub arcs_of_text : ℕ → ℕ → List ℕ → Result (List RoadArc) RoadRefusal
arcs_of_text nodes profiles text = below (Header Roads) (arcs_of_rows nodes profiles) (rows_below arc_header (table text))

-- a network and the place of each of its nodes
pub record NetworkRead : Type 0 where
  pub network : NetworkValue
  pub places : List Place

-- the network of these nodes, profiles and roads
abbrev pub joined : List Place → List (List Piece) → Result (List RoadArc) RoadRefusal → Result NetworkRead RoadRefusal
joined places profiles (Err refusal) = Err refusal
joined places profiles (Ok arcs) = Ok (record { network = record { nodes = length places; arcs = arcs; profiles = profiles }; places = places })

-- the roads are read where the profiles are there
abbrev pub with_profiles : List Place → List ℕ → Result (List (List Piece)) ProfileRefusal → Result NetworkRead RoadRefusal
with_profiles places roads (Err refusal) = Err (Profiles refusal)
with_profiles places roads (Ok profiles) = joined places profiles (arcs_of_text (length places) (length profiles) roads)

-- the profiles are read where the places are there
abbrev pub with_places : Result (List Place) RoadRefusal → List ℕ → List ℕ → Result NetworkRead RoadRefusal
with_places (Err refusal) roads profiles = Err refusal
with_places (Ok places) roads profiles = with_profiles places roads (profiles_of_text profiles)

-- the roads are read where the places are there, with profiles that are there already
abbrev pub with_given : Result (List Place) RoadRefusal → List ℕ → List (List Piece) → Result NetworkRead RoadRefusal
with_given (Err refusal) roads profiles = Err refusal
with_given (Ok places) roads profiles = joined places profiles (arcs_of_text (length places) (length profiles) roads)

-- the network that two texts give with these profiles, or the first check that fails: of the nodes, then of the roads
abbrev pub network_with : List ℕ → List ℕ → List (List Piece) → Result NetworkRead RoadRefusal
network_with nodes roads profiles = with_given (places_of_text nodes) roads profiles

-- the network that three texts give, or the first check that fails: of the nodes, then of the profiles, then of the roads
unfoldable pub network_of : List ℕ → List ℕ → List ℕ → Result NetworkRead RoadRefusal
network_of nodes roads profiles = with_places (places_of_text nodes) roads profiles
