-- Grid networks: nodes in rows, a road each way between neighbours, and days with a rush hour, drawn from a state.
use Rattle.std.specs.Prelude.{ℕ, List, [], ◌∷◌, ◌++◌, Bool, true, false, ◌+◌, ◌*◌, ◌/◌, ◌%◌, ◌≤◌, nat_lt, length, map}
use Rattle.std.specs.List.{flat_map, range_with_len}
use Rattle.cu_model.specs.declared.profiles.Piece.{Piece}
use Rattle.cu_model.specs.declared.profiles.Rule.TheVariants.{Travel, Until}
use Rattle.cu_model.specs.declared.roads.RoadArc.{RoadArc}
use Rattle.cu_roads.specs.declared.places.Place.{Place}
use Rattle.cu_roads.specs.declared.grids.TheConstants.{DISTANCE, EASING, EXTRA_RANGE, FREE_RANGE, LEAST_FREE, MAX_SIDE, PROFILES, RUSH}
use Rattle.cu_roads.specs.NetworkTexts.{NetworkRead}
use Rattle.cu_roads.specs.Draws.{after, drawn, stepped}

-- how many nodes a row may have, and how many rows there may be
abbrev pub IsSide : ℕ → Type 0
IsSide count = (1 ≤ count) × (count ≤ MAX_SIDE)

-- node y * width + x lies at (100x, 100y), where x is below the width
abbrev pub grid_place : ℕ → ℕ → Place
grid_place width node = record { x = node % width * DISTANCE; y = node / width * DISTANCE }

unfoldable pub grid_places : ℕ → ℕ → List Place
grid_places width height = map (grid_place width) (range_with_len 0 (width * height))

-- a day that takes `free` seconds, but `extra` more from 7:00 on; from 9:00 on that grows less second by second until it is over
abbrev pub rush_hour : ℕ → ℕ → List Piece
rush_hour free extra =
    record { from = 0; rule = Travel free }
    ∷ record { from = RUSH; rule = Travel (free + extra) }
    ∷ record { from = EASING; rule = Until (EASING + free + extra) }
    ∷ record { from = EASING + extra; rule = Travel free }
    ∷ []

-- the day whose two numbers are drawn from this state on
unfoldable pub drawn_day : ℕ → List Piece
drawn_day state = rush_hour (LEAST_FREE + drawn FREE_RANGE state) (1 + drawn EXTRA_RANGE (stepped state))

-- so many days, drawn from this state on
unfoldable pub drawn_days : ℕ → ℕ → List (List Piece)
drawn_days count state = map (λ number. drawn_day (after (2 * number) state)) (range_with_len 0 count)

pub record RoadEnds : Type 0 where
  pub tail : ℕ
  pub head : ℕ

-- a road from a node to another and one back, if that is there
abbrev pub ends_to : Bool → ℕ → ℕ → List RoadEnds
ends_to false node neighbour = []
ends_to true node neighbour = record { tail = node; head = neighbour } ∷ record { tail = neighbour; head = node } ∷ []

-- those of a node and its right neighbour
abbrev pub right_ends : ℕ → ℕ → List RoadEnds
right_ends width node = ends_to (nat_lt (node % width + 1) width) node (node + 1)

-- those of a node and its neighbour in the next row
abbrev pub next_row_ends : ℕ → ℕ → ℕ → List RoadEnds
next_row_ends width height node = ends_to (nat_lt (node / width + 1) height) node (node + width)

-- the roads that a node gives
abbrev pub ends_of_node : ℕ → ℕ → ℕ → List RoadEnds
ends_of_node width height node = right_ends width node ++ next_row_ends width height node

-- the ends of the roads by number: the nodes give theirs in rising order
unfoldable pub grid_ends : ℕ → ℕ → List RoadEnds
grid_ends width height = flat_map (ends_of_node width height) (range_with_len 0 (width * height))

-- roads with these ends, each with one of 64 profiles, drawn from this state on
abbrev pub drawn_roads : List RoadEnds → ℕ → List RoadArc
drawn_roads [] state = []
drawn_roads (ends ∷ rest) state = record { tail = ends.tail; head = ends.head; profile = drawn PROFILES state } ∷ drawn_roads rest (stepped state)

-- the network of the grid of this width and height, drawn from this state on: first the days of its 64 profiles, and then its roads
unfoldable pub grid_network : ℕ → ℕ → ℕ → NetworkRead
grid_network start width height = record {
  network = record {
    nodes = width * height;
    arcs = drawn_roads (grid_ends width height) (after (2 * PROFILES) start);
    profiles = drawn_days PROFILES start;
  };
  places = grid_places width height;
}

-- the state after all draws of this grid
unfoldable pub behind_grid : ℕ → ℕ → ℕ → ℕ
behind_grid start width height = after (2 * PROFILES + length (grid_ends width height)) start
