-- A grid is a network, and its nodes lie in the limits of coordinates.
use Rattle.std.proofs.Common.{◌≡◌, ◌∙◌, ◌≤◌, ◌<◌, ◌+◌, ◌*◌, ◌/◌, ◌%◌, ℕ, List, [], ◌∷◌, ◌++◌, Bool, true, false, refl, ap, sym, subst, arith, inl, inr, get_or, length, length-append, map}
use Rattle.std.specs.Prelude.{All, Ok, Some, nat_lt, slice_get, sum_by}
use Rattle.std.specs.List.{flat_map, range_with_len}
use Rattle.std.proofs.lemmas.Bool.{cases_lt, ltb-true}
use Rattle.std.proofs.lemmas.Nat.{div-add-mod', div-mul-add, mod-mul-add, mod_below, mul-add-lt, mul-le}
use Rattle.std.proofs.Math.Nat.{add-mul, mul_comm}
use Rattle.std.proofs.lemmas.List.Elements.{All-append, All-cons, All-head, All-map, All-nil, All-tail}
use Rattle.std.proofs.lemmas.List.FromFn.{get_or-map-range_with_len, get_or-range_with_len, length-map-range_with_len, length-range_with_len}
use Rattle.std.proofs.lemmas.List.Sums.{sum_by-cons}
use Rattle.std.proofs.lemmas.Option.{slice_get-get_or}
use Rattle.csv.proofs.RoundTrip.{rows_text}
use Rattle.cu_model.specs.declared.roads.RoadArc.{RoadArc}
use Rattle.cu_model.specs.declared.profiles.Piece.{Piece}
use Rattle.cu_model.specs.Networks.{IsNetwork}
use Rattle.cu_model.specs.Profiles.{IsProfile}
use Rattle.cu_profile.specs.Written.{table_of}
use Rattle.cu_roads.specs.declared.places.Place.{Place}
use Rattle.cu_roads.specs.declared.grids.TheConstants.{DISTANCE, MAX_SIDE, PROFILES}
use Rattle.cu_roads.specs.Draws.{after, drawn, stepped}
use Rattle.cu_roads.specs.Grids.{RoadEnds, drawn_day, drawn_days, drawn_roads, ends_of_node, ends_to, grid_ends, grid_network, grid_place, grid_places, next_row_ends, right_ends}
use Rattle.cu_roads.specs.NetworkTexts.{NetworkRead, network_of}
use Rattle.cu_roads.specs.Steps.TableRows.{IsBetween}
use Rattle.cu_roads.specs.Written.{ThreeTexts, arc_table, node_table, written_network}
use Rattle.cu_roads.proofs.DrawSteps.{drawn_below}
use Rattle.cu_roads.proofs.DrawnGrids.{day_length, day_profile, length-drawn_roads}
use Rattle.cu_roads.proofs.WrittenNetworks.{IsPlace, written_again}

-- the nodes of a grid

range_below : (n : ℕ) → All (λ (k : ℕ). k < n) (range_with_len 0 n)
range_below n = λ i d h.
    let long = length-range_with_len 0 n in
    let inside : i < n = omega (arith, h, long) in
    let is = get_or-range_with_len 0 n i d inside in
    omega (arith, is, inside)

module _ (width height : ℕ) where
  row_within : (node : ℕ) → node < width * height → node / width < height
  row_within node h = elim (cases_lt (node / width) height) [
    | inl within ↦ within
    | inr past ↦
        let whole : node / width * width + node % width ≡ node = div-add-mod' node width in
        let wide : height * width ≤ node / width * width = mul-le height width (node / width) width past (omega arith) in
        let turned : height * width ≡ width * height = mul_comm height width in
        absurd (omega (arith, h, whole, wide, turned))
  ]

  right_within : (node : ℕ) → node < width * height → node % width + 1 < width → node + 1 < width * height
  right_within node h right =
      let whole : node / width * width + node % width ≡ node = div-add-mod' node width in
      let next : node / width * width + (node % width + 1) < width * height = mul-add-lt (node / width) width (node % width + 1) height (row_within node h) right in
      omega (arith, whole, next)

  next_row_within : (node : ℕ) → 1 ≤ width → node / width + 1 < height → node + width < width * height
  next_row_within node wide next =
      let whole : node / width * width + node % width ≡ node = div-add-mod' node width in
      let row : (node / width + 1) * width + node % width < width * height = mul-add-lt (node / width + 1) width (node % width) height next (mod_below node width (omega (arith, wide))) in
      let more : (node / width + 1) * width ≡ node / width * width + 1 * width = add-mul (node / width) 1 width in
      omega (arith, whole, row, more)

  -- their places

  place_within : (node : ℕ) → 1 ≤ width → width ≤ MAX_SIDE → height ≤ MAX_SIDE → node < width * height → IsPlace (grid_place width node)
  place_within node wide few_wide few_high h =
      let x : node % width < width = mod_below node width (omega (arith, wide)) in
      let y = row_within node h in
      (omega (arith, x, few_wide), omega (arith, y, few_high))

  places_within : 1 ≤ width → width ≤ MAX_SIDE → height ≤ MAX_SIDE → All IsPlace (grid_places width height)
  unfolding grid_places
  places_within wide few_wide few_high =
      All-map IsPlace (grid_place width) (range_with_len 0 (width * height))
      (λ i d h. place_within (get_or (range_with_len 0 (width * height)) i d) wide few_wide few_high (range_below (width * height) i d h))

  pub length-places : length (grid_places width height) ≡ width * height
  unfolding grid_places
  length-places = length-map-range_with_len (grid_place width) 0 (width * height)

-- their roads

abbrev IsWithin : ℕ → RoadEnds → Type 0
IsWithin nodes ends = (ends.tail < nodes) × (ends.head < nodes)

ends_to_within : (nodes : ℕ) (is_there : Bool) (node neighbour : ℕ) → (is_there ≡ true → (node < nodes) × (neighbour < nodes)) → All (IsWithin nodes) (ends_to is_there node neighbour)
ends_to_within nodes false node neighbour h = All-nil (IsWithin nodes)
ends_to_within nodes true node neighbour h =
    let there : RoadEnds = record { tail = node; head = neighbour } in
    let back : RoadEnds = record { tail = neighbour; head = node } in
    let (from, to) = h refl in
    All-cons (IsWithin nodes) there (back ∷ []) (from, to) (All-cons (IsWithin nodes) back [] (to, from) (All-nil (IsWithin nodes)))

few_ends_to : (is_there : Bool) (node neighbour : ℕ) → length (ends_to is_there node neighbour) ≤ 2
few_ends_to false node neighbour = omega arith
few_ends_to true node neighbour = omega arith

ends_within : (width height node : ℕ) → 1 ≤ width → node < width * height → All (IsWithin (width * height)) (ends_of_node width height node)
ends_within width height node wide h =
    All-append (IsWithin (width * height)) (right_ends width node) (next_row_ends width height node)
    (ends_to_within (width * height) (nat_lt (node % width + 1) width) node (node + 1)
    (λ e. (h, right_within width height node h (ltb-true (node % width + 1) width e))))
    (ends_to_within (width * height) (nat_lt (node / width + 1) height) node (node + width)
    (λ e. (h, next_row_within width height node wide (ltb-true (node / width + 1) height e))))

few_ends : (width height node : ℕ) → length (ends_of_node width height node) ≤ 4
few_ends width height node =
    let a = few_ends_to (nat_lt (node % width + 1) width) node (node + 1) in
    let b = few_ends_to (nat_lt (node / width + 1) height) node (node + width) in
    omega (arith, length-append (right_ends width node) (next_row_ends width height node), a, b)

all_flat : {X : Type 0} (P : X → Type 0) (f : ℕ → List X) (xs : List ℕ) → All (λ (k : ℕ). All P (f k)) xs → All P (flat_map f xs)
all_flat P f [] a = All-nil P
all_flat P f (x ∷ xs) a =
    All-append P (f x) (flat_map f xs) (All-head (λ (k : ℕ). All P (f k)) x xs a) (all_flat P f xs (All-tail (λ (k : ℕ). All P (f k)) x xs a))

few_flat : {X : Type 0} (f : ℕ → List X) (limit : ℕ) (xs : List ℕ) → ((k : ℕ) → length (f k) ≤ limit) → length (flat_map f xs) ≤ length xs * limit
few_flat f limit [] few = omega arith
few_flat f limit (x ∷ xs) few =
    let long = length-append (f x) (flat_map f xs) in
    let rest = few_flat f limit xs few in
    let first = few x in
    let more : (length xs + 1) * limit ≡ length xs * limit + 1 * limit = add-mul (length xs) 1 limit in
    let same : length (x ∷ xs) ≡ length xs + 1 = omega arith in
    rw same (omega (arith, long, rest, first, more))

all_ends_within : (width height : ℕ) → 1 ≤ width → All (IsWithin (width * height)) (grid_ends width height)
unfolding grid_ends
all_ends_within width height wide =
    all_flat (IsWithin (width * height)) (ends_of_node width height) (range_with_len 0 (width * height))
    (λ i d h. ends_within width height (get_or (range_with_len 0 (width * height)) i d) wide (range_below (width * height) i d h))

few_grid_ends : (width height : ℕ) → length (grid_ends width height) ≤ width * height * 4
unfolding grid_ends
few_grid_ends width height =
    let few = few_flat (ends_of_node width height) 4 (range_with_len 0 (width * height)) (few_ends width height) in
    let count = length-range_with_len 0 (width * height) in
    omega (arith, few, count)

roads_between : (nodes : ℕ) (ends : List RoadEnds) (state : ℕ) → All (IsWithin nodes) ends → All (IsBetween nodes PROFILES) (drawn_roads ends state)
roads_between nodes [] state a = All-nil (IsBetween nodes PROFILES)
roads_between nodes (x ∷ xs) state a =
    let within = All-head (IsWithin nodes) x xs a in
    let road : RoadArc = record { tail = x.tail; head = x.head; profile = drawn PROFILES state } in
    All-cons (IsBetween nodes PROFILES) road (drawn_roads xs (stepped state)) (within.0, within.1, drawn_below PROFILES state (omega arith))
    (roads_between nodes xs (stepped state) (All-tail (IsWithin nodes) x xs a))

-- their profiles

days_valid : (count state : ℕ) → All IsProfile (drawn_days count state)
unfolding drawn_days
days_valid count state =
    All-map IsProfile (λ (number : ℕ). drawn_day (after (2 * number) state)) (range_with_len 0 count)
    (λ i d h. day_profile (after (2 * get_or (range_with_len 0 count) i d) state))

pub length-days : (count state : ℕ) → length (drawn_days count state) ≡ count
unfolding drawn_days
length-days count state = length-map-range_with_len (λ (number : ℕ). drawn_day (after (2 * number) state)) 0 count

sum_of_days : (day : ℕ → List Piece) (xs : List ℕ) → ((k : ℕ) → length (day k) ≡ 4) → sum_by length (map day xs) ≡ 4 * length xs
sum_of_days day [] four = refl
sum_of_days day (x ∷ xs) four =
    let sum = sum_by-cons length (day x) (map day xs) in
    let rest = sum_of_days day xs four in
    let first = four x in
    omega (arith, sum, rest, first)

pub days_pieces : (count state : ℕ) → sum_by length (drawn_days count state) ≡ 4 * count
unfolding drawn_days
days_pieces count state =
    let sum = sum_of_days (λ (number : ℕ). drawn_day (after (2 * number) state)) (range_with_len 0 count) (λ number. day_length (after (2 * number) state)) in
    let long = length-range_with_len 0 count in
    omega (arith, sum, long)

pub grid_sound : (start width height : ℕ) → 1 ≤ width → width ≤ MAX_SIDE → height ≤ MAX_SIDE → IsNetwork (grid_network start width height).network
unfolding grid_network
grid_sound start width height wide few_wide few_high =
    let ends = grid_ends width height in
    let nodes : width * height ≤ MAX_SIDE * MAX_SIDE = mul-le width height MAX_SIDE MAX_SIDE few_wide few_high in
    let roads = few_grid_ends width height in
    let long = length-drawn_roads ends (after (2 * PROFILES) start) in
    let kinds = length-days PROFILES start in
    record {
      few_nodes = nodes;
      few_arcs = omega (arith, nodes, roads, long);
      few_profiles = omega (arith, kinds);
      in_range = subst (λ (n : ℕ). All (IsBetween (width * height) n) (drawn_roads ends (after (2 * PROFILES) start))) (sym kinds)
          (roads_between (width * height) ends (after (2 * PROFILES) start) (all_ends_within width height wide));
      valid = days_valid PROFILES start;
    }

pub grid_again : (start width height : ℕ) → 1 ≤ width → width ≤ MAX_SIDE → height ≤ MAX_SIDE
    → network_of (written_network (grid_network start width height)).nodes (written_network (grid_network start width height)).roads
    (written_network (grid_network start width height)).profiles ≡ Ok (grid_network start width height)
unfolding grid_network
grid_again start width height wide few_wide few_high =
    written_again (grid_network start width height) (grid_sound start width height wide few_wide few_high) (places_within width height wide few_wide few_high)
    (length-places width height) (let sum = days_pieces PROFILES start in omega (arith, sum))

pub grid_texts : (start width height : ℕ) (nodes roads profiles : List ℕ) → nodes ≡ rows_text (node_table (grid_places width height))
    → roads ≡ rows_text (arc_table (drawn_roads (grid_ends width height) (after (2 * PROFILES) start))) → profiles ≡ rows_text (table_of (drawn_days PROFILES start))
    → ◌≡◌ {A = ThreeTexts} (record { nodes = nodes; roads = roads; profiles = profiles }) (written_network (grid_network start width height))
unfolding grid_network written_network
grid_texts start width height nodes roads profiles e f g = rw (e, f, g) refl

-- by columns and rows

place_is : (a b x y : ℕ) → a ≡ x → b ≡ y → ◌≡◌ {A = Place} (record { x = a * DISTANCE; y = b * DISTANCE }) (record { x = x * DISTANCE; y = y * DISTANCE })
place_is a b x y e f = rw (e, f) refl

pub place_by_rows : (width height x y : ℕ) → x < width → y < height → slice_get (grid_places width height) (y * width + x) ≡ Some (record { x = x * DISTANCE; y = y * DISTANCE })
unfolding grid_places
place_by_rows width height x y h k =
    let node = y * width + x in
    let there : node < width * height = mul-add-lt y width x height k h in
    let count = length-map-range_with_len (grid_place width) 0 (width * height) in
    slice_get-get_or (map (grid_place width) (range_with_len 0 (width * height))) node (grid_place width node) (omega (arith, there, count))
    ∙ ap Some (get_or-map-range_with_len (grid_place width) 0 (width * height) node node (grid_place width node) there (omega arith))
    ∙ ap Some (place_is (node % width) (node / width) x y (mod-mul-add y width x h) (div-mul-add y width x h))

pub ends_by_rows : (width height x y : ℕ) → x < width → ends_of_node width height (y * width + x)
    ≡ ends_to (nat_lt (x + 1) width) (y * width + x) (y * width + (x + 1)) ++ ends_to (nat_lt (y + 1) height) (y * width + x) ((y + 1) * width + x)
ends_by_rows width height x y h =
    let node = y * width + x in
    let right : node + 1 ≡ y * width + (x + 1) = omega arith in
    let row : (y + 1) * width ≡ y * width + 1 * width = add-mul y 1 width in
    let below : node + width ≡ (y + 1) * width + x = omega (arith, row) in
    rw (mod-mul-add y width x h, div-mul-add y width x h, right, below) refl

-- the parts of a grid that is drawn are its network
pub grid_parts : (start width height : ℕ) (arcs : List RoadArc) (profiles : List (List Piece)) (places : List Place)
    → arcs ≡ drawn_roads (grid_ends width height) (after (2 * PROFILES) start) → profiles ≡ drawn_days PROFILES start → places ≡ grid_places width height
    → ◌≡◌ {A = NetworkRead} (record { network = record { nodes = width * height; arcs = arcs; profiles = profiles }; places = places }) (grid_network start width height)
unfolding grid_network
grid_parts start width height arcs profiles places arcs_are profiles_are places_are = rw (arcs_are, profiles_are, places_are) refl
