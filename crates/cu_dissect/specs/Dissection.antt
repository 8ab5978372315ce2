-- Orders by nested dissection: a part of a network is cut in two halves and a separator, and each half is a part again.
use Rattle.std.specs.Prelude.{ℕ, zero, suc, Bool, not, true, false, List, [], ◌∷◌, ◌++◌, ◌-◌, ◌/◌, ◌&&◌, ◌||◌, ◌==◌, nat_le, nat_lt, min, max, if◌then◌else◌, length, map, count_by}
use Rattle.std.specs.Prelude.{slice_index, slice_index_or}
use Rattle.std.specs.List.{filter, fold, list_any, range_with_len}
use Rattle.cu_model.specs.declared.roads.RoadArc.{RoadArc}
use Rattle.cu_model.specs.Networks.{NetworkValue}
use Rattle.cu_roads.specs.declared.places.Place.{Place}

-- the three lists of nodes that a part is split into
pub record SplitValue : Type 0 where
  pub left : List ℕ
  pub right : List ℕ
  pub separator : List ℕ

-- an order of the nodes of a part, and all splits in it
pub record Dissected : Type 0 where
  pub order : List ℕ
  pub splits : List SplitValue

-- the place of a node
abbrev pub place_of : List Place → ℕ → Place
place_of places node = slice_index_or places node (record { x = 0; y = 0 })

-- the least of some numbers, 0 of none
abbrev pub least : List ℕ → ℕ
least numbers = fold (λ a b. min a b) (slice_index numbers 0) numbers

-- the greatest of some numbers, 0 of none
abbrev pub greatest : List ℕ → ℕ
greatest numbers = fold (λ a b. max a b) (slice_index numbers 0) numbers

-- a coordinate of each node of a part
abbrev pub coordinates : (Place → ℕ) → List Place → List ℕ → List ℕ
coordinates coordinate places part = map (λ node. coordinate (place_of places node)) part

-- the greatest less the least of a coordinate over a part
abbrev pub spread : (Place → ℕ) → List Place → List ℕ → ℕ
spread coordinate places part = greatest (coordinates coordinate places part) - least (coordinates coordinate places part)

-- whether a part is cut across x: where it spreads at least as far in x as in y
abbrev pub is_wide : List Place → List ℕ → Bool
is_wide places part = nat_le (spread (λ place. place.y) places part) (spread (λ place. place.x) places part)

-- whether a number goes before another, where this tells of two that are the same
abbrev pub goes_first : ℕ → ℕ → Bool → Bool
goes_first a b tie = if nat_lt a b then true else if a == b then tie else false

-- whether a node goes before another: across x by x, then by y, then by its number; across y by y, then by x
abbrev pub goes_before : List Place → Bool → ℕ → ℕ → Bool
goes_before places true u v = goes_first (place_of places u).x (place_of places v).x (goes_first (place_of places u).y (place_of places v).y (nat_lt u v))
goes_before places false u v = goes_first (place_of places u).y (place_of places v).y (goes_first (place_of places u).x (place_of places v).x (nat_lt u v))

-- how many nodes of a part go before a node
abbrev pub place_in : List Place → List ℕ → ℕ → ℕ
place_in places part node = count_by (λ other. goes_before places (is_wide places part) other node) part

-- whether a node is of the first half of a part
abbrev pub is_left : List Place → List ℕ → ℕ → Bool
is_left places part node = nat_lt (place_in places part node) (length part / 2)

-- the first half of a part, by rising number where the part is
abbrev pub left_of : List Place → List ℕ → List ℕ
left_of places part = filter (is_left places part) part

-- the other half
abbrev pub rest_of : List Place → List ℕ → List ℕ
rest_of places part = filter (λ node. not (is_left places part node)) part

-- whether a node is in a list
abbrev pub has : List ℕ → ℕ → Bool
has nodes node = list_any (λ other. other == node) nodes

-- whether a road joins a node to one of these, in either direction
abbrev pub joins : List ℕ → ℕ → RoadArc → Bool
joins nodes node arc = (arc.tail == node && has nodes arc.head) || (arc.head == node && has nodes arc.tail)

-- whether some road does
abbrev pub touches : NetworkValue → List ℕ → ℕ → Bool
touches g nodes node = list_any (joins nodes node) g.arcs

-- the nodes of the other half beside the first half
abbrev pub separator_of : NetworkValue → List Place → List ℕ → List ℕ
separator_of g places part = filter (touches g (left_of places part)) (rest_of places part)

-- and those that are not
abbrev pub right_of : NetworkValue → List Place → List ℕ → List ℕ
right_of g places part = filter (λ node. not (touches g (left_of places part) node)) (rest_of places part)

abbrev pub split_of : NetworkValue → List Place → List ℕ → SplitValue
split_of g places part = record { left = left_of places part; right = right_of g places part; separator = separator_of g places part }

-- a part that isn't split
abbrev pub unsplit : List ℕ → Dissected
unsplit part = record { order = part; splits = [] }

-- a split part, from what its halves give: the halves come before the separator, and the split before those in the halves
abbrev pub around : SplitValue → Dissected → Dissected → Dissected
around split left right = record { order = left.order ++ right.order ++ split.separator; splits = split ∷ (left.splits ++ right.splits) }

-- the order of a part and its splits, over no more levels than the fuel; a part of at most 8 nodes isn't split
abbrev pub dissected_by : NetworkValue → List Place → ℕ → List ℕ → Dissected
dissected_by g places zero part = unsplit part
dissected_by g places (suc fuel) part = if nat_le (length part) 8 then unsplit part else around (split_of g places part)
    (dissected_by g places fuel (left_of places part)) (dissected_by g places fuel (right_of g places part))

-- of the whole network: parts halve, so that there are fewer levels than nodes
abbrev pub dissected : NetworkValue → List Place → Dissected
dissected g places = dissected_by g places g.nodes (range_with_len 0 g.nodes)
