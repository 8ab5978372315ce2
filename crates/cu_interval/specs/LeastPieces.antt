-- The least travel of a profile by its pieces.
use Rattle.std.specs.Prelude.{ℕ, List, [], ◌∷◌, Option, Some, None, ◌-◌, min, slice_get}
use Rattle.cu_model.specs.declared.profiles.Piece.{Piece}
use Rattle.cu_model.specs.declared.profiles.Rule.{Rule}
use Rattle.cu_model.specs.declared.profiles.Rule.TheVariants.{Travel, Until, Closed}
use Rattle.cu_model.specs.declared.roads.RoadArc.{RoadArc}
use Rattle.cu_model.specs.Days.{day}
use Rattle.cu_model.specs.Networks.{NetworkValue}
use Rattle.cu_interval.specs.LeastBounds.{far}

-- the second before which the first of these pieces has not begun; the day's end where there is none
abbrev pub next_from : List Piece → ℕ
next_from [] = day
next_from (piece ∷ pieces) = piece.from

-- the least travel by a rule that holds until this second: waiting is shortest in its last second
abbrev pub rule_least : Rule → ℕ → ℕ
rule_least (Travel seconds) until = seconds
rule_least (Until arrival) until = arrival - (until - 1)
rule_least (Closed value) until = 0

-- the least travel of a profile, piece by piece
abbrev pub pieces_least : List Piece → ℕ
pieces_least [] = far
pieces_least (piece ∷ pieces) = min (rule_least piece.rule (next_from pieces)) (pieces_least pieces)

abbrev pub profile_pieces : Option (List Piece) → ℕ
profile_pieces None = 0
profile_pieces (Some pieces) = pieces_least pieces

abbrev pub arc_pieces : NetworkValue → Option RoadArc → ℕ
arc_pieces g None = 0
arc_pieces g (Some arc) = profile_pieces (slice_get g.profiles arc.profile)

-- the least travel of the road with this number, by the pieces of its profile
abbrev pub road_pieces : NetworkValue → ℕ → ℕ
road_pieces g a = arc_pieces g (slice_get g.arcs a)
