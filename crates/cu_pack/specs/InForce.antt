-- What is in force at a second of the day, and at which seconds around it.
use Rattle.std.specs.Prelude.{ℕ, List, [], Option, Some, None, ◌≡◌, ◌≤◌, ◌<◌, slice_get}
use Rattle.std.specs.Option.{option_map}
use Rattle.cu_model.specs.declared.profiles.Piece.{Piece}
use Rattle.cu_model.specs.declared.profiles.Rule.{Rule}
use Rattle.cu_model.specs.declared.roads.RoadArc.{RoadArc}
use Rattle.cu_model.specs.Days.{day}
use Rattle.cu_model.specs.Networks.{NetworkValue}
use Rattle.cu_model.specs.Profiles.{piece_at}
use Rattle.cu_model.specs.Roads.{pieces_of}
use Rattle.cu_interval.specs.declared.ways.Entry.{Entry}
use Rattle.cu_interval.specs.WayLists.{way_at}
use Rattle.cu_pack.specs.declared.cutting.in_force.RuleInForce.{RuleInForce}
use Rattle.cu_pack.specs.declared.way_slices.in_force.WayInForce.{WayInForce}

-- seconds of the day, this one among them
abbrev pub AreAround : ℕ → ℕ → ℕ → Type 0
AreAround second from until = (from ≤ second) × (second < until) × (until ≤ day)

-- a fact of each of these seconds
abbrev pub AtEach : ℕ → ℕ → (ℕ → Type 0) → Type 0
AtEach from until Fact = (t : ℕ) → from ≤ t → t < until → Fact t

-- the way of a list at a second of the day, and seconds around it at each of which it is the one; none where the list is empty
abbrev pub FindsWayInForce : List Entry → ℕ → Option WayInForce → Type 0
FindsWayInForce list second None = list ≡ []
FindsWayInForce list second (Some found) = AreAround second found.from found.until × AtEach found.from found.until (λ t. way_at list t ≡ Some found.way)

-- the rule of the piece that has begun last
abbrev pub rule_of_pieces : List Piece → ℕ → Option Rule
rule_of_pieces pieces second = option_map (λ (piece : Piece). piece.rule) (piece_at pieces second)

abbrev pub rule_by : NetworkValue → Option RoadArc → ℕ → Option Rule
rule_by g None second = None
rule_by g (Some arc) second = rule_of_pieces (pieces_of g arc.profile) second

-- the rule of a road at a second of the day
abbrev pub rule_at : NetworkValue → ℕ → ℕ → Option Rule
rule_at g arc second = rule_by g (slice_get g.arcs arc) second

-- the rule of some pieces at a second of the day, and seconds around it at each of which it is the one
abbrev pub IsPieceInForce : List Piece → ℕ → RuleInForce → Type 0
IsPieceInForce pieces second found = AreAround second found.from found.until × AtEach found.from found.until (λ t. rule_of_pieces pieces t ≡ Some found.rule)

-- the same of a road
abbrev pub IsRuleInForce : NetworkValue → ℕ → ℕ → RuleInForce → Type 0
IsRuleInForce g arc second found = AreAround second found.from found.until × AtEach found.from found.until (λ t. rule_at g arc t ≡ Some found.rule)
