-- Day profiles: what a list of pieces says about each second, and which lists are profiles.
use Rattle.std.specs.Prelude.{ℕ, List, [], ◌∷◌, Bool, true, false, Option, Some, None, ◌≡◌, ◌<◌, ◌+◌, ◌*◌, ◌/◌, ◌%◌, ◌&&◌, ◌==◌, nat_lt, nat_le, slice_get, length, All}
use Rattle.std.specs.Option.{option_map}
use Rattle.cu_model.specs.declared.limits.TheConstants.{MAX_TRAVEL, MAX_UNTIL}
use Rattle.cu_model.specs.declared.profiles.Piece.{Piece}
use Rattle.cu_model.specs.declared.profiles.Rule.{Rule}
use Rattle.cu_model.specs.declared.profiles.Rule.TheVariants.{Travel, Until, Closed}
use Rattle.cu_model.specs.Begun.{last_begun, Rises}
use Rattle.cu_model.specs.Days.{day, IsOnward, KeepsOrder}

abbrev pub is_closed_rule : Rule → Bool
is_closed_rule (Travel seconds) = false
is_closed_rule (Until arrival) = false
is_closed_rule (Closed value) = true

-- the last piece that has begun by this second of the day
abbrev pub piece_at : List Piece → ℕ → Option Piece
piece_at pieces second = last_begun (λ (piece : Piece). piece.from) pieces second

-- When a rule arrives, leaving on this day at this second of it. A closed rule has no arrival, and nothing is said by it: where a value is
-- needed all the same, the departure stands in its place.
abbrev pub rule_value : Rule → ℕ → ℕ → ℕ
rule_value (Travel seconds) days second = (day * days + second) + seconds
rule_value (Until arrival) days second = day * days + arrival
rule_value (Closed value) days second = day * days + second

-- the same of a piece; 0 where none has begun, which no profile lets happen
abbrev pub piece_value : Option Piece → ℕ → ℕ → ℕ
piece_value None days second = 0
piece_value (Some piece) days second = rule_value piece.rule days second

-- the profile value: when these pieces arrive, leaving at an absolute second; they aren't closed
abbrev pub profile_value : List Piece → ℕ → ℕ
profile_value pieces t = piece_value (piece_at pieces (t % day)) (t / day) (t % day)

abbrev pub is_closed_piece : Piece → Bool
is_closed_piece piece = is_closed_rule piece.rule

-- a profile whose only piece is closed
abbrev pub is_closed : List Piece → Bool
is_closed [] = false
is_closed (piece ∷ []) = is_closed_piece piece
is_closed (piece ∷ next ∷ pieces) = false

-- whether a rule names no more seconds than it may
abbrev pub is_rule_in_limit : Rule → Bool
is_rule_in_limit (Travel seconds) = nat_le seconds MAX_TRAVEL
is_rule_in_limit (Until arrival) = nat_le arrival MAX_UNTIL
is_rule_in_limit (Closed value) = value == 0

-- whether a piece begins in the day, and its rule is within its limit
abbrev pub is_in_limit : Piece → Bool
is_in_limit piece = nat_lt piece.from day && is_rule_in_limit piece.rule

-- A profile: pieces within their limits, the first from second 0, each from a later second than the one before. Either its one piece is
-- closed, or no piece is; then it arrives no earlier than it leaves and lets no later departure arrive earlier, midnight included. (At a
-- closed piece the last two hold by the value that stands in place of its arrival.)
pub record IsProfile (pieces : List Piece) : Type 0 where
  pub limits : All (λ (piece : Piece). is_in_limit piece ≡ true) pieces
  pub starts : option_map (λ (piece : Piece). piece.from) (slice_get pieces 0) ≡ Some 0
  pub rises : Rises (λ (piece : Piece). piece.from) pieces
  pub alone : 1 < length pieces → All (λ (piece : Piece). is_closed_piece piece ≡ false) pieces
  pub onward : IsOnward (profile_value pieces)
  pub fifo : KeepsOrder (profile_value pieces)
