-- What a checker of pieces keeps of those that it was given. A fault of a second shows where a piece ends, so the seconds between aren't looked at.
use Rattle.std.specs.Prelude.{ℕ, List, [], ◌∷◌, Option, Some, None, ◌≡◌, ◌+◌, ◌-◌, ◌==◌, nat_lt, not, max, length, position, if◌then◌else◌}
use Rattle.std.specs.Option.{option_or, option_map}
use Rattle.cu_model.specs.declared.profiles.Piece.{Piece}
use Rattle.cu_model.specs.declared.profiles.Rule.{Rule}
use Rattle.cu_model.specs.declared.profiles.Rule.TheVariants.{Travel, Until, Closed}
use Rattle.cu_model.specs.declared.profiles.PieceFault.{PieceFault}
use Rattle.cu_model.specs.declared.profiles.PieceFault.TheVariants as fault
use Rattle.cu_model.specs.declared.checker.Ends.{Ends}
use Rattle.cu_model.specs.declared.checker.PieceChecker.{PieceChecker}
use Rattle.cu_model.specs.Days.{day}
use Rattle.cu_model.specs.Profiles.{is_closed_piece, is_in_limit, rule_value}
use Rattle.cu_model.specs.Faults.{first_fallen}

-- the last of a piece and those after it
abbrev pub last_from : Piece → List Piece → Piece
last_from piece [] = piece
last_from piece (next ∷ pieces) = last_from next pieces

-- the first piece and the last
abbrev pub ends_of : List Piece → Option Ends
ends_of [] = None
ends_of (piece ∷ pieces) = Some (record { first = piece; last = last_from piece pieces })

-- the least second from `from` on and below `end` at which a rule arrives before it leaves
abbrev pub early_of : Rule → ℕ → ℕ → Option ℕ
early_of (Travel seconds) from end = None
early_of (Closed value) from end = None
early_of (Until arrival) from end = if nat_lt (max from (arrival + 1)) end then Some (max from (arrival + 1)) else None

-- the same of a piece until the next begins
abbrev pub early_until : Piece → ℕ → Option ℕ
early_until piece end = early_of piece.rule piece.from end

-- this second, where leaving then by this rule is overtaken by whoever arrives at `next`
abbrev pub overtaken : Rule → ℕ → ℕ → Option ℕ
overtaken rule second next = if nat_lt next (rule_value rule 0 second) then Some second else None

-- the last second of a piece, where the first of the next piece overtakes it
abbrev pub overtaken_by : Piece → Piece → Option ℕ
overtaken_by piece next = overtaken piece.rule (next.from - 1) (rule_value next.rule 0 next.from)

-- the first find between neighbours
abbrev pub first_between : (Piece → Piece → Option ℕ) → List Piece → Option ℕ
first_between find [] = None
first_between find (piece ∷ []) = None
first_between find (piece ∷ next ∷ pieces) = option_or (find piece next) (first_between find (next ∷ pieces))

-- how many pieces a checker was given
abbrev pub pushed : PieceChecker → ℕ
pushed checker = checker.count

-- the checker was given these pieces, in this order
pub record Checks (checker : PieceChecker) (pieces : List Piece) : Type 0 where
  pub count : checker.count ≡ length pieces
  pub ends : checker.ends ≡ ends_of pieces
  pub limit : checker.limit ≡ position (λ piece. not (is_in_limit piece)) pieces
  pub rising : checker.rising ≡ first_fallen 0 pieces
  pub closed : checker.closed ≡ position is_closed_piece pieces
  pub early : checker.early ≡ first_between (λ piece next. early_until piece next.from) pieces
  pub fifo : checker.fifo ≡ first_between overtaken_by pieces
