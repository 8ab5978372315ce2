-- What a checker of pieces answers by what it keeps.
use Rattle.std.specs.Prelude.{ℕ, List, [], ◌∷◌, Option, Some, None, ◌≡◌, ◌+◌, ◌-◌, ◌==◌, nat_lt, not, max, length, position, if◌then◌else◌}
use Rattle.std.specs.Option.{option_or, option_map}
use Rattle.cu_model.specs.declared.profiles.Piece.{Piece}
use Rattle.cu_model.specs.declared.profiles.Rule.{Rule}
use Rattle.cu_model.specs.declared.profiles.Rule.TheVariants.{Travel, Until, Closed}
use Rattle.cu_model.specs.declared.profiles.PieceFault.{PieceFault}
use Rattle.cu_model.specs.declared.profiles.PieceFault.TheVariants as fault
use Rattle.cu_model.specs.declared.checker.Ends.{Ends}
use Rattle.cu_model.specs.declared.checker.PieceChecker.{PieceChecker}
use Rattle.cu_model.specs.Days.{day}
use Rattle.cu_model.specs.Profiles.{is_closed_piece, is_in_limit, rule_value}
use Rattle.cu_model.specs.Faults.{first_fallen}
use Rattle.cu_model.specs.Checker.{early_until, overtaken, overtaken_by}

-- the last second of a day, where the first of the next day overtakes it
abbrev pub overtaken_at_midnight : Piece → Piece → Option ℕ
overtaken_at_midnight last first = overtaken last.rule (day - 1) (day + rule_value first.rule 0 0)

-- a checker after one more piece, but for the count and the limits
abbrev pub behind : PieceChecker → Ends → Piece → PieceChecker
behind checker ends piece = record checker {
  ends = Some (record { first = ends.first; last = piece });
  rising = option_or checker.rising (if nat_lt ends.last.from piece.from then None else Some checker.count);
  early = option_or checker.early (early_until ends.last piece.from);
  fifo = option_or checker.fifo (overtaken_by ends.last piece);
}

-- the first closed piece is a fault where there is more than one piece
abbrev pub kept_closed : PieceChecker → Option PieceFault
kept_closed checker = if nat_lt 1 checker.count then option_map fault.Closed checker.closed else None

-- the fault of the seconds, where the pieces rise from second 0
abbrev pub kept_seconds : PieceChecker → Ends → Option PieceFault
kept_seconds checker ends =
    option_or (option_map fault.Early (option_or checker.early (early_until ends.last day)))
    (option_map fault.Fifo (option_or checker.fifo (overtaken_at_midnight ends.last ends.first)))

-- the fault that follows from what a checker keeps, where no piece is past a limit
abbrev pub ends_fault : PieceChecker → Option Ends → Option PieceFault
ends_fault checker None = Some fault.Start
ends_fault checker (Some ends) =
    option_or (if ends.first.from == 0 then None else Some fault.Start) (option_or (option_map fault.Rising checker.rising)
    (option_or (kept_closed checker) (kept_seconds checker ends)))

-- the fault that follows from what a checker keeps
abbrev pub kept_fault : PieceChecker → Option PieceFault
kept_fault checker = option_or (option_map fault.Limit checker.limit) (ends_fault checker checker.ends)
