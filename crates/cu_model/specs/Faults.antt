-- The first fault of a list of pieces, in the order: a limit, the start, a piece that doesn't rise, a closed piece beside others, an early
-- arrival, an overtaking.
use Rattle.std.specs.Prelude.{ℕ, zero, suc, List, [], ◌∷◌, Bool, false, not, Option, Some, None, ◌+◌, ◌==◌, nat_lt, length, position, if◌then◌else◌}
use Rattle.std.specs.Option.{option_map, option_or}
use Rattle.cu_model.specs.declared.profiles.Piece.{Piece}
use Rattle.cu_model.specs.declared.profiles.PieceFault.{PieceFault}
use Rattle.cu_model.specs.declared.profiles.PieceFault.TheVariants.{Limit, Start, Rising, Closed, Early, Fifo}
use Rattle.cu_model.specs.Days.{day}
use Rattle.cu_model.specs.Profiles.{is_closed_piece, is_in_limit, profile_value}

-- the least number below n that passes a test
unfoldable pub least : (ℕ → Bool) → ℕ → Option ℕ
least test zero = None
least test (suc n) = option_or (least test n) (if test n then Some n else None)

-- whether the first piece is from second 0
abbrev pub starts_day : List Piece → Bool
starts_day [] = false
starts_day (piece ∷ pieces) = piece.from == 0

-- the index of the first piece that isn't from a later second than the one before, where the first of these has this index
abbrev pub first_fallen : ℕ → List Piece → Option ℕ
first_fallen index [] = None
first_fallen index (piece ∷ []) = None
first_fallen index (piece ∷ next ∷ pieces) = if nat_lt piece.from next.from then first_fallen (index + 1) (next ∷ pieces) else Some (index + 1)

abbrev pub limit_fault : List Piece → Option PieceFault
limit_fault pieces = option_map Limit (position (λ piece. not (is_in_limit piece)) pieces)

abbrev pub start_fault : List Piece → Option PieceFault
start_fault pieces = if starts_day pieces then None else Some Start

abbrev pub rising_fault : List Piece → Option PieceFault
rising_fault pieces = option_map Rising (first_fallen 0 pieces)

-- the first closed piece, where there is more than one piece
abbrev pub closed_fault : List Piece → Option PieceFault
closed_fault pieces = if nat_lt 1 (length pieces) then option_map Closed (position is_closed_piece pieces) else None

-- the least second of the day with an arrival before the departure
abbrev pub early_fault : List Piece → Option PieceFault
early_fault pieces = option_map Early (least (λ second. nat_lt (profile_value pieces second) second) day)

-- the least second of the day after which leaving one second later arrives earlier; midnight follows 86,399
abbrev pub fifo_fault : List Piece → Option PieceFault
fifo_fault pieces = option_map Fifo (least (λ second. nat_lt (profile_value pieces (second + 1)) (profile_value pieces second)) day)

-- the first fault of these pieces, none exactly where they are a profile
abbrev pub piece_fault : List Piece → Option PieceFault
piece_fault pieces =
    option_or (limit_fault pieces) (option_or (start_fault pieces) (option_or (rising_fault pieces)
    (option_or (closed_fault pieces) (option_or (early_fault pieces) (fifo_fault pieces)))))
