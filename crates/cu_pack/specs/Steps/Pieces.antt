-- Pieces that stand one behind the other.
use Rattle.std.specs.Prelude.{ℕ, List, ◌≤◌, ◌<◌, ◌-◌, ◌⊎◌, map}
use Rattle.std.specs.List.{range_with_len}
use Rattle.cu_model.specs.declared.profiles.Piece.{Piece}
use Rattle.cu_model.specs.Profiles.{IsProfile}
use Rattle.cu_pack.specs.Reading.{piece_from, piece_kind, piece_place}

-- the pieces from one on and before another
abbrev pub pieces_between : List ℕ → ℕ → ℕ → List Piece
pieces_between bytes start end = map (λ piece. piece_from bytes (piece_place bytes piece)) (range_with_len start (end - start))

-- one of them is of no kind, or they are no profile
abbrev pub AreNoProfile : List ℕ → ℕ → ℕ → Type 0
AreNoProfile bytes start end =
    ((piece : ℕ) × (start ≤ piece) × (piece < end) × (2 < piece_kind bytes piece))
    ⊎ (IsProfile (pieces_between bytes start end) → ⊥)
