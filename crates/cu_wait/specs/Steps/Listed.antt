-- Pieces of a day that are listed stretch by stretch.
use Rattle.std.specs.Prelude.{ℕ, Option, Some, None, ◌≡◌, ◌≤◌, ◌<◌, ◌+◌, ◌-◌, ◌^◌}
use Rattle.cu_model.specs.declared.profiles.Piece.{Piece}
use Rattle.cu_model.specs.declared.profiles.Rule.{Rule}
use Rattle.cu_model.specs.declared.profiles.Rule.TheVariants.{Travel, Until}
use Rattle.cu_model.specs.DayForms.{IsFormPiece, IsFormUntil, rule_from}
use Rattle.cu_model.specs.Days.{day}
use Rattle.cu_wait.specs.declared.stretches.Course.{Course}
use Rattle.cu_wait.specs.declared.stretches.Course.TheVariants.{Rises, Stays}
use Rattle.cu_wait.specs.declared.stretches.Listing.{Listing}
use Rattle.cu_wait.specs.declared.stretches.OpenPiece.{OpenPiece}
use Rattle.cu_wait.specs.declared.stretches.Stretch.{Stretch}

-- the arrival at a second, where that from an earlier one on goes so
abbrev pub course_value : Course → (from arrival second : ℕ) → ℕ
course_value Rises from arrival second = arrival + (second - from)
course_value Stays from arrival second = arrival

abbrev pub rule_by : Course → (from arrival : ℕ) → Rule
rule_by Rises from arrival = Travel (arrival - from)
rule_by Stays from arrival = Until arrival

abbrev pub piece_of : OpenPiece → Piece
piece_of piece = record { from = piece.from; rule = rule_by piece.course piece.from piece.arrival }

-- it begins in the day, and doesn't arrive before
pub record IsOpen (piece : OpenPiece) : Type 0 where
  pub within : piece.from < day
  pub onward : piece.from ≤ piece.arrival
  pub limit : piece.arrival ≤ 2 ^ 31

-- a function goes on so from a second until before another
abbrev pub IsStretch : (ℕ → ℕ) → ℕ → Stretch → Type 0
IsStretch f from stretch = (t : ℕ) → from ≤ t → t < stretch.end → f t ≡ course_value stretch.course from stretch.arrival t

-- and as a piece does, as long as it has lasted
abbrev pub Goes : (ℕ → ℕ) → OpenPiece → ℕ → Type 0
Goes f piece end = (t : ℕ) → piece.from ≤ t → t < end → f t ≡ course_value piece.course piece.from piece.arrival t

-- the course is that of the day form
pub record IsSettled (f : ℕ → ℕ) (piece : OpenPiece) (end : ℕ) : Type 0 where
  pub rule : rule_by piece.course piece.from piece.arrival ≡ rule_from f piece.from
  pub goes : Goes f piece end

-- the pieces before the last are those of the day form, and the last is kept up to this second
pub record IsListed (f : ℕ → ℕ) (listing : Listing) (second : ℕ) : Type 0 where
  pub done : IsFormUntil f 0 listing.pieces.items listing.last.from
  pub goes : Goes f listing.last second

-- the piece that begins at `from` went on, or it ended where this one begins
abbrev pub Follows : (ℕ → ℕ) → (from : ℕ) → Option OpenPiece → OpenPiece → (end : ℕ) → Type 0
Follows f from None last end = (last.from ≡ from) × Goes f last end
Follows f from (Some ended) last end = (ended.from ≡ from) × IsFormPiece f (piece_of ended) last.from × Goes f last end
