-- Measured profiles converted to pieces: at each second the least raw arrival of those from then on.
use Rattle.std.specs.Prelude.{ℕ, List, [], ◌∷◌, Option, Some, None, false, ◌≡◌, length, slice_get}
use Rattle.cu_model.specs.declared.profiles.Piece.{Piece}
use Rattle.cu_model.specs.DayForms.{IsDayForm}
use Rattle.cu_model.specs.Networks.{NetworkValue}
use Rattle.cu_model.specs.Profiles.{is_closed, profile_value}
use Rattle.cu_wait.specs.declared.points.Point.{Point}
use Rattle.cu_wait.specs.Measured.{raw_arrival}
use Rattle.cu_wait.specs.Waits.{IsLeastFrom}
use Rattle.cu_wait.specs.Networks.{RawProfile, Measured, InPieces, RawNetwork}

-- These pieces stand for a profile: for a measured one they arrive when whoever waits best does, and are the day form of what they say, so
-- that there are no others; those of one in pieces are its own.
abbrev pub StandFor : RawProfile → List Piece → Type 0
StandFor (Measured points) pieces =
    ((t : ℕ) → IsLeastFrom (raw_arrival points) t (profile_value pieces t)) × (is_closed pieces ≡ false) × IsDayForm (profile_value pieces) pieces
StandFor (InPieces own) pieces = pieces ≡ own

-- as many profiles in pieces as measured ones, each for its own
abbrev pub AreConverted : List (List Point) → List (List Piece) → Type 0
AreConverted [] [] = Unit {0}
AreConverted (points ∷ measured) (pieces ∷ profiles) = StandFor (Measured points) pieces × AreConverted measured profiles
AreConverted _ _ = ⊥

-- where one has a profile, the other has pieces that stand for it
abbrev pub StandForSome : Option RawProfile → Option (List Piece) → Type 0
StandForSome None None = Unit {0}
StandForSome (Some profile) (Some pieces) = StandFor profile pieces
StandForSome _ _ = ⊥

-- the same network in pieces
pub record IsConverted (raw : RawNetwork) (g : NetworkValue) : Type 0 where
  pub nodes : g.nodes ≡ raw.nodes
  pub arcs : g.arcs ≡ raw.arcs
  pub count : length g.profiles ≡ length raw.profiles
  pub profiles : (number : ℕ) → StandForSome (slice_get raw.profiles number) (slice_get g.profiles number)
