-- Worked rows: measured profiles, the least arrivals from some seconds on, and the pieces that stand for them.
use Rattle.std.proofs.Common.{◌≡◌, ℕ, List, [], ◌∷◌, refl}
use Rattle.cu_model.specs.declared.profiles.Piece.{Piece}
use Rattle.cu_model.specs.declared.profiles.Rule.TheVariants.{Travel, Until}
use Rattle.cu_model.specs.Profiles.{profile_value}
use Rattle.cu_wait.specs.declared.points.Mode.TheVariants.{Line, Step}
use Rattle.cu_wait.specs.declared.points.Point.{Point}
use Rattle.cu_wait.specs.Measured.{measured_travel}
use Rattle.cu_wait.specs.Legs.{hull_at, legs_of}

abbrev values : (ℕ → ℕ) → List ℕ → List ℕ
values f [] = []
values f (s ∷ ss) = f s ∷ values f ss

-- a fall at 1,000: it is best to wait from 921 on
abbrev falling : List Point
falling = record { second = 0; mode = Step; travel = 100 } ∷ record { second = 1000; mode = Step; travel = 20 } ∷ []

abbrev falling_pieces : List Piece
falling_pieces = record { from = 0; rule = Travel 100 } ∷ record { from = 921; rule = Until 1020 } ∷ record { from = 1001; rule = Travel 20 } ∷ []

abbrev seconds_1 : List ℕ
seconds_1 = 0 ∷ 920 ∷ 921 ∷ 950 ∷ 1000 ∷ 1001 ∷ 86399 ∷ []

falling_hull : values (hull_at (legs_of falling)) seconds_1 ≡ 100 ∷ 1020 ∷ 1020 ∷ 1020 ∷ 1020 ∷ 1021 ∷ 86419 ∷ []
falling_hull = refl

falling_same : values (profile_value falling_pieces) seconds_1 ≡ values (hull_at (legs_of falling)) seconds_1
falling_same = refl

-- lines: two seconds up within four, and two down again until the day's end
abbrev lines : List Point
lines = record { second = 0; mode = Line; travel = 10 } ∷ record { second = 4; mode = Line; travel = 12 } ∷ []

abbrev line_pieces : List Piece
line_pieces = record { from = 0; rule = Travel 10 } ∷ record { from = 2; rule = Travel 11 } ∷ record { from = 4; rule = Until 16 } ∷ record { from = 6; rule = Travel 11 }
    ∷ record { from = 43203; rule = Travel 10 } ∷ []

abbrev seconds_2 : List ℕ
seconds_2 = 0 ∷ 1 ∷ 2 ∷ 3 ∷ 4 ∷ 5 ∷ 6 ∷ 43202 ∷ 43203 ∷ 86399 ∷ []

line_travels : values (measured_travel lines) seconds_2 ≡ 10 ∷ 10 ∷ 11 ∷ 11 ∷ 12 ∷ 11 ∷ 11 ∷ 11 ∷ 10 ∷ 10 ∷ []
line_travels = refl

line_same : values (profile_value line_pieces) seconds_2 ≡ values (hull_at (legs_of lines)) seconds_2
line_same = refl

-- the best may be to wait past midnight
abbrev night : List Point
night = record { second = 0; mode = Step; travel = 20 } ∷ record { second = 86300; mode = Step; travel = 200 } ∷ []

abbrev night_pieces : List Piece
night_pieces = record { from = 0; rule = Travel 20 } ∷ record { from = 86300; rule = Until 86420 } ∷ []

abbrev seconds_3 : List ℕ
seconds_3 = 0 ∷ 86299 ∷ 86300 ∷ 86399 ∷ []

night_hull : values (hull_at (legs_of night)) seconds_3 ≡ 20 ∷ 86319 ∷ 86420 ∷ 86420 ∷ []
night_hull = refl

night_same : values (profile_value night_pieces) seconds_3 ≡ values (hull_at (legs_of night)) seconds_3
night_same = refl
