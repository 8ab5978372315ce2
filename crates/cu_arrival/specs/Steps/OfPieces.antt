-- A profile's pieces as runs.
use Rattle.cu_model.specs.declared.profiles.Piece.{Piece}
use Rattle.cu_model.specs.declared.profiles.Rule.{Rule}
use Rattle.cu_model.specs.declared.profiles.Rule.TheVariants.{Travel, Until, Closed}
use Rattle.cu_arrival.specs.declared.runs.Run.{Run}
use Rattle.cu_arrival.specs.declared.runs.RunRule.{RunRule}
use Rattle.cu_arrival.specs.declared.runs.RunRule.TheVariants.{Shift, Fixed}

-- What a run does that says what a piece says. A closed piece has no arrivals, and nobody asks: a closed road has no arrival function.
-- Where a run is needed all the same it arrives as it leaves, as the profile value does that stands in place of the arrival.
abbrev pub run_rule : Rule → RunRule
run_rule (Travel seconds) = Shift seconds
run_rule (Until arrival) = Fixed arrival
run_rule (Closed value) = Shift 0

-- the run that says what a piece says
abbrev pub run_of : Piece → Run
run_of piece = record { from = piece.from; rule = run_rule piece.rule }
