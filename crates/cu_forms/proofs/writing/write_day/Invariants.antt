-- The pieces up to a second were written.
use Rattle.std.proofs.Common.{◌≤◌, ◌-◌, List}
use Rattle.cu_io.specs.Sinks.{WroteAll}
use Rattle.cu_model.specs.declared.profiles.Piece.{Piece}
use Rattle.cu_model.specs.Days.{day}
use Rattle.cu_model.specs.DayForms.{IsFormUntil}
use Rattle.cu_forms.specs.DayTexts.{day_text}
use Rattle.cu_forms.proofs.writing.write_day.Given as goal

abbrev pub invariant-pieces : goal.invariant-pieces
invariant-pieces g l =
    (l.from ≤ day) × (done : List Piece) × IsFormUntil (g.F.DayValues.value l.function) 0 done l.from
    × WroteAll (g.K.Sink.state l.fn.sink) (g.K.Sink.state l.sink) (day_text done)

abbrev pub decreases-pieces : goal.decreases-pieces
decreases-pieces g l = day - l.from
