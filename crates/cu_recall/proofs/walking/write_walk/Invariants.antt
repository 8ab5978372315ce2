-- At least so many roads less one of the walk were written, and the next one is entered at this second.
use Rattle.std.proofs.Common.{◌≡◌, ◌≤◌, ◌+◌, ◌*◌, ◌%◌, length}
use Rattle.cu_io.specs.Sinks.{WroteAll}
use Rattle.cu_model.specs.declared.limits.TheConstants.{MAX_UNTIL}
use Rattle.cu_model.specs.Days.{day}
use Rattle.cu_model.specs.Roads.{drive}
use Rattle.cu_drive.specs.RoadTexts.{driven_text, first_after}
use Rattle.cu_recall.specs.Spans.{Knows}
use Rattle.cu_recall.proofs.OnWalk.{IsOnWalk}
use Rattle.cu_recall.proofs.walking.write_walk.Given as goal

abbrev pub invariant-parts : goal.invariant-parts
invariant-parts g l = record {
  last : l._number-end ≡ l.ground.view.now.network.nodes;
  knows : Knows l.ground.view.now l.rows;
  way : (w : IsOnWalk l.ground.view.now l.fn.start.asked l.waiting l.spot l._number)
      × WroteAll (g.K.Sink.state l.fn.sink) (g.K.Sink.state l.sink) (driven_text (g.P.WalkForm.text l.form) l.ground.view.now.network l.fn.start.first w.done l.fn.start.at)
      × (l.first ≡ first_after l.fn.start.first w.done) × (drive l.ground.view.now.network w.done l.fn.start.at ≡ l.entered) × (l.entered % day ≡ l.spot.second)
      × (l.entered ≤ l.fn.start.at + MAX_UNTIL * length w.done);
}
