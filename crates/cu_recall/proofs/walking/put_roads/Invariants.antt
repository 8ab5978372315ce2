-- So many roads were written, and the next one is entered at this second.
use Rattle.std.proofs.Common.{◌≡◌, ◌≤◌, ◌+◌, ◌*◌, take}
use Rattle.cu_io.specs.Sinks.{WroteAll}
use Rattle.cu_model.specs.declared.limits.TheConstants.{MAX_UNTIL}
use Rattle.cu_model.specs.Roads.{drive}
use Rattle.cu_drive.specs.RoadTexts.{driven_text, first_after}
use Rattle.cu_recall.proofs.walking.put_roads.Given as goal

abbrev pub invariant-roads : goal.invariant-roads
invariant-roads g l = record {
  wrote : WroteAll (g.K.Sink.state l.fn.sink) (g.K.Sink.state l.sink) (driven_text (g.P.WalkForm.text l.form) l.view.network l.fn.first (take l.road-index l.roads) l.at);
  first : l.first ≡ first_after l.fn.first (take l.road-index l.roads);
  entered : l.entered ≡ drive l.view.network (take l.road-index l.roads) l.at;
  near : l.entered ≤ l.at + MAX_UNTIL * l.road-index;
}
