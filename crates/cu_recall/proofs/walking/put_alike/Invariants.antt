-- So many roads were written.
use Rattle.std.proofs.Common.{◌≡◌, take}
use Rattle.cu_io.specs.Sinks.{WroteAll}
use Rattle.cu_model.specs.Networks.{NetworkValue}
use Rattle.cu_drive.specs.RoadTexts.{driven_text, first_after}
use Rattle.cu_recall.proofs.walking.put_alike.Given as goal

abbrev pub invariant-roads : goal.invariant-roads
invariant-roads g l = record {
  wrote : (net : NetworkValue) → WroteAll (g.K.Sink.state l.fn.sink) (g.K.Sink.state l.sink) (driven_text (g.P.WalkForm.text l.form) net l.fn.first (take l.road-index l.roads) l.at);
  first : l.first ≡ first_after l.fn.first (take l.road-index l.roads);
}
