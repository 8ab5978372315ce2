use Rattle.std.proofs.Common.{true}
use Rattle.cu_sweep.proofs.RealLabels.{down_label-leads}
use Rattle.cu_sweep.proofs.RoutedTexts.{routed_drive}
use Rattle.cu_sweep.proofs.laws.routes_are_drives.Goals as goal

pub returns : goal.returns
returns c = record {
  drives = λ h text calls t sound all chained. routed_drive h sound text true calls t all chained;
  chained = λ h from to t label sound is. (down_label-leads h sound from t to label is).2;
}
