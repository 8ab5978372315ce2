use Rattle.std.proofs.Common.{List, ap, subst, ◌∙◌}
use Rattle.cu_arrival.specs.declared.runs.Run.{Run}
use Rattle.cu_arrival.specs.Runs.{arrival_value}
use Rattle.cu_runs.specs.Least.{Held, least_arrival}
use Rattle.cu_runs.specs.Steps.Merging.{least_held}
use Rattle.cu_runs.specs.Windows.{AreLowered}
use Rattle.cu_runs.proofs.ReadLaws.{least_value}
use Rattle.cu_runs.proofs.WindowLaws.{lowered_same}
use Rattle.cu_runs.proofs.merging.PartMerger.lower_limits.Goals as goal

pub returns : goal.returns
returns c =
    let l = c.self.inside.least in
    subst (λ (hs : List Held). AreLowered c.args.windows (least_arrival hs) c.args.limits.now c.lower_limits.new.limits) c.self.view_is
    (lowered_same c.args.windows (arrival_value c.deref.result.now) (least_arrival (least_held l)) c.args.limits.now c.lower_limits.new.limits
    (λ t h. ap (λ (xs : List Run). arrival_value xs t) c.deref.ensures.value ∙ least_value l c.self.invariant t h) c.lower_limits.ensures)
