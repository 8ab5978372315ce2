use Rattle.cu_runs.specs.Least.{least_arrival}
use Rattle.cu_runs.specs.PackedRuns.{composed}
use Rattle.cu_runs.proofs.AddLaws.{composed_order, lesser_order}
use Rattle.cu_runs.proofs.merger.Merger.add.Goals as goal

pub invariant_of-self-2 : goal.invariant_of-self-2
invariant_of-self-2 c =
    lesser_order (least_arrival c.self.inside.parts) (least_arrival c.add.new.self) (composed c.args.first.now c.args.second.now) c.self.invariant
    (composed_order c.args.first.now c.args.second.now c.requires.first c.requires.second) c.in_ok-add.ensures.arrival
