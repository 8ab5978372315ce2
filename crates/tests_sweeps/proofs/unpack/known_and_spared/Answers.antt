use Rattle.cu_unpack.specs.RebuiltRuns.{IsNeeded}
use Rattle.cu_unpack.proofs.Learning.{none_known}
use Rattle.tests_sweeps.proofs.unpack.known_and_spared.Goals as goal

pub learn-requires-clause-keeps : goal.learn-requires-clause-keeps
learn-requires-clause-keeps c =
    let h = c.args.hierarchy.now in
    none_known h (IsNeeded h.edges 2) c.in_ok-packed.packed c.in_ok-packed.ensures.unknown
