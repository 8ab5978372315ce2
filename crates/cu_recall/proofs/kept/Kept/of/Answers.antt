use Rattle.std.proofs.Common.{arith}
use Rattle.cu_recall.specs.declared.spans.Parts.TheVariants as part
use Rattle.cu_recall.proofs.Keeping.{evenly_met}
use Rattle.cu_recall.proofs.kept.Kept.of.Goals as goal

pub returns-in-Road-clause-holds : goal.returns-in-Road-clause-holds
returns-in-Road-clause-holds c h list holds =
    evenly_met h list c.args.met _ (part.Road c.in-Road.road) c.in-Road.is (omega (arith, c.requires.order)) holds

pub returns-in-Halves-clause-holds : goal.returns-in-Halves-clause-holds
returns-in-Halves-clause-holds c h list holds =
    evenly_met h list c.args.met _ (part.Halves c.in-Halves.first c.in-Halves.second) c.in-Halves.is (omega (arith, c.requires.order)) holds
