use Rattle.std.proofs.Common.{arith, subst, sym}
use Rattle.cu_pack.specs.Steps.Cursors.{AreCursors}
use Rattle.cu_pack.proofs.Numbering.Cursors.{cursors_start}
use Rattle.cu_pack.proofs.halving.HalvesInFile.of.Goals as goal

pub invariant_of-result : goal.invariant_of-result
invariant_of-result c =
    let bytes = c.args.sections.now in
    record {
      graph = c.requires.graph;
      inside = omega arith;
      follow = subst (AreCursors bytes 0) (sym c.in_ok-places.ensures.starts) (cursors_start bytes c.requires.graph);
    }
