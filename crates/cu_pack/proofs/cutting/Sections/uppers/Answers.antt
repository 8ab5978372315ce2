use Rattle.std.proofs.Common.{◌∙◌}
use Rattle.cu_pack.specs.Layouts.{uppers_at}
use Rattle.cu_pack.specs.Reading.{counts_in}
use Rattle.cu_pack.proofs.Read.GraphRead.{shorts_more}
use Rattle.cu_pack.proofs.cutting.Sections.uppers.Goals as goal

pub loop-edge-preserved : goal.loop-edge-preserved
loop-edge-preserved c =
    let bytes = c.args.self.now in
    c.in_ok-push.ensures.items ∙ shorts_more bytes c.loop-edge.uppers.items (uppers_at (counts_in bytes)) c.loop-edge.edge c.upper.result c.loop-edge.invariant c.upper.ensures.rank
