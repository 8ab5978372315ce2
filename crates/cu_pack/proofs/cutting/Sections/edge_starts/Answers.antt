use Rattle.std.proofs.Common.{◌≡◌, ◌∙◌, suc, ap, arith}
use Rattle.cu_pack.specs.declared.layout.Counts.{Counts}
use Rattle.cu_pack.specs.Layouts.{edge_starts_at}
use Rattle.cu_pack.specs.Reading.{counts_in, shorts_in}
use Rattle.cu_pack.proofs.Read.GraphRead.{shorts_more}
use Rattle.cu_pack.proofs.cutting.Sections.edge_starts.Goals as goal

pub loop-rank-preserved : goal.loop-rank-preserved
loop-rank-preserved c =
    let bytes = c.args.self.now in
    c.in_ok-push.ensures.items ∙ shorts_more bytes c.loop-rank.starts.items (edge_starts_at (counts_in bytes)) c.loop-rank.rank c.edge_start.result c.loop-rank.invariant c.edge_start.ensures.start

pub returns : goal.returns
returns c =
    let bytes = c.args.self.now in
    let count = ap (λ (counts : Counts). counts.nodes) c.counts-ranks.ensures.counts in
    let last : c.loop-rank.rank ≡ suc (counts_in bytes).nodes = omega (arith, count, c.loop-rank-test.false, c.loop-rank.auto.rank-end) in
    record { starts = c.loop-rank.invariant ∙ ap (shorts_in bytes (edge_starts_at (counts_in bytes))) last }
