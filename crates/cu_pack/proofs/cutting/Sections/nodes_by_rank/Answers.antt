use Rattle.std.proofs.Common.{◌≡◌, ◌∙◌, ap, sym, arith}
use Rattle.cu_pack.specs.declared.layout.Counts.{Counts}
use Rattle.cu_pack.specs.Reading.{counts_in, shorts_in}
use Rattle.cu_pack.proofs.Read.GraphRead.{nodes_read, shorts_more}
use Rattle.cu_pack.proofs.cutting.Sections.nodes_by_rank.Goals as goal

pub loop-rank-preserved : goal.loop-rank-preserved
loop-rank-preserved c =
    let bytes = c.args.self.now in
    c.in_ok-push.ensures.items ∙ shorts_more bytes c.loop-rank.nodes.items 52 c.loop-rank.rank c.node_at.result c.loop-rank.invariant c.node_at.ensures.node

pub returns : goal.returns
returns c =
    let bytes = c.args.self.now in
    let count = ap (λ (counts : Counts). counts.nodes) c.counts-ranks.ensures.counts in
    let last : c.loop-rank.rank ≡ (counts_in bytes).nodes = omega (arith, count, c.loop-rank-test.false, c.loop-rank.auto.rank-end) in
    record { nodes = c.loop-rank.invariant ∙ ap (shorts_in bytes 52) last ∙ sym (nodes_read bytes) }
