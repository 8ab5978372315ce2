use Rattle.std.proofs.Common.{◌≡◌, ◌+◌, ◌∙◌, ◌++◌, ℕ, suc, map, flat_map, length, ap, sym, arith}
use Rattle.std.specs.List.{range_with_len}
use Rattle.std.proofs.lemmas.Result.{on_ok_weaker}
use Rattle.cu_chordal.specs.Graphs.{first_edge_of}
use Rattle.cu_chordal.proofs.Tables.{first_all}
use Rattle.cu_pack.specs.Spelling.{short}
use Rattle.cu_pack.proofs.Spelled.Putting.{put_next}
use Rattle.cu_pack.proofs.sections.put_edge_starts.Goals as goal

pub loop-rank-preserved : goal.loop-rank-preserved
loop-rank-preserved c =
    put_next short (first_edge_of c.args.graph.now.edges) c.loop-rank.rank c.args.bytes.now.items c.loop-rank.bytes.items c.put_short.new.bytes.items c.loop-rank.invariant
    (c.in_ok-put_short.ensures ∙ ap (λ (n : ℕ). c.loop-rank.bytes.items ++ short n) c.first_edge.ensures.count)

pub returns : goal.returns
returns c =
    let graph = c.args.graph.now in
    let sound = c.edges.ensures.sound in
    let all : first_edge_of graph.edges graph.ranks ≡ length graph.edges =
    first_all graph.edges graph.ranks (λ k d h. let range = sound.in_range k d h in omega (arith, range.0, range.1)) in
    let end : c.loop-rank.rank ≡ graph.ranks = omega arith in
    let count : c.edges.result ≡ first_edge_of graph.edges c.loop-rank.rank = c.edges.ensures.count ∙ sym all ∙ ap (first_edge_of graph.edges) (sym end) in
    let next : c.loop-rank.rank + 1 ≡ suc graph.ranks = omega arith in
    on_ok_weaker c.put_short-2.result
    (λ e.
    put_next short (first_edge_of graph.edges) c.loop-rank.rank c.args.bytes.now.items c.loop-rank.bytes.items c.put_short-2.new.bytes.items c.loop-rank.invariant
    (e ∙ ap (λ (n : ℕ). c.loop-rank.bytes.items ++ short n) count) ∙ ap (λ (n : ℕ). c.args.bytes.now.items ++ flat_map short (map (first_edge_of graph.edges) (range_with_len 0 n))) next)
    c.put_short-2.ensures
