use Rattle.std.proofs.Common.{◌≡◌, arith, length}
use Rattle.cu_edits.specs.Steps.Climbing.{IsTo}
use Rattle.cu_edits.proofs.ClimbLaws.{found_heads}
use Rattle.cu_edits.proofs.FoundLaws.{first_more}
use Rattle.cu_edits.proofs.climbing.add_heads.Goals as goal

pub loop-head-preserved : goal.loop-head-preserved
loop-head-preserved c =
    first_more (λ head. IsTo c.args.graph.now.edges c.args.rank head) c.args.heads.now c.loop-head.head-index c.args.edges.now.items
    c.loop-head.edges.items c.add_head.new.edges.items c.loop-head.invariant c.in_ok-add_head.ensures

pub returns : goal.returns
returns c =
    let all : c.loop-head.head-index ≡ length c.args.heads.now = omega (arith, c.loop-head-test.false, c.loop-head.auto.head-index-end) in
    found_heads c.args.graph.now.edges c.args.rank c.args.heads.now c.loop-head.head-index c.args.edges.now.items c.loop-head.edges.items all c.loop-head.invariant
