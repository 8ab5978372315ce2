use Rattle.std.proofs.Common.{rules}
use Rattle.cu_edits.proofs.AddingEdges.{adds_edge, adds_no_edge}
use Rattle.cu_edits.proofs.touching.add_between.Goals as goal

pub returns-in-Some : goal.returns-in-Some
returns-in-Some c =
    let edges = c.args.graph.now.edges in
    adds_edge edges c.edge.ensures.sound.rising c.args.first c.args.second c.min-low.result c.max.result c.in-Some.edge c.args.buckets.now c.add.new.self c.add.result
    (search rules) (search rules) c.in-Some.ensures.found
    c.add.ensures.fresh c.add.ensures.held c.add.ensures.stays

pub returns-in_default : goal.returns-in_default
returns-in_default c =
    adds_no_edge c.args.graph.now.edges c.args.first c.args.second c.min-low.result c.max.result c.args.buckets.now (search rules) (search rules) c.in_default.ensures.found
