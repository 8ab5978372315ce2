use Rattle.std.proofs.Common.{rules}
use Rattle.std.proofs.lemmas.Result.{IfOk-weaker}
use Rattle.cu_edits.proofs.FoundLaws.{found_between, found_no_edge}
use Rattle.cu_edits.proofs.finding.find_between.Goals as goal

pub returns-in-Some-clause-added : goal.returns-in-Some-clause-added
returns-in-Some-clause-added c =
    IfOk-weaker c.add.result _ _
    (λ _ one. found_between c.args.graph.now.edges c.edge_near.ensures.sound.rising c.args.first c.args.second c.min.result c.max.result c.in-Some.edge c.args.found.now.found c.add.new.self.found
    (search rules) (search rules) c.in-Some.ensures.found one)
    c.add.ensures.added

pub returns-in-None-clause-added : goal.returns-in-None-clause-added
returns-in-None-clause-added c =
    found_no_edge c.args.graph.now.edges c.args.first c.args.second c.min.result c.max.result c.args.found.now.found (search rules) (search rules) c.in-None.ensures.found
