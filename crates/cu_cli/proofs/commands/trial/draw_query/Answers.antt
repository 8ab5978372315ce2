use Rattle.cu_cli.proofs.TrialLaws.{drawn_thrice, query_is}
use Rattle.cu_cli.proofs.commands.trial.draw_query.Goals as goal

pub returns-clause-query : goal.returns-clause-query
returns-clause-query c =
    query_is c.args.nodes c.args.draws.now c.next.new.self c.next-2.new.self c.next.result c.next-2.result c.next-3.result
    c.next.ensures.number c.next.ensures.state c.next-2.ensures.number c.next-2.ensures.state c.next-3.ensures.number

pub returns-clause-state : goal.returns-clause-state
returns-clause-state c =
    drawn_thrice c.args.draws.now c.next.new.self c.next-2.new.self c.next-3.new.self c.next.ensures.state c.next-2.ensures.state c.next-3.ensures.state
