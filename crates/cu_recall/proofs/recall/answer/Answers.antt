use Rattle.std.proofs.Common.{arith, sym}
use Rattle.cu_recall.proofs.Answering.{driven_at, driven_long, driven_near}
use Rattle.cu_recall.proofs.recall.answer.Goals as goal

pub returns-then-driven-nodes-clause-answer : goal.returns-then-driven-nodes-clause-answer
returns-then-driven-nodes-clause-answer c =
    sym (driven_long c.args.view.now c.requires.sound c.args.edge c.args.dir c.args.at c.requires.edge c.args.driven c.requires.driven (omega (arith, c.if-driven-nodes.true, c.nodes.ensures.count)))

pub overflow_add-result : goal.overflow_add-result
overflow_add-result c =
    let near = driven_near c.args.view.now c.requires.sound c.args.edge c.args.dir c.args.at c.requires.edge c.args.driven c.requires.driven in
    let few = c.requires.sound.network.few_nodes in
    omega (arith, near, few, c.if-driven-nodes.false, c.nodes.ensures.count, c.requires.time)

pub returns-clause-answer : goal.returns-clause-answer
returns-clause-answer c =
    sym (driven_at c.args.view.now c.requires.sound c.args.edge c.args.dir c.args.at c.requires.edge c.args.driven c.requires.driven (omega (arith, c.if-driven-nodes.false, c.nodes.ensures.count)))

pub returns-clause-near : goal.returns-clause-near
returns-clause-near c =
    let near = driven_near c.args.view.now c.requires.sound c.args.edge c.args.dir c.args.at c.requires.edge c.args.driven c.requires.driven in
    let few = c.requires.sound.network.few_nodes in
    (omega arith, omega (arith, near, few, c.if-driven-nodes.false, c.nodes.ensures.count))
