use Rattle.std.proofs.Common.{ℕ, arith, subst}
use Rattle.cu_sweep.specs.Answers.{IsAnswer}
use Rattle.cu_router.proofs.ArrivalLaws.{arrival_near}
use Rattle.cu_router.proofs.query_room.find_swept.Goals as goal

pub returns-in-Arrive-clause-found : goal.returns-in-Arrive-clause-found
returns-in-Arrive-clause-found c =
    let h = c.args.recall.now in
    let placed = c.requires.built.sound.order.placed in
    let u = placed c.args.query.from c.args.question.from c.requires.start in
    let v = placed c.args.query.to c.args.question.to c.requires.stop in
    let least = subst (λ (second : ℕ). IsAnswer h.network c.args.query.from c.args.query.to second c.find.result) c.requires.same
    (c.find.ensures.least c.requires.built c.args.query.from c.args.query.to u v) in
    subst (IsAnswer h.network c.args.query.from c.args.query.to c.args.query.second) c.in-Arrive.is least

pub returns-in-Arrive-clause-near : goal.returns-in-Arrive-clause-near
returns-in-Arrive-clause-near c =
    let h = c.args.recall.now in
    let sound = c.requires.built.sound in
    let u = sound.order.placed c.args.query.from c.args.question.from c.requires.start in
    let v = sound.order.placed c.args.query.to c.args.question.to c.requires.stop in
    let swept = subst (λ (second : ℕ). IsAnswer h.network c.args.query.from c.args.query.to second c.find.result) c.requires.same
    (c.find.ensures.least c.requires.built c.args.query.from c.args.query.to u v) in
    let least = subst (IsAnswer h.network c.args.query.from c.args.query.to c.args.query.second) c.in-Arrive.is swept in
    let near = arrival_near h.network h.order sound.network sound.order sound.same c.args.question.from c.args.question.to c.args.query.from c.args.query.to c.args.query.second
    c.in-Arrive.arrival u v least in
    let few = sound.network.few_nodes in
    let day = c.requires.second in
    omega (arith, near, few, day)
