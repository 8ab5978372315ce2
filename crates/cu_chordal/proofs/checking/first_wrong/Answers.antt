use Rattle.std.proofs.Common.{◌≡◌, ◌<◌, ◌+◌, ◌∙◌, arith, subst}
use Rattle.cu_model.specs.Networks.{NetworkValue}
use Rattle.cu_chordal.specs.Steps.Checking.{IsBeforeCheck}
use Rattle.cu_chordal.proofs.Claims.{end_wrong, none_wrong, right_below_more, wrong_at}
use Rattle.cu_chordal.proofs.checking.first_wrong.Goals as goal

pub accept-requires-clause-links : goal.accept-requires-clause-links
accept-requires-clause-links g c =
    let linked = c.in_ok-links.ensures.each c.loop-rank.rank c.group.result.now c.group.ensures in
    λ k d h. let r = linked.in_range k d h in (r.0, omega (arith, r.1, c.nodes-ranks.ensures.count, c.requires.same, c.loop-rank.invariant.ready.marks))

pub returns-then-not-accept : goal.returns-then-not-accept
returns-then-not-accept g c =
    let net : NetworkValue = (g.N.Roads.network c.args.roads.now) in
    let below : c.loop-rank.rank < net.nodes = omega (arith, c.loop-rank-test.true, c.nodes-ranks.ensures.count, c.requires.same) in
    wrong_at net c.args.order.now c.nodes-ranks.result c.loop-rank.rank c.args.starts.now c.args.uppers.now c.group.result.now c.loop-rank.checking below c.loop-rank.invariant
    (c.in_ok-links.ensures.each c.loop-rank.rank c.group.result.now c.group.ensures) (c.accept.ensures.no c.if-not-accept.true)

pub loop-rank-preserved : goal.loop-rank-preserved
loop-rank-preserved g c =
    let net : NetworkValue = (g.N.Roads.network c.args.roads.now) in
    let below : c.loop-rank.rank < net.nodes = omega (arith, c.loop-rank-test.true, c.nodes-ranks.ensures.count, c.requires.same) in
    let ready : IsBeforeCheck c.nodes-ranks.result (c.loop-rank.rank + 1) c.args.starts.now c.args.uppers.now c.accept.new.self =
    subst (λ n. IsBeforeCheck n (c.loop-rank.rank + 1) c.args.starts.now c.args.uppers.now c.accept.new.self) c.loop-rank.invariant.ready.marks
    (c.accept.ensures.before c.if-not-accept.false) in
    right_below_more net c.args.order.now c.nodes-ranks.result c.loop-rank.rank c.args.starts.now c.args.uppers.now c.group.result.now c.loop-rank.checking c.accept.new.self
    below c.if-starts-ne0.false c.loop-rank.invariant (c.in_ok-links.ensures.each c.loop-rank.rank c.group.result.now c.group.ensures)
    (c.accept.ensures.yes c.if-not-accept.false) ready

pub returns-then-starts-ranks : goal.returns-then-starts-ranks
returns-then-starts-ranks g c =
    let net : NetworkValue = (g.N.Roads.network c.args.roads.now) in
    let at : c.nodes-ranks.result ≡ net.nodes = c.nodes-ranks.ensures.count ∙ c.requires.same in
    let last : c.loop-rank.rank ≡ c.nodes-ranks.result = omega (arith, c.loop-rank-test.false, c.loop-rank.auto.rank-end) in
    end_wrong net c.args.order.now c.nodes-ranks.result c.loop-rank.rank c.args.starts.now c.args.uppers.now c.loop-rank.checking at last
    (λ e. omega (arith, c.if-starts-ranks.true, e)) c.loop-rank.invariant

pub returns : goal.returns
returns g c =
    let net : NetworkValue = (g.N.Roads.network c.args.roads.now) in
    let at : c.nodes-ranks.result ≡ net.nodes = c.nodes-ranks.ensures.count ∙ c.requires.same in
    let last : c.loop-rank.rank ≡ c.nodes-ranks.result = omega (arith, c.loop-rank-test.false, c.loop-rank.auto.rank-end) in
    none_wrong net c.args.order.now c.nodes-ranks.result c.loop-rank.rank c.args.starts.now c.args.uppers.now c.loop-rank.checking
    c.if-starts-ne0.false at last (omega (arith, c.if-starts-ranks.false)) c.loop-rank.invariant
