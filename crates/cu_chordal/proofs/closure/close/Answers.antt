use Rattle.std.proofs.Common.{◌≡◌, ◌∙◌, Err, arith, subst, sym}
use Rattle.cu_model.specs.Networks.{NetworkValue}
use Rattle.cu_chordal.specs.declared.closure.CloseRefusal.TheVariants.{TooManyEdges}
use Rattle.cu_chordal.specs.Graphs.{IsChordal}
use Rattle.cu_chordal.specs.Edges.{IsClosureOf}
use Rattle.cu_chordal.proofs.Handing.{passed_on}
use Rattle.cu_chordal.proofs.Crowded.{too_many_edges}
use Rattle.cu_chordal.proofs.Adding.{closing_none, closing_more, closing_all, links_asked}
use Rattle.cu_chordal.proofs.closure.close.Goals as goal

pub loop-rank-init : goal.loop-rank-init
loop-rank-init g c = closing_none (g.N.Roads.network c.args.roads.now) c.args.order.now c.nodes-ranks.result c.in_ok-closing.closing c.in_ok-closing.ensures

pub add_rank-requires-clause-links : goal.add_rank-requires-clause-links
add_rank-requires-clause-links g c =
    let net : NetworkValue = (g.N.Roads.network c.args.roads.now) in
    links_asked net c.args.order.now c.nodes-ranks.result c.loop-rank.rank c.loop-rank.closing c.group.result.now (c.nodes-ranks.ensures.count ∙ c.requires) c.loop-rank.invariant
    (c.in_ok-links.ensures.each c.loop-rank.rank c.group.result.now c.group.ensures)

pub returns-in_err-add_rank-clause-too_many : goal.returns-in_err-add_rank-clause-too_many
returns-in_err-add_rank-clause-too_many g c = λ h.
    let e : c.add_rank.result ≡ Err TooManyEdges =
    passed_on c.add_rank.result c.from_residual-in_err-add_rank.result c.in_err-add_rank.field-0.0 TooManyEdges c.in_err-add_rank.was c.from_residual-in_err-add_rank.ensures.1 h in
    too_many_edges (g.N.Roads.network c.args.roads.now) c.args.order.now c.nodes-ranks.result c.loop-rank.rank c.loop-rank.closing c.group.result.now
    c.loop-rank.invariant.ready c.loop-rank.invariant.ups
    (c.in_ok-links.ensures.each c.loop-rank.rank c.group.result.now c.group.ensures) (c.add_rank.ensures.too_many e)

pub loop-rank-preserved : goal.loop-rank-preserved
loop-rank-preserved g c =
    closing_more (g.N.Roads.network c.args.roads.now) c.args.order.now c.nodes-ranks.result c.loop-rank.rank c.loop-rank.closing c.add_rank.new.self c.group.result.now c.loop-rank.invariant
    (c.in_ok-links.ensures.each c.loop-rank.rank c.group.result.now c.group.ensures) c.in_ok-add_rank.ensures.before c.in_ok-add_rank.ensures.added

pub of_table-requires-clause-sound : goal.of_table-requires-clause-sound
of_table-requires-clause-sound g c =
    let at : c.nodes-ranks.result ≡ (g.N.Roads.network c.args.roads.now).nodes = c.nodes-ranks.ensures.count ∙ c.requires in
    let last : c.loop-rank.rank ≡ c.nodes-ranks.result = omega (arith, c.loop-rank-test.false, c.loop-rank.auto.rank-end) in
    (closing_all (g.N.Roads.network c.args.roads.now) c.args.order.now c.nodes-ranks.result c.loop-rank.rank c.loop-rank.closing c.nodes-ranks.ensures.sound c.requires at last c.loop-rank.invariant).1

pub returns-clause-closed : goal.returns-clause-closed
returns-clause-closed g c =
    let net : NetworkValue = (g.N.Roads.network c.args.roads.now) in
    let at : c.nodes-ranks.result ≡ net.nodes = c.nodes-ranks.ensures.count ∙ c.requires in
    let last : c.loop-rank.rank ≡ c.nodes-ranks.result = omega (arith, c.loop-rank-test.false, c.loop-rank.auto.rank-end) in
    subst (IsClosureOf net c.args.order.now) (sym c.in_ok-of_table.ensures)
    (closing_all net c.args.order.now c.nodes-ranks.result c.loop-rank.rank c.loop-rank.closing c.nodes-ranks.ensures.sound c.requires at last c.loop-rank.invariant).2

pub returns-clause-sound : goal.returns-clause-sound
returns-clause-sound g c =
    let net : NetworkValue = (g.N.Roads.network c.args.roads.now) in
    let at : c.nodes-ranks.result ≡ net.nodes = c.nodes-ranks.ensures.count ∙ c.requires in
    let last : c.loop-rank.rank ≡ c.nodes-ranks.result = omega (arith, c.loop-rank-test.false, c.loop-rank.auto.rank-end) in
    subst IsChordal (sym c.in_ok-of_table.ensures) (closing_all net c.args.order.now c.nodes-ranks.result c.loop-rank.rank c.loop-rank.closing
    c.nodes-ranks.ensures.sound c.requires at last c.loop-rank.invariant).1
