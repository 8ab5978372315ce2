use Rattle.std.proofs.Common.{◌≡◌, ℕ, Some, None, length, subst, arith}
use Rattle.cu_model.specs.Networks.{NetworkValue}
use Rattle.cu_interval.specs.Steps.ArcLists.{AreListed, IsListOf}
use Rattle.cu_interval.proofs.ArcLists.{listed_more, listed_skip}
use Rattle.cu_interval.proofs.edge_arcs.listed.Goals.{in-Some+in_ok-push+in_ok-push-2, in_default}
use Rattle.cu_interval.proofs.edge_arcs.listed.Goals as goal

pub loop-arc-preserved : goal.loop-arc-preserved
loop-arc-preserved g c =
    let net : NetworkValue = g.N.Roads.network c.args.roads.now in
    elim c.match-list_of_arc.branch [
      | in-Some+in_ok-push+in_ok-push-2 w ↦
          let found : IsListOf net c.args.order.now c.args.graph.now.edges c.loop-arc.arc (Some w.in-Some.number) =
          subst (λ r. IsListOf net c.args.order.now c.args.graph.now.edges c.loop-arc.arc r) w.in-Some.is c.list_of_arc.ensures in
          let more = listed_more net c.args.order.now c.args.graph.now c.requires.chordal c.loop-arc.arc w.in-Some.number c.loop-arc.numbers.items c.loop-arc.arcs.items c.loop-arc.invariant found in
          rw (w.numbers-is, w.arcs-is) (rw (w.in_ok-push.ensures.items, w.in_ok-push-2.ensures.items) more)
      | in_default w ↦
          let loop : IsListOf net c.args.order.now c.args.graph.now.edges c.loop-arc.arc None =
          subst (λ r. IsListOf net c.args.order.now c.args.graph.now.edges c.loop-arc.arc r) w.in_default.is c.list_of_arc.ensures in
          rw (w.numbers-is, w.arcs-is) (listed_skip net c.args.order.now c.args.graph.now c.requires.chordal c.loop-arc.arc c.loop-arc.numbers.items c.loop-arc.arcs.items c.loop-arc.invariant loop)
    ]

pub returns-clause-few : goal.returns-clause-few
returns-clause-few g c = omega (arith, c.loop-arc.invariant.few, c.loop-arc.auto.arc-end, c.arcs-arc-end.ensures.count, c.arcs-arc-end.ensures.sound.few_arcs)

pub returns-clause-listed : goal.returns-clause-listed
returns-clause-listed g c =
    let net : NetworkValue = g.N.Roads.network c.args.roads.now in
    let all : c.loop-arc.arc ≡ length net.arcs = omega (arith, c.loop-arc-test.false, c.loop-arc.auto.arc-end, c.arcs-arc-end.ensures.count) in
    subst (λ (n : ℕ). AreListed net c.args.order.now c.args.graph.now.edges n c.loop-arc.numbers.items c.loop-arc.arcs.items) all c.loop-arc.invariant
