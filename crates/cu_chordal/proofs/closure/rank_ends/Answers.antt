use Rattle.std.proofs.Common.{◌≡◌, ◌<◌, ◌++◌, ◌∷◌, [], arith, refl, length, subst, ◌∙◌, ap}
use Rattle.std.proofs.lemmas.Slice.{pushed}
use Rattle.cu_model.specs.Networks.{NetworkValue}
use Rattle.cu_chordal.specs.Steps.Links.{AreRankEnds}
use Rattle.cu_chordal.proofs.Linked.{ends_more}
use Rattle.cu_chordal.proofs.closure.rank_ends.Goals as goal

pub loop-arc-preserved : goal.loop-arc-preserved
loop-arc-preserved g c =
    let net : NetworkValue = (g.N.Roads.network c.args.roads.now) in
    let low_same : c.loop-arc.lows.items ≡ c.loop-arc.lows.items = refl in
    let high_same : c.loop-arc.highs.items ≡ c.loop-arc.highs.items = refl in
    let lows_grown : c.push.new.self.items ≡ c.loop-arc.lows.items ++ (c.min.result ∷ []) = pushed (c.min.result ∷ []) low_same c.in_ok-push.was c.push.ensures.items in
    let highs_grown : c.push-in-loop-arc.new.self.items ≡ c.loop-arc.highs.items ++ (c.max.result ∷ []) = pushed (c.max.result ∷ []) high_same c.in_ok-push-2.was c.push-in-loop-arc.ensures.items in
    let x_in : c.rank-tail.result < net.nodes = omega (arith, c.rank-tail.ensures.range, c.requires.same) in
    let y_in : c.rank-head.result < net.nodes = omega (arith, c.rank-head.ensures.range, c.requires.same) in
    ends_more net c.args.order.now c.loop-arc.arc c.rank-tail.result c.rank-head.result c.arc-road.result c.loop-arc.lows.items c.loop-arc.highs.items
    c.push.new.self.items c.push-in-loop-arc.new.self.items c.loop-arc.invariant
    c.arc-road.ensures.there c.rank-tail.ensures.there c.rank-head.ensures.there x_in y_in
    (lows_grown ∙ ap (λ x. c.loop-arc.lows.items ++ (x ∷ [])) c.min.ensures) (highs_grown ∙ ap (λ x. c.loop-arc.highs.items ++ (x ∷ [])) c.max.ensures)

pub returns : goal.returns
returns g c =
    let net : NetworkValue = (g.N.Roads.network c.args.roads.now) in
    let all : c.loop-arc.arc ≡ length net.arcs = omega (arith, c.loop-arc-test.false, c.loop-arc.auto.arc-end, c.arcs-arc-end.ensures.count) in
    subst (λ n. AreRankEnds net c.args.order.now n c.loop-arc.lows.items c.loop-arc.highs.items) all c.loop-arc.invariant
