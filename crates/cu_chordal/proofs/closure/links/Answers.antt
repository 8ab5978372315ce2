use Rattle.std.proofs.Common.{◌<◌, List, ℕ, length, subst, sym}
use Rattle.std.specs.Prelude.{All}
use Rattle.std.proofs.lemmas.Result.{IfOk-weaker}
use Rattle.cu_model.specs.Networks.{NetworkValue}
use Rattle.cu_chordal.specs.Groups.{AreGroups}
use Rattle.cu_chordal.specs.Steps.Links.{AreRankEnds}
use Rattle.cu_chordal.proofs.Linked.{ends_given, ends_in_range, links_from_ends}
use Rattle.cu_chordal.proofs.closure.links.Goals as goal

pub of-requires-clause-in_range : goal.of-requires-clause-in_range
of-requires-clause-in_range g c =
    let net : NetworkValue = (g.N.Roads.network c.args.roads.now) in
    let ends : AreRankEnds net c.args.order.now (length net.arcs) c.deref.result.now c.deref-2.result.now =
    ends_given net c.args.order.now _ _ _ _ c.deref.ensures.value c.deref-2.ensures.value c.in_ok-ends.ensures in
    subst (λ n. All (λ key. key < n) c.deref.result.now) (sym c.nodes-ranks.ensures.count) (ends_in_range net c.args.order.now c.deref.result.now c.deref-2.result.now ends)

pub returns : goal.returns
returns g c =
    let net : NetworkValue = (g.N.Roads.network c.args.roads.now) in
    let ends : AreRankEnds net c.args.order.now (length net.arcs) c.deref.result.now c.deref-2.result.now =
    ends_given net c.args.order.now _ _ _ _ c.deref.ensures.value c.deref-2.ensures.value c.in_ok-ends.ensures in
    IfOk-weaker c.of.result _ _
    (λ (groups : List (List ℕ)) h.
    links_from_ends net c.args.order.now c.deref.result.now c.deref-2.result.now groups ends (subst (λ n. AreGroups c.deref.result.now c.deref-2.result.now n groups) c.nodes-ranks.ensures.count h))
    c.of.ensures
