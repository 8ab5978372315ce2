use Rattle.std.proofs.Common.{◌∙◌, ℕ, List, length, ap, sym, arith}
use Rattle.cu_model.specs.Orders.{OrderValue}
use Rattle.cu_pack.specs.Reading.{network_in}
use Rattle.cu_pack.proofs.Viewed.Adopted.{order_long, starts_long, uppers_long}
use Rattle.cu_pack.proofs.Read.Driven.{nodes_same}
use Rattle.cu_pack.proofs.Read.GraphRead.{found_read}
use Rattle.cu_pack.proofs.checks.graph.wrong_part.Goals as goal

pub first_wrong-requires-clause-same : goal.first_wrong-requires-clause-same
first_wrong-requires-clause-same c =
    let bytes = c.args.sections.now in
    ap (λ (o : OrderValue). length o.node_at) c.in_ok-order.ensures.order ∙ order_long bytes ∙ ap (λ (bs : List ℕ). (network_in bs).nodes) (sym c.of-roads.ensures.same)

pub first_wrong-requires-clause-starts : goal.first_wrong-requires-clause-starts
first_wrong-requires-clause-starts c =
    let bytes = c.args.sections.now in
    let nodes = ap (λ (bs : List ℕ). (network_in bs).nodes) c.of-roads.ensures.same in
    let starts = ap length (c.deref.ensures.value ∙ c.in_ok-starts.ensures.starts) in
    omega (arith, starts, starts_long bytes, nodes_same bytes, nodes)

pub first_wrong-requires-clause-few : goal.first_wrong-requires-clause-few
first_wrong-requires-clause-few c =
    let bytes = c.args.sections.now in
    let uppers = ap length (c.deref-2.ensures.value ∙ c.in_ok-uppers.ensures.uppers) in
    let limits = c.requires.roads.joined.ordered.sized.limited.limits in
    omega (arith, uppers, uppers_long bytes, limits.edges)

pub returns : goal.returns
returns c =
    let bytes = c.args.sections.now in
    record {
      first = found_read bytes c.of-roads.result c.deref.result.now c.deref-2.result.now c.in_ok-order.order c.first_wrong.result c.of-roads.ensures.same c.in_ok-order.ensures.order
          (c.deref.ensures.value ∙ c.in_ok-starts.ensures.starts) (c.deref-2.ensures.value ∙ c.in_ok-uppers.ensures.uppers) c.first_wrong.ensures;
    }
