use Rattle.std.proofs.Common.{arith, length-set, ◌∙◌}
use Rattle.cu_model.proofs.OrderLaws.{placed_more, order_from_places}
use Rattle.cu_model.proofs.orders.places.Goals as goal

pub loop-place-preserved : goal.loop-place-preserved
loop-place-preserved c = record {
  long = length-set _ _ _ ∙ c.loop-place.invariant.long;
  placed = placed_more c.args.nodes.now c.loop-place.places.items c.requires c.loop-place.place (omega arith) c.loop-place.invariant.long c.loop-place.invariant.placed;
}

pub returns : goal.returns
returns c = order_from_places c.args.nodes.now c.loop-place.places.items c.requires c.loop-place.invariant.long (λ r h. c.loop-place.invariant.placed r (omega (arith, h)))
