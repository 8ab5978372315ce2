use Rattle.cu_dissect.specs.Dissection.{coordinates}
use Rattle.cu_dissect.proofs.Extents.{IsExtent}
use Rattle.cu_dissect.proofs.halving.cuts_across_x.Given as goal

abbrev pub invariant-loop-node : goal.invariant-loop-node
invariant-loop-node l = record {
  x : IsExtent (coordinates (λ place. place.x) l.places l.part) l.node-index l.x.least l.x.greatest;
  y : IsExtent (coordinates (λ place. place.y) l.places l.part) l.node-index l.y.least l.y.greatest;
}
