use Rattle.std.proofs.Common.{get_or, refl}
use Rattle.cu_roads.specs.declared.places.Place.{Place}
use Rattle.cu_dissect.specs.Dissection.{place_of}
use Rattle.cu_dissect.proofs.Extents.{extent_more}
use Rattle.cu_dissect.proofs.halving.cuts_across_x.Goals as goal

pub loop-node-preserved : goal.loop-node-preserved
loop-node-preserved c =
    let places = c.args.places.now in
    let part = c.args.part.now in
    let i = c.loop-node.node-index in
    let place : Place = place_of places (get_or part i 0) in
    record {
      x = extent_more (λ (p : Place). p.x) places part i _ _ _ _ place c.loop-node.invariant.x c.loop-node-test.true refl c.with-x.ensures.least c.with-x.ensures.greatest;
      y = extent_more (λ (p : Place). p.y) places part i _ _ _ _ place c.loop-node.invariant.y c.loop-node-test.true refl c.with-y.ensures.least c.with-y.ensures.greatest;
    }
