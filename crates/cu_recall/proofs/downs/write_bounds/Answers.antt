use Rattle.std.proofs.Common.{◌≡◌, ◌<◌, ◌%◌, ◌∙◌, arith, length, subst}
use Rattle.std.proofs.lemmas.List.{length-set}
use Rattle.std.proofs.lemmas.Option.{slice_get-get_or}
use Rattle.cu_interval.specs.declared.ways.Dir.TheVariants.{Down}
use Rattle.cu_interval.specs.LeastBounds.{least_bound}
use Rattle.cu_recall.proofs.DownLaws.{bound_kept, downs_set}
use Rattle.cu_recall.proofs.downs.write_bounds.Goals as goal

pub places-preserved : goal.places-preserved
places-preserved c =
    let h = c.args.view.now in
    let place = c.places.place in
    let downs = c.places.downs in
    let there : place < length downs = omega (arith, c.places-test.true, c.places.auto.place-end, c.places.invariant.whole, c.requires.whole) in
    let before = c.places.invariant.knows place _ (slice_get-get_or downs place _ there) in
    let bound = subst (λ n. c.least.result ≡ least_bound h (place % n) Down) c.edges-edges.ensures.count c.least.ensures.bound in
    let held = bound_kept h (place % length h.edges) c.bound_in.result _ (λ lt. c.bound_in.ensures lt ∙ bound) before in
    record {
      whole = length-set downs place _ ∙ c.places.invariant.whole;
      knows = downs_set h downs place _ c.places.invariant.knows held;
    }
