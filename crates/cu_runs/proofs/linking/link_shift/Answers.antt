use Rattle.std.proofs.Common.{arith, refl, ◌+◌, ◌-◌}
use Rattle.cu_runs.proofs.LinkLaws.{place_later, place_end, place_span, shift_pushed, read_limit}
use Rattle.cu_runs.proofs.linking.link_shift.Goals as goal

pub places-init : goal.places-init
places-init c = record {
  place = place_later c.args.second.now c.args.first_place (c.args.from + c.args.seconds) (c.args.until - 1 + c.args.seconds) c.requires.place (omega arith);
  later = c.requires.holds;
  said = shift_pushed c.args.second.now c.args.linked.now.items c.args.linked.now.items c.push.new.self.items c.args.first_place c.args.seconds c.args.from
      c.args.from c.args.from c.args.until (c.args.from + c.args.seconds)
      c.after.result c.index-second-place.result c.requires.over_day c.requires.place (omega arith) c.requires.holds (omega arith) c.requires.some refl c.index-second-place.is
      c.after.ensures.from c.after.ensures.rule c.in_ok-push.ensures.items (λ f said means. said);
}

pub following-place-requires-clause-place : goal.following-place-requires-clause-place
following-place-requires-clause-place c = place_end c.args.second.now c.places.place (c.args.until - 1 + c.args.seconds) c.requires.over_day c.places.invariant.place

pub bounds-second-place-in-places : goal.bounds-second-place-in-places
bounds-second-place-in-places c =
    let span = place_span c.args.second.now c.following-place.result c.places.place.end c.after.result c.following-place.ensures.place in
    omega (arith, span.inside)

pub offset_bounds-second-place-in-places : goal.offset_bounds-second-place-in-places
offset_bounds-second-place-in-places c =
    let span = place_span c.args.second.now c.following-place.result c.places.place.end c.after.result c.following-place.ensures.place in
    omega (arith, span.inside)

pub after-requires-in-places-clause-seconds : goal.after-requires-in-places-clause-seconds
after-requires-in-places-clause-seconds c =
    let span = place_span c.args.second.now c.following-place.result c.places.place.end c.after.result c.following-place.ensures.place in
    let limit = read_limit c.args.second.now c.following-place.result.index c.index-second-place-in-places.result c.requires.limits (omega (arith, span.inside)) c.index-second-place-in-places.is in
    omega (arith, limit)

pub after-requires-in-places-clause-midnight : goal.after-requires-in-places-clause-midnight
after-requires-in-places-clause-midnight c =
    let span = place_span c.args.second.now c.following-place.result c.places.place.end c.after.result c.following-place.ensures.place in
    let limit = read_limit c.args.second.now c.following-place.result.index c.index-second-place-in-places.result c.requires.limits (omega (arith, span.inside)) c.index-second-place-in-places.is in
    omega (arith, limit, span.begun)

pub places-preserved : goal.places-preserved
places-preserved c =
    let at = c.places.place.end - c.args.seconds in
    record {
      place = place_later c.args.second.now c.following-place.result c.places.place.end (c.args.until - 1 + c.args.seconds) c.following-place.ensures.place (omega arith);
      later = omega arith;
      said = shift_pushed c.args.second.now c.args.linked.now.items c.places.linked.items c.push-in-places.new.self.items c.following-place.result
          c.args.seconds c.args.from at _ c.args.until c.places.place.end
          c.after-in-places.result c.index-second-place-in-places.result c.requires.over_day c.following-place.ensures.place (omega arith) (omega arith)
          (omega arith) (omega arith) (omega arith) c.index-second-place-in-places.is
          c.after-in-places.ensures.from c.after-in-places.ensures.rule c.in_ok-push-2.ensures.items c.places.invariant.said;
    }
