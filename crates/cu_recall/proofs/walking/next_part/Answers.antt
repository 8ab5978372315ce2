use Rattle.std.proofs.Common.{◌≡◌, ◌<◌, ◌∙◌, ℕ, sym, subst, arith, length}
use Rattle.cu_recall.specs.declared.walking.NextPart.{NextPart}
use Rattle.cu_recall.specs.declared.walking.WalkPart.TheVariants as walked
use Rattle.cu_recall.specs.Spans.{low_of_list}
use Rattle.cu_recall.specs.Steps.Walks.{DrivesPart, FindsPart}
use Rattle.cu_recall.proofs.RoadByRoad.{WentDown, asked_at, halves_there, road_drives, road_found, sequence_drives, sequence_found, sequence_of, spot_room, went_part, went_somewhere}
use Rattle.cu_recall.proofs.walking.next_part.Goals as goal

pub entry_at-met-requires-clause-asked : goal.entry_at-met-requires-clause-asked
entry_at-met-requires-clause-asked c =
    let (leg, legs, is) = went_somewhere c.args.ground.now.view.now c.args.waiting.now c.parts.waiting c.args.spot c.parts.spot c.parts.spot.second c.requires.somewhere c.parts.invariant.went in
    asked_at c.args.ground.now.view.now c.parts.waiting c.parts.spot leg legs is

pub travel_known-travel-requires-clause-asked : goal.travel_known-travel-requires-clause-asked
travel_known-travel-requires-clause-asked c =
    let (leg, legs, is) = went_somewhere c.args.ground.now.view.now c.args.waiting.now c.parts.waiting c.args.spot c.parts.spot c.parts.spot.second c.requires.somewhere c.parts.invariant.went in
    asked_at c.args.ground.now.view.now c.parts.waiting c.parts.spot leg legs is

pub entry_at-met-requires-clause-holds : goal.entry_at-met-requires-clause-holds
entry_at-met-requires-clause-holds c =
    let (leg, legs, is) = went_somewhere c.args.ground.now.view.now c.args.waiting.now c.parts.waiting c.args.spot c.parts.spot c.parts.spot.second c.requires.somewhere c.parts.invariant.went in
    is.holds

pub travel_of-travel-requires-clause-asked : goal.travel_of-travel-requires-clause-asked
travel_of-travel-requires-clause-asked c =
    let (leg, legs, is) = went_somewhere c.args.ground.now.view.now c.args.waiting.now c.parts.waiting c.args.spot c.parts.spot c.parts.spot.second c.requires.somewhere c.parts.invariant.went in
    asked_at c.args.ground.now.view.now c.parts.waiting c.parts.spot leg legs is

pub returns-in-Some-clause-finds : goal.returns-in-Some-clause-finds
returns-in-Some-clause-finds c leg legs is =
    let h = c.args.ground.now.view.now in
    let spot = c.parts.spot in
    let found : NextPart = record { part = walked.Sequence c.in-Some.roads c.travel_known-travel.result; waiting = spot.waiting } in
    let sequence = sequence_of h c.args.ground.now.sequences.now spot.next.list c.in-Some.roads c.requires.ground.sequences c.in-Some.ensures in
    let finds = sequence_found h c.requires.ground.sound c.parts.waiting spot leg legs (c.parts.invariant.went leg legs is) c.in-Some.roads
    c.travel_known-travel.result sequence c.travel_known-travel.ensures in
    subst (λ (t : ℕ). FindsPart h leg legs t c.parts.waiting found) c.parts.invariant.second finds

pub returns-in-Some-clause-drives : goal.returns-in-Some-clause-drives
returns-in-Some-clause-drives c =
    let h = c.args.ground.now.view.now in
    let spot = c.parts.spot in
    let (leg, legs, is) = c.requires.somewhere in
    let sequence = sequence_of h c.args.ground.now.sequences.now spot.next.list c.in-Some.roads c.requires.ground.sequences c.in-Some.ensures in
    let drives = sequence_drives h c.requires.ground.sound c.parts.waiting spot leg legs (c.parts.invariant.went leg legs is) c.in-Some.roads
    c.travel_known-travel.result sequence c.travel_known-travel.ensures in
    subst (λ (t : ℕ). DrivesPart h t (walked.Sequence c.in-Some.roads c.travel_known-travel.result)) c.parts.invariant.second drives

pub returns-in-Road-clause-finds : goal.returns-in-Road-clause-finds
returns-in-Road-clause-finds c leg legs is =
    let h = c.args.ground.now.view.now in
    let spot = c.parts.spot in
    let found : NextPart = record { part = walked.Road c.in-Road.road c.travel_of-travel.result; waiting = spot.waiting } in
    let finds = road_found h c.requires.ground.sound c.parts.waiting spot c.entry_at-met.result c.entry_at-met.ensures.met leg legs c.in-Road.road c.travel_of-travel.result
    (c.parts.invariant.went leg legs is) c.in-Road.is c.travel_of-travel.ensures.travel in
    subst (λ (t : ℕ). FindsPart h leg legs t c.parts.waiting found) c.parts.invariant.second finds

pub part-spot-requires-clause-room : goal.part-spot-requires-clause-room
part-spot-requires-clause-room c =
    let (leg, legs, is) = went_somewhere c.args.ground.now.view.now c.args.waiting.now c.parts.waiting c.args.spot c.parts.spot c.parts.spot.second c.requires.somewhere c.parts.invariant.went in
    let room = spot_room c.args.ground.now.view.now c.parts.waiting c.parts.spot leg legs is in
    omega (arith, room, c.parts.auto.waiting, c.requires.room)

pub part-spot-requires-clause-first : goal.part-spot-requires-clause-first
part-spot-requires-clause-first c =
    let (leg, legs, is) = went_somewhere c.args.ground.now.view.now c.args.waiting.now c.parts.waiting c.args.spot c.parts.spot c.parts.spot.second c.requires.somewhere c.parts.invariant.went in
    let both = halves_there c.args.ground.now.view.now c.requires.ground.sound c.parts.waiting c.parts.spot c.entry_at-met.result c.entry_at-met.ensures.met
    c.in-Halves.first c.in-Halves.second c.in-Halves.is leg legs is in
    omega (arith, both.0, c.entry_at-met.auto.rows, c.parts.auto.rows, c.requires.size)

pub part-spot-requires-clause-second : goal.part-spot-requires-clause-second
part-spot-requires-clause-second c =
    let (leg, legs, is) = went_somewhere c.args.ground.now.view.now c.args.waiting.now c.parts.waiting c.args.spot c.parts.spot c.parts.spot.second c.requires.somewhere c.parts.invariant.went in
    let both = halves_there c.args.ground.now.view.now c.requires.ground.sound c.parts.waiting c.parts.spot c.entry_at-met.result c.entry_at-met.ensures.met
    c.in-Halves.first c.in-Halves.second c.in-Halves.is leg legs is in
    omega (arith, both.1, c.entry_at-met.auto.rows, c.parts.auto.rows, c.requires.size)

pub parts-smaller : goal.parts-smaller
parts-smaller c =
    let (leg, legs, is) = went_somewhere c.args.ground.now.view.now c.args.waiting.now c.parts.waiting c.args.spot c.parts.spot c.parts.spot.second c.requires.somewhere c.parts.invariant.went in
    let both = halves_there c.args.ground.now.view.now c.requires.ground.sound c.parts.waiting c.parts.spot c.entry_at-met.result c.entry_at-met.ensures.met
    c.in-Halves.first c.in-Halves.second c.in-Halves.is leg legs is in
    subst (λ (list : ℕ). low_of_list c.args.ground.now.view.now list < low_of_list c.args.ground.now.view.now c.parts.spot.next.list) (sym c.part-spot.ensures.next.0) both.2

pub parts-preserved : goal.parts-preserved
parts-preserved c =
    let h = c.args.ground.now.view.now in
    let next = c.part-spot.result in
    let moved = c.part-spot.new.waiting in
    let long : length c.parts.waiting ≡ h.network.nodes = omega (arith, c.parts.auto.waiting, c.requires.room) in
    let knows = c.entry_at-met.ensures.knows in
    record {
      second = c.part-spot.ensures.next.1 ∙ c.parts.invariant.second;
      knows = knows;
      went = λ leg legs is.
          let (other, others, at) = went_somewhere h c.args.waiting.now c.parts.waiting c.args.spot c.parts.spot c.parts.spot.second c.requires.somewhere c.parts.invariant.went in
          subst (λ (t : ℕ). WentDown h leg legs t moved next) (sym c.part-spot.ensures.next.1)
          (went_part h c.requires.ground.sound c.parts.waiting c.parts.spot c.entry_at-met.result c.entry_at-met.ensures.met
          c.in-Halves.first c.in-Halves.second c.in-Halves.is leg legs
          c.entry_at-met.new.rows moved next long (c.parts.invariant.went leg legs is) knows c.part-spot.ensures.next (c.part-spot.ensures.holds h knows at.holds) c.part-spot.ensures.waits);
    }

pub returns-in-Road-clause-drives : goal.returns-in-Road-clause-drives
returns-in-Road-clause-drives c =
    let h = c.args.ground.now.view.now in
    let spot = c.parts.spot in
    let travel = c.travel_of-travel.result in
    let (leg, legs, is) = c.requires.somewhere in
    let drives = road_drives h c.requires.ground.sound c.parts.waiting spot c.entry_at-met.result c.entry_at-met.ensures.met leg legs c.in-Road.road travel
    (c.parts.invariant.went leg legs is) c.in-Road.is
    c.travel_of-travel.ensures.travel in
    subst (λ (t : ℕ). DrivesPart h t (walked.Road c.in-Road.road travel)) c.parts.invariant.second drives
