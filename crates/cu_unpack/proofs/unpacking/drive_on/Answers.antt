use Rattle.std.proofs.Common.{◌≡◌, ◌≤◌, ◌<◌, ◌∙◌, ℕ, false, sym, ap, subst, length}
use Rattle.cu_model.specs.Roads.{arc_value, is_closed_arc}
use Rattle.cu_interval.specs.Hierarchies.{HierarchyValue}
use Rattle.cu_unpack.proofs.Driving.{driven, found_open}
use Rattle.cu_unpack.proofs.unpacking.drive_on.Goals as goal

pub drive-arrival-requires-clause-road : goal.drive-arrival-requires-clause-road
drive-arrival-requires-clause-road g c =
    let h = g.C.CountedWays.hierarchy c.args.ways.now in
    let before = g.C.CountedWays.steps c.args.ways.now in
    let now = g.C.CountedWays.steps c.next_road.new.ways in
    let (leg, legs, is) = c.requires.somewhere in
    let open_ = found_open h c.requires.sound leg legs c.args.spot.second c.next_road.new.pending before now c.in_ok-spot.spot c.in_ok-spot.road
    (c.in_ok-spot.ensures.finds leg legs is) in
    subst (λ (k : HierarchyValue). c.in_ok-spot.road < length k.network.arcs) (sym c.next_road.ensures.stays) open_.0

pub drive-arrival-requires-clause-open : goal.drive-arrival-requires-clause-open
drive-arrival-requires-clause-open g c =
    let h = g.C.CountedWays.hierarchy c.args.ways.now in
    let before = g.C.CountedWays.steps c.args.ways.now in
    let now = g.C.CountedWays.steps c.next_road.new.ways in
    let (leg, legs, is) = c.requires.somewhere in
    let open_ = found_open h c.requires.sound leg legs c.args.spot.second c.next_road.new.pending before now c.in_ok-spot.spot c.in_ok-spot.road
    (c.in_ok-spot.ensures.finds leg legs is) in
    subst (λ (k : HierarchyValue). is_closed_arc k.network c.in_ok-spot.road ≡ false) (sym c.next_road.ensures.stays) open_.1

pub returns-clause-drives : goal.returns-clause-drives
returns-clause-drives g c = λ leg legs is.
    let h = g.C.CountedWays.hierarchy c.args.ways.now in
    let before = g.C.CountedWays.steps c.args.ways.now in
    let now = g.C.CountedWays.steps c.next_road.new.ways in
    let t = c.args.spot.second in
    let spot = c.in_ok-spot.spot in
    let road = c.in_ok-spot.road in
    let arrival = c.drive-arrival.result in
    let found = c.in_ok-spot.ensures.finds leg legs is in
    let second : spot.second ≡ t = found.7 in
    let value : arrival ≡ arc_value h.network road t =
    c.drive-arrival.ensures.value ∙ ap (λ (k : HierarchyValue). arc_value k.network road spot.second) c.next_road.ensures.stays ∙ ap (arc_value h.network road) second in
    let onward : t ≤ arrival = subst (λ (s : ℕ). s ≤ arrival) second c.drive-arrival.ensures.onward in
    driven h c.requires.sound leg legs t c.next_road.new.pending before now spot road arrival c.resume.result found value onward c.resume.ensures
