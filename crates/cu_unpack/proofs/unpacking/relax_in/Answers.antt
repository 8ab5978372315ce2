use Rattle.std.proofs.Common.{◌≡◌, ◌≤◌, ◌<◌, ◌+◌, ◌^◌, ◌∙◌, None, refl, sym, subst, arith, rules, length}
use Rattle.cu_interval.specs.Hierarchies.{HierarchyValue, IsHierarchy}
use Rattle.cu_unpack.specs.declared.unpacking.Spot.{Spot}
use Rattle.cu_unpack.specs.Steps.Legs.{IsSomewhere}
use Rattle.cu_unpack.proofs.OnWay.{IsOnWay, on_way_begin, on_way_few, on_way_last, on_way_long, on_way_next, on_way_time}
use Rattle.cu_unpack.proofs.unpacking.relax_in.Goals as goal

pub roads-init : goal.roads-init
roads-init g c =
    let h = g.C.CountedWays.hierarchy c.args.ways.now in
    let before = g.C.CountedWays.steps c.args.ways.now in
    record {
      stays = refl;
      sound = c.nodes-number-end.ensures.sound;
      last = c.nodes-number-end.ensures.count;
      way = subst (λ (s : Spot). IsOnWay h c.args.edge c.args.dir c.args.at c.args.pending.now s before before 1) (sym c.start-spot.ensures)
          (on_way_begin h c.nodes-number-end.ensures.sound c.args.edge c.args.dir c.args.at c.args.pending.now before c.requires.edge).0;
    }

pub roads-preserved : goal.roads-preserved
roads-preserved g c =
    let i = c.roads.invariant in
    let more = on_way_next i.stays i.way c.in-Some.ensures.drives c.in-Some-rest.is in
    record { stays = c.drive_on.ensures.stays ∙ i.stays; sound = i.sound; last = i.last; way = more.0 }

pub drive_on-requires-clause-sound : goal.drive_on-requires-clause-sound
drive_on-requires-clause-sound g c = subst (λ (k : HierarchyValue). IsHierarchy k) (sym c.roads.invariant.stays) c.roads.invariant.sound

pub drive_on-requires-clause-room : goal.drive_on-requires-clause-room
drive_on-requires-clause-room g c =
    let room : length c.roads.pending ≡ (g.C.CountedWays.hierarchy c.args.ways.now).network.nodes = omega (arith, c.roads.auto.pending, c.requires.room) in
    subst (λ (k : HierarchyValue). length c.roads.pending ≡ k.network.nodes) (sym c.roads.invariant.stays) room

pub drive_on-requires-clause-somewhere : goal.drive_on-requires-clause-somewhere
drive_on-requires-clause-somewhere g c =
    let w = c.roads.invariant.way in
    subst (λ (k : HierarchyValue). IsSomewhere k c.roads.pending c.roads.spot) (sym c.roads.invariant.stays) (w.leg, w.legs, w.place)

pub drive_on-requires-clause-time : goal.drive_on-requires-clause-time
drive_on-requires-clause-time g c =
    let i = c.roads.invariant in
    let le : c.roads._number ≤ (g.C.CountedWays.hierarchy c.args.ways.now).network.nodes = omega (arith, c.roads-test.true, i.last) in
    on_way_time i.sound i.way le c.requires.time

pub drive_on-requires-clause-few : goal.drive_on-requires-clause-few
drive_on-requires-clause-few g c =
    let i = c.roads.invariant in
    let le : c.roads._number ≤ (g.C.CountedWays.hierarchy c.args.ways.now).network.nodes = omega (arith, c.roads-test.true, i.last) in
    subst (λ (k : HierarchyValue). g.C.CountedWays.steps c.roads.ways + k.network.nodes < 2 ^ 63) (sym i.stays) (on_way_few i.sound i.way le c.requires.few)

pub returns-in_default-rest-clause-answer : goal.returns-in_default-rest-clause-answer
returns-in_default-rest-clause-answer g c =
    let i = c.roads.invariant in
    let none : c.in-Some.driven.rest ≡ None = search rules in
    let short : c.roads._number < (g.C.CountedWays.hierarchy c.args.ways.now).network.nodes = omega (arith, c.roads-test.true, i.last) in
    let last = on_way_last c.drive_on.new.pending i.stays i.sound i.way c.in-Some.ensures.drives none short in
    sym last.answer

pub returns-in_default-rest-clause-near : goal.returns-in_default-rest-clause-near
returns-in_default-rest-clause-near g c =
    let i = c.roads.invariant in
    let none : c.in-Some.driven.rest ≡ None = search rules in
    let short : c.roads._number < (g.C.CountedWays.hierarchy c.args.ways.now).network.nodes = omega (arith, c.roads-test.true, i.last) in
    let last = on_way_last c.drive_on.new.pending i.stays i.sound i.way c.in-Some.ensures.drives none short in
    (last.onward, last.near)

pub returns-in_default-rest-clause-steps : goal.returns-in_default-rest-clause-steps
returns-in_default-rest-clause-steps g c =
    let i = c.roads.invariant in
    let none : c.in-Some.driven.rest ≡ None = search rules in
    let short : c.roads._number < (g.C.CountedWays.hierarchy c.args.ways.now).network.nodes = omega (arith, c.roads-test.true, i.last) in
    let last = on_way_last c.drive_on.new.pending i.stays i.sound i.way c.in-Some.ensures.drives none short in
    last.steps

pub returns-clause-answer : goal.returns-clause-answer
returns-clause-answer g c =
    let i = c.roads.invariant in
    let last : (g.C.CountedWays.hierarchy c.args.ways.now).network.nodes ≤ c.roads._number = omega (arith, c.roads-test.false, i.last) in
    sym (on_way_long i.sound i.way last).0

pub returns-clause-steps : goal.returns-clause-steps
returns-clause-steps g c =
    let h = g.C.CountedWays.hierarchy c.args.ways.now in
    let i = c.roads.invariant in
    let last : h.network.nodes ≤ c.roads._number = omega (arith, c.roads-test.false, i.last) in
    let room = i.way.place.room in
    let most : c.roads._number ≤ h.network.nodes = omega (arith, c.roads.auto._number-end, i.last, room) in
    (on_way_long i.sound i.way last).1 most
