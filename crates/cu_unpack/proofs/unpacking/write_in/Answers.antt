use Rattle.std.proofs.Common.{◌≡◌, ◌≤◌, ◌<◌, ◌+◌, ◌^◌, ◌∙◌, ◌++◌, ℕ, List, [], ◌∷◌, None, refl, sym, ap, subst, arith, rules, length}
use Rattle.cu_interval.specs.Hierarchies.{HierarchyValue, IsHierarchy}
use Rattle.cu_unpack.specs.declared.unpacking.Spot.{Spot}
use Rattle.cu_unpack.specs.Steps.Legs.{IsSomewhere}
use Rattle.cu_model.specs.Roads.{drive}
use Rattle.std.proofs.Common.{false, Bool}
use Rattle.cu_io.specs.Sinks.{WroteAll}
use Rattle.cu_io.proofs.Appending.{wrote_nothing, wrote_ok, wrote_same, wrote_stops, wrote_then}
use Rattle.cu_unpack.specs.Answers.{walk_over}
use Rattle.cu_drive.specs.RoadTexts.{driven_text, first_after}
use Rattle.cu_drive.proofs.DrivenTexts.{not_first, text_cut, text_more}
use Rattle.cu_unpack.proofs.OnWay.{IsOnWay, arriving_short, arriving_some, on_way_begin, on_way_cut, on_way_few, on_way_last, on_way_long, on_way_next, on_way_none, on_way_time}
use Rattle.cu_unpack.proofs.unpacking.write_in.Goals as goal

pub roads-init : goal.roads-init
roads-init g c =
    let h = g.C.CountedWays.hierarchy c.args.ways.now in
    let before = g.C.CountedWays.steps c.args.ways.now in
    let call = c.args.call in
    let sink = g.K.Sink.state c.args.sink.now in
    let text : List ℕ → List ℕ = λ done. driven_text (g.P.WalkForm.text c.args.form.now) h.network c.args.first done call.second in
    let (begun, nothing) = on_way_begin h c.nodes-number-end.ensures.sound call.edge call.dir call.second c.args.pending.now before c.requires.edge in
    record {
      stays = refl;
      sound = c.nodes-number-end.ensures.sound;
      last = c.nodes-number-end.ensures.count;
      way = subst (λ (s : Spot). (w : IsOnWay h call.edge call.dir call.second c.args.pending.now s before before 1)
          × WroteAll sink sink (text w.done) × (c.args.first ≡ first_after c.args.first w.done)) (sym c.start-spot.ensures)
          (begun, wrote_same (sym (ap text nothing)) (wrote_nothing sink tt), sym (ap (first_after c.args.first) nothing));
    }

pub roads-preserved : goal.roads-preserved
roads-preserved g c =
    let i = c.roads.invariant in
    let (w, so_far, is) = i.way in
    let road = c.in-Some.driven.road in
    let (m, same) = on_way_next i.stays w c.in-Some.ensures.drives c.in-Some-rest.is in
    let text = (g.P.WalkForm.text c.args.form.now) in
    let net = (g.C.CountedWays.hierarchy c.args.ways.now).network in
    let before = driven_text text net c.args.first w.done c.args.call.second in
    let written : before ++ text c.roads.first road c.roads.spot.second ≡ driven_text text net c.args.first m.done c.args.call.second =
    ap (λ (f : Bool). before ++ text f road c.roads.spot.second) is ∙ ap (λ (s : ℕ). before ++ text (first_after c.args.first w.done) road s) (sym w.under.arrives)
    ∙ sym (text_more text net c.args.first w.done road c.args.call.second) ∙ sym (ap (λ (d : List ℕ). driven_text text net c.args.first d c.args.call.second) same) in
    record {
      stays = c.drive_on.ensures.stays ∙ i.stays;
      sound = i.sound;
      last = i.last;
      way = (m, wrote_same written (wrote_ok (wrote_then so_far c.in_ok-put.ensures.wrote)), sym (ap (first_after c.args.first) same ∙ not_first c.args.first w.done road));
    }

pub drive_on-requires-clause-sound : goal.drive_on-requires-clause-sound
drive_on-requires-clause-sound g c = subst (λ (k : HierarchyValue). IsHierarchy k) (sym c.roads.invariant.stays) c.roads.invariant.sound

pub drive_on-requires-clause-room : goal.drive_on-requires-clause-room
drive_on-requires-clause-room g c =
    let room : length c.roads.pending ≡ (g.C.CountedWays.hierarchy c.args.ways.now).network.nodes = omega (arith, c.roads.auto.pending, c.requires.room) in
    subst (λ (k : HierarchyValue). length c.roads.pending ≡ k.network.nodes) (sym c.roads.invariant.stays) room

pub drive_on-requires-clause-somewhere : goal.drive_on-requires-clause-somewhere
drive_on-requires-clause-somewhere g c =
    let w = c.roads.invariant.way.0 in
    subst (λ (k : HierarchyValue). IsSomewhere k c.roads.pending c.roads.spot) (sym c.roads.invariant.stays) (w.leg, w.legs, w.place)

pub drive_on-requires-clause-time : goal.drive_on-requires-clause-time
drive_on-requires-clause-time g c =
    let i = c.roads.invariant in
    let le : c.roads._number ≤ (g.C.CountedWays.hierarchy c.args.ways.now).network.nodes = omega (arith, c.roads-test.true, i.last) in
    on_way_time i.sound i.way.0 le c.requires.time

pub drive_on-requires-clause-few : goal.drive_on-requires-clause-few
drive_on-requires-clause-few g c =
    let i = c.roads.invariant in
    let le : c.roads._number ≤ (g.C.CountedWays.hierarchy c.args.ways.now).network.nodes = omega (arith, c.roads-test.true, i.last) in
    subst (λ (k : HierarchyValue). g.C.CountedWays.steps c.roads.ways + k.network.nodes < 2 ^ 63) (sym i.stays) (on_way_few i.sound i.way.0 le c.requires.few)

pub unreachable-requires : goal.unreachable-requires
unreachable-requires g c =
    let i = c.roads.invariant in
    let none : c.drive_on.result ≡ None = search rules in
    let left = on_way_none c.drive_on.new.pending i.stays i.way.0 c.drive_on.ensures.drives none in
    arriving_some (g.C.CountedWays.hierarchy c.args.ways.now) c.args.call.edge c.args.call.dir c.args.call.second c.requires.answers left.0

pub returns-in_err-put-clause-wrote : goal.returns-in_err-put-clause-wrote
returns-in_err-put-clause-wrote g c =
    let h = g.C.CountedWays.hierarchy c.args.ways.now in
    let i = c.roads.invariant in
    let (w, so_far, is) = i.way in
    let road = c.in-Some.driven.road in
    let (left, cut) = on_way_cut c.drive_on.new.pending (g.C.CountedWays.steps c.drive_on.new.ways) c.in-Some.driven i.stays w c.in-Some.ensures.drives in
    let text = (g.P.WalkForm.text c.args.form.now) in
    let net = h.network in
    let before = driven_text text net c.args.first w.done c.args.call.second in
    let all = driven_text text net c.args.first (walk_over h c.args.call.edge c.args.call.dir c.args.call.second) c.args.call.second in
    let rest = driven_text text net false left (drive net (road ∷ []) (drive net w.done c.args.call.second)) in
    let whole : before ++ (text c.roads.first road c.roads.spot.second ++ rest) ≡ all =
    ap (λ (f : Bool). before ++ (text f road c.roads.spot.second ++ rest)) is
    ∙ ap (λ (s : ℕ). before ++ (text (first_after c.args.first w.done) road s ++ rest)) (sym w.under.arrives)
    ∙ sym (text_cut text net c.args.first w.done road left c.args.call.second) ∙ sym (ap (λ (d : List ℕ). driven_text text net c.args.first d c.args.call.second) cut) in
    wrote_same whole (wrote_then so_far (wrote_stops rest c.from_residual.ensures.0 c.in_err-put.ensures.wrote))

pub returns-in_default-rest-clause-wrote : goal.returns-in_default-rest-clause-wrote
returns-in_default-rest-clause-wrote g c =
    let h = g.C.CountedWays.hierarchy c.args.ways.now in
    let i = c.roads.invariant in
    let none : c.in-Some.driven.rest ≡ None = search rules in
    let short : c.roads._number < h.network.nodes = omega (arith, c.roads-test.true, i.last) in
    let last = on_way_last c.drive_on.new.pending i.stays i.sound i.way.0 c.in-Some.ensures.drives none short in
    let (w, so_far, is) = i.way in
    let road = c.in-Some.driven.road in
    let text = (g.P.WalkForm.text c.args.form.now) in
    let net = h.network in
    let before = driven_text text net c.args.first w.done c.args.call.second in
    let written : before ++ text c.roads.first road c.roads.spot.second ≡ driven_text text net c.args.first (walk_over h c.args.call.edge c.args.call.dir c.args.call.second) c.args.call.second =
    ap (λ (f : Bool). before ++ text f road c.roads.spot.second) is ∙ ap (λ (s : ℕ). before ++ text (first_after c.args.first w.done) road s) (sym w.under.arrives)
    ∙ sym (text_more text net c.args.first w.done road c.args.call.second) ∙ sym (ap (λ (d : List ℕ). driven_text text net c.args.first d c.args.call.second) last.walk) in
    wrote_same written (wrote_ok (wrote_then so_far c.in_ok-put.ensures.wrote))

pub returns-in_default-rest-clause-arrival : goal.returns-in_default-rest-clause-arrival
returns-in_default-rest-clause-arrival g c =
    let i = c.roads.invariant in
    let none : c.in-Some.driven.rest ≡ None = search rules in
    let short : c.roads._number < (g.C.CountedWays.hierarchy c.args.ways.now).network.nodes = omega (arith, c.roads-test.true, i.last) in
    (on_way_last c.drive_on.new.pending i.stays i.sound i.way.0 c.in-Some.ensures.drives none short).answer

pub unreachable-requires-2 : goal.unreachable-requires-2
unreachable-requires-2 g c =
    let i = c.roads.invariant in
    let last : (g.C.CountedWays.hierarchy c.args.ways.now).network.nodes ≤ c.roads._number = omega (arith, c.roads-test.false, i.last) in
    arriving_short (g.C.CountedWays.hierarchy c.args.ways.now) c.args.call.edge c.args.call.dir c.args.call.second c.requires.answers (on_way_long i.sound i.way.0 last).0

pub put-requires : goal.put-requires
put-requires g c =
    let i = c.roads.invariant in
    let le : c.roads._number ≤ (g.C.CountedWays.hierarchy c.args.ways.now).network.nodes = omega (arith, c.roads-test.true, i.last) in
    record { time = on_way_time i.sound i.way.0 le c.requires.time }
