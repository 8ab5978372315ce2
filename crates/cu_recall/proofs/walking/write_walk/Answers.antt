use Rattle.std.proofs.Common.{◌≡◌, ◌<◌, ◌∙◌, ◌++◌, ◌%◌, ℕ, List, Bool, sym, ap, arith, length, subst, length-append}
use Rattle.cu_io.proofs.Appending.{wrote_nothing, wrote_ok, wrote_same, wrote_stops, wrote_then}
use Rattle.cu_model.specs.Days.{day}
use Rattle.cu_model.specs.Roads.{drive}
use Rattle.cu_model.proofs.RoadLaws.{drive-append}
use Rattle.cu_interval.specs.Unpacking.{unpacked_walk}
use Rattle.cu_drive.specs.RoadTexts.{driven_text, first_after}
use Rattle.cu_drive.proofs.DrivenTexts.{driven_text-append}
use Rattle.cu_recall.specs.Steps.Walks.{DrivesPart, roads_of}
use Rattle.cu_recall.proofs.Entering.{arrives_near, arrives_second, not_first_behind}
use Rattle.cu_recall.proofs.OnWalk.{walk_begun, walk_cut, walk_few, walk_last, walk_long, walk_next}
use Rattle.cu_recall.proofs.walking.write_walk.Goals as goal

pub parts-init : goal.parts-init
parts-init g c =
    let h = c.args.ground.now.view.now in
    let text = g.P.WalkForm.text c.args.form.now in
    let (begun, nothing) = walk_begun h c.requires.ground.sound c.args.start.asked c.args.waiting.now c.begin-spot.result c.requires.short.0 c.begin-spot.ensures.next
    (c.begin-spot.ensures.holds h c.requires.knows) in
    let none = ap (length {A = ℕ}) nothing in
    record {
      last = c.nodes-number-end.ensures.count;
      knows = c.requires.knows;
      way = (
        begun,
        wrote_same (sym (ap (λ (d : List ℕ). driven_text text h.network c.args.start.first d c.args.start.at) nothing)) (wrote_nothing (g.K.Sink.state c.args.sink.now) tt),
        sym (ap (first_after c.args.start.first) nothing),
        ap (λ (d : List ℕ). drive h.network d c.args.start.at) nothing,
        c.requires.at ∙ sym c.begin-spot.ensures.next.1,
        omega arith,
      );
    }

pub put_part-requires : goal.put_part-requires
put_part-requires g c =
    let h = c.args.ground.now.view.now in
    let (w, so_far, first, here, second, near) = c.parts.invariant.way in
    let found = c.next_part-found.result in
    let finds = c.next_part-found.ensures.finds w.leg w.legs w.place in
    let fewer = walk_few h c.requires.ground.sound c.args.start.asked c.parts.waiting c.parts.spot c.parts._number w c.next_part-found.new.waiting found finds c.requires.short in
    let few = c.requires.ground.sound.graph.few_ranks in
    let time = c.requires.time in
    record {
      drives = subst (λ (t : ℕ). DrivesPart h t found.part) (sym second) c.next_part-found.ensures.drives;
      time = omega (arith, near, fewer, few, time);
      sound = c.requires.ground.sound;
    }

pub returns-in_err-entered-clause-wrote : goal.returns-in_err-entered-clause-wrote
returns-in_err-entered-clause-wrote g c u v is =
    let h = c.args.ground.now.view.now in
    let net = h.network in
    let at = c.args.start.at in
    let text = g.P.WalkForm.text c.args.form.now in
    let (w, so_far, first, here, second, near) = c.parts.invariant.way in
    let found = c.next_part-found.result in
    let roads = roads_of found.part in
    let finds = c.next_part-found.ensures.finds w.leg w.legs w.place in
    let (left, cut) = walk_cut h c.requires.ground.sound c.args.start.asked c.parts.waiting c.parts.spot c.parts._number w c.next_part-found.new.waiting found finds in
    let before = driven_text text net c.args.start.first w.done at in
    let entered = c.parts.entered in
    let rest = driven_text text net (first_after c.parts.first roads) left (drive net roads entered) in
    let whole : before ++ (driven_text text net c.parts.first roads entered ++ rest) ≡ driven_text text net c.args.start.first (unpacked_walk h u v c.args.start.asked.second) at =
    ap (λ (t : List ℕ). before ++ t) (sym (driven_text-append text net c.parts.first roads left entered))
    ∙ ap (λ (f : Bool). before ++ driven_text text net f (roads ++ left) entered) first
    ∙ ap (λ (s : ℕ). before ++ driven_text text net (first_after c.args.start.first w.done) (roads ++ left) s) (sym here)
    ∙ sym (driven_text-append text net c.args.start.first w.done (roads ++ left) at) ∙ sym (ap (λ (d : List ℕ). driven_text text net c.args.start.first d at) (cut u v is)) in
    wrote_same whole (wrote_then so_far (wrote_stops rest c.from_residual.ensures.0 c.in_err-entered.ensures.wrote))

pub returns-in_default-clause-wrote : goal.returns-in_default-clause-wrote
returns-in_default-clause-wrote g c u v is =
    let h = c.args.ground.now.view.now in
    let net = h.network in
    let at = c.args.start.at in
    let text = g.P.WalkForm.text c.args.form.now in
    let (w, so_far, first, here, second, near) = c.parts.invariant.way in
    let found = c.next_part-found.result in
    let roads = roads_of found.part in
    let finds = c.next_part-found.ensures.finds w.leg w.legs w.place in
    let last = walk_last h c.requires.ground.sound c.args.start.asked c.parts.waiting c.parts.spot c.parts._number w c.next_part-found.new.waiting found finds 0 c.in_default.ensures u v is in
    let before = driven_text text net c.args.start.first w.done at in
    let written : before ++ driven_text text net c.parts.first roads c.parts.entered ≡ driven_text text net c.args.start.first (unpacked_walk h u v c.args.start.asked.second) at =
    ap (λ (f : Bool). before ++ driven_text text net f roads c.parts.entered) first
    ∙ ap (λ (s : ℕ). before ++ driven_text text net (first_after c.args.start.first w.done) roads s) (sym here)
    ∙ sym (driven_text-append text net c.args.start.first w.done roads at) ∙ sym (ap (λ (d : List ℕ). driven_text text net c.args.start.first d at) last) in
    wrote_same written (wrote_ok (wrote_then so_far c.in_ok-entered.ensures.wrote))

pub parts-preserved : goal.parts-preserved
parts-preserved g c =
    let h = c.args.ground.now.view.now in
    let net = h.network in
    let at = c.args.start.at in
    let text = g.P.WalkForm.text c.args.form.now in
    let (w, so_far, first, here, second, near) = c.parts.invariant.way in
    let found = c.next_part-found.result in
    let roads = roads_of found.part in
    let drives = subst (λ (t : ℕ). DrivesPart h t found.part) (sym second) c.next_part-found.ensures.drives in
    let some = c.next_part-found.ensures.drives.some in
    let finds = c.next_part-found.ensures.finds w.leg w.legs w.place in
    let resumes = c.in-Some.ensures in
    let entered = c.parts.entered in
    let some_wait : 0 < found.waiting = omega (arith, resumes.0) in
    let arrival : c.in_ok-entered.entered ≡ drive net roads entered = c.in_ok-entered.ensures.arrival some_wait in
    let on = arrives_second h entered c.parts.spot.second found.part c.next_part-found.ensures.drives second in
    let goes : c.in_ok-entered.entered % day ≡ drive net roads c.parts.spot.second % day = ap (λ (n : ℕ). n % day) arrival ∙ on in
    let (m, same) = walk_next h c.requires.ground.sound c.args.start.asked c.parts.waiting c.parts.spot c.parts._number w c.next_part-found.new.waiting found finds c.in-Some.next some
    (resumes.0, resumes.1, resumes.2 ∙ c.second_of-second.ensures ∙ goes) in
    let before = driven_text text net c.args.start.first w.done at in
    let written : before ++ driven_text text net c.parts.first roads entered ≡ driven_text text net c.args.start.first m.done at =
    ap (λ (f : Bool). before ++ driven_text text net f roads entered) first
    ∙ ap (λ (s : ℕ). before ++ driven_text text net (first_after c.args.start.first w.done) roads s) (sym here)
    ∙ sym (driven_text-append text net c.args.start.first w.done roads at) ∙ sym (ap (λ (d : List ℕ). driven_text text net c.args.start.first d at) same) in
    let limit = arrives_near h entered c.parts.spot.second found.part c.next_part-found.ensures.drives second in
    let long = ap (length {A = ℕ}) same in
    let both = length-append w.done roads in
    record {
      last = c.parts.invariant.last;
      knows = c.next_part-found.ensures.knows;
      way = (
        m,
        wrote_same written (wrote_ok (wrote_then so_far c.in_ok-entered.ensures.wrote)),
        sym (ap (first_after c.args.start.first) same ∙ not_first_behind c.args.start.first w.done roads some),
        ap (λ (d : List ℕ). drive net d at) same ∙ drive-append net w.done roads at ∙ ap (drive net roads) here ∙ sym arrival,
        sym (resumes.2 ∙ c.second_of-second.ensures),
        omega (arith, near, limit, long, both, arrival),
      );
    }

pub unreachable-requires : goal.unreachable-requires
unreachable-requires g c =
    let i = c.parts.invariant in
    walk_long c.args.ground.now.view.now c.requires.ground.sound c.args.start.asked c.parts.waiting c.parts.spot c.parts._number i.way.0 c.requires.short (omega (arith, c.parts-test.false, i.last))
