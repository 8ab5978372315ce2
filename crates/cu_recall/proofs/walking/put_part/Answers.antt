use Rattle.std.proofs.Common.{◌≤◌, ◌%◌, ◌^◌, ap, arith, refl, subst, sym}
use Rattle.cu_io.proofs.Appending.{wrote_err, wrote_ok, wrote_same}
use Rattle.cu_model.specs.Days.{day}
use Rattle.cu_model.specs.Roads.{drive}
use Rattle.cu_drive.specs.RoadTexts.{driven_text}
use Rattle.cu_recall.specs.declared.walking.WalkPart.{WalkPart}
use Rattle.cu_recall.specs.Steps.Walks.{roads_of}
use Rattle.cu_recall.proofs.Entering.{arrives_near, road_later, sequence_later}
use Rattle.cu_recall.proofs.walking.put_part.Goals as goal

pub overflow_add-result : goal.overflow_add-result
overflow_add-result g c =
    let later = road_later c.args.view.now c.args.at c.args.found.part c.in-Road.road c.in-Road.travel c.requires.drives c.in-Road.is in
    let near = later.1 in
    omega (arith, near, c.requires.time)

pub returns-in_ok-put-in-Road-clause-arrival : goal.returns-in_ok-put-in-Road-clause-arrival
returns-in_ok-put-in-Road-clause-arrival g c some =
    sym (road_later c.args.view.now c.args.at c.args.found.part c.in-Road.road c.in-Road.travel c.requires.drives c.in-Road.is).0

pub returns-in_err-put_alike-in-Sequence-clause-wrote : goal.returns-in_err-put_alike-in-Sequence-clause-wrote
returns-in_err-put_alike-in-Sequence-clause-wrote g c =
    let net = c.args.view.now.network in
    let text = g.P.WalkForm.text c.args.form.now in
    wrote_same (ap (λ (p : WalkPart). driven_text text net c.args.first (roads_of p) c.args.at) (sym c.in-Sequence.is))
    (wrote_err c.from_residual-in_err-put_alike-in-Sequence.ensures.0 (c.in_err-put_alike-in-Sequence.ensures.wrote net))

pub returns-in_ok-put_alike-in-Sequence-clause-wrote : goal.returns-in_ok-put_alike-in-Sequence-clause-wrote
returns-in_ok-put_alike-in-Sequence-clause-wrote g c =
    let net = c.args.view.now.network in
    let text = g.P.WalkForm.text c.args.form.now in
    wrote_same (ap (λ (p : WalkPart). driven_text text net c.args.first (roads_of p) c.args.at) (sym c.in-Sequence.is)) (wrote_ok (c.in_ok-put_alike-in-Sequence.ensures.wrote net))

pub arrival_of-requires-clause-travel : goal.arrival_of-requires-clause-travel
arrival_of-requires-clause-travel g c = sequence_later c.args.view.now c.args.at c.args.found.part c.in-Sequence.roads c.in-Sequence.travel c.requires.drives c.in-Sequence.is

pub arrival_of-requires-clause-near : goal.arrival_of-requires-clause-near
arrival_of-requires-clause-near g c =
    let h = c.args.view.now in
    let at = c.args.at in
    let near = arrives_near h at (at % day) c.args.found.part c.requires.drives refl in
    subst (λ (p : WalkPart). drive h.network (roads_of p) at ≤ 2 ^ 62) c.in-Sequence.is (omega (arith, near, c.requires.time))
