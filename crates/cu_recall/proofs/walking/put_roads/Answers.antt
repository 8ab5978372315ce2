use Rattle.std.proofs.Common.{◌<◌, ◌∙◌, ◌+◌, false, ap, arith, drop, get_or, length, refl, sym, take}
use Rattle.std.proofs.lemmas.List.{get_or_default}
use Rattle.cu_io.proofs.Appending.{wrote_nothing, wrote_ok, wrote_same, wrote_stops, wrote_then}
use Rattle.cu_model.specs.Roads.{arc_value}
use Rattle.cu_model.proofs.RoadLaws.{arc_value-near}
use Rattle.cu_drive.specs.RoadTexts.{driven_text, first_after}
use Rattle.cu_drive.proofs.DrivenTexts.{not_first}
use Rattle.cu_recall.proofs.Entering.{driven_more, open_at, taken_more, written_cut, written_more}
use Rattle.cu_recall.proofs.walking.put_roads.Goals as goal

pub roads-init : goal.roads-init
roads-init g c = record {
  wrote = wrote_nothing (g.K.Sink.state c.args.sink.now) tt;
  first = refl;
  entered = refl;
  near = omega arith;
}

pub roads-preserved : goal.roads-preserved
roads-preserved g c =
    let net = c.args.view.now.network in
    let at = c.args.at in
    let roads = c.args.roads.now in
    let text = g.P.WalkForm.text c.args.form.now in
    let i = c.roads.road-index in
    let road = get_or roads i 0 in
    let inv = c.roads.invariant in
    let lt : i < length roads = c.roads-test.true in
    let item = get_or_default roads i 0 road lt in
    let may = open_at net roads i road c.requires.open lt item in
    let step = arc_value-near net c.requires.sound.network road may.0 c.roads.entered in
    let near = inv.near in
    record {
      wrote = wrote_same (written_more text net c.args.first c.roads.first roads i road at c.roads.entered lt item inv.first inv.entered)
          (wrote_ok (wrote_then inv.wrote c.in_ok-put.ensures.wrote));
      first = sym (ap (first_after c.args.first) (taken_more roads i road lt item) ∙ not_first c.args.first (take i roads) road);
      entered = c.drive-entered.ensures.value ∙ driven_more net roads i road at c.roads.entered lt item inv.entered;
      near = omega (arith, near, step, c.drive-entered.ensures.value);
    }

pub returns-in_err-put-clause-wrote : goal.returns-in_err-put-clause-wrote
returns-in_err-put-clause-wrote g c =
    let net = c.args.view.now.network in
    let roads = c.args.roads.now in
    let text = g.P.WalkForm.text c.args.form.now in
    let i = c.roads.road-index in
    let road = get_or roads i 0 in
    let inv = c.roads.invariant in
    let lt : i < length roads = c.roads-test.true in
    let item = get_or_default roads i 0 road lt in
    let rest = driven_text text net false (drop (i + 1) roads) (arc_value net road c.roads.entered) in
    wrote_same (written_cut text net c.args.first c.roads.first roads i road c.args.at c.roads.entered lt item inv.first inv.entered)
    (wrote_then inv.wrote (wrote_stops rest c.from_residual.ensures.0 c.in_err-put.ensures.wrote))
