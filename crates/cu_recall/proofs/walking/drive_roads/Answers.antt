use Rattle.std.proofs.Common.{◌<◌, ◌∙◌, arith, get_or, length, refl}
use Rattle.std.proofs.lemmas.List.{get_or_default}
use Rattle.cu_model.proofs.RoadLaws.{arc_value-near}
use Rattle.cu_recall.proofs.Entering.{driven_more, open_at}
use Rattle.cu_recall.proofs.walking.drive_roads.Goals as goal

pub roads-init : goal.roads-init
roads-init c = record { entered = refl; near = omega arith }

pub roads-preserved : goal.roads-preserved
roads-preserved c =
    let net = c.args.view.now.network in
    let at = c.args.at in
    let roads = c.args.roads.now in
    let i = c.roads.road-index in
    let road = get_or roads i 0 in
    let inv = c.roads.invariant in
    let lt : i < length roads = c.roads-test.true in
    let item = get_or_default roads i 0 road lt in
    let may = open_at net roads i road c.requires.open lt item in
    let step = arc_value-near net c.requires.sound.network road may.0 c.roads.entered in
    let near = inv.near in
    record {
      entered = c.drive-entered.ensures.value ∙ driven_more net roads i road at c.roads.entered lt item inv.entered;
      near = omega (arith, near, step, c.drive-entered.ensures.value);
    }
