use Rattle.std.proofs.Common.{◌≡◌, ◌<◌, ◌∙◌, ℕ, List, ap, arith, get_or, length, refl, sym, take, take_all}
use Rattle.std.proofs.lemmas.List.{get_or_default}
use Rattle.cu_io.proofs.Appending.{wrote_nothing, wrote_ok, wrote_same, wrote_stops, wrote_then}
use Rattle.cu_drive.specs.RoadTexts.{driven_text, first_after}
use Rattle.cu_drive.proofs.DrivenTexts.{not_first}
use Rattle.cu_recall.proofs.Entering.{alike_cut, alike_more, taken_more}
use Rattle.cu_recall.proofs.walking.put_alike.Goals as goal

pub roads-init : goal.roads-init
roads-init g c = record {
  wrote = λ net. wrote_nothing (g.K.Sink.state c.args.sink.now) tt;
  first = refl;
}

pub roads-preserved : goal.roads-preserved
roads-preserved g c =
    let at = c.args.at in
    let roads = c.args.roads.now in
    let text = g.P.WalkForm.text c.args.form.now in
    let i = c.roads.road-index in
    let road = get_or roads i 0 in
    let inv = c.roads.invariant in
    let lt : i < length roads = c.roads-test.true in
    let item = get_or_default roads i 0 road lt in
    record {
      wrote = λ net.
          wrote_same (alike_more text c.requires.alike net c.args.first c.roads.first roads i road at lt item inv.first)
          (wrote_ok (wrote_then (inv.wrote net) c.in_ok-put.ensures.wrote));
      first = sym (ap (first_after c.args.first) (taken_more roads i road lt item) ∙ not_first c.args.first (take i roads) road);
    }

pub returns-in_err-put : goal.returns-in_err-put
returns-in_err-put g c =
    let roads = c.args.roads.now in
    let text = g.P.WalkForm.text c.args.form.now in
    let i = c.roads.road-index in
    let road = get_or roads i 0 in
    let inv = c.roads.invariant in
    let lt : i < length roads = c.roads-test.true in
    let item = get_or_default roads i 0 road lt in
    record {
      wrote = λ net.
          let (rest, cut) = alike_cut text c.requires.alike net c.args.first c.roads.first roads i road c.args.at lt item inv.first in
          wrote_same cut (wrote_then (inv.wrote net) (wrote_stops rest c.from_residual.ensures.0 c.in_err-put.ensures.wrote));
    }

pub returns : goal.returns
returns g c =
    let roads = c.args.roads.now in
    let text = g.P.WalkForm.text c.args.form.now in
    let i = c.roads.road-index in
    let whole : take i roads ≡ roads = take_all i roads (omega (arith, c.roads-test.false)) in
    record { wrote = λ net. wrote_same (ap (λ (done : List ℕ). driven_text text net c.args.first done c.args.at) whole) (wrote_ok (c.roads.invariant.wrote net)) }
