use Rattle.std.proofs.Common.{◌++◌, true, append_assoc, decimal}
use Rattle.cu_io.proofs.Appending.{wrote_then, wrote_stops, wrote_same}
use Rattle.cu_drive.specs.RoadTexts.{driven_text}
use Rattle.cu_sweep.specs.Desks.{roads_of}
use Rattle.cu_sweep.proofs.RoutedTexts.{routed_drive}
use Rattle.cu_router.proofs.sweeps.put_arrival.Goals as goal

pub returns-in_err-put_all-clause-wrote : goal.returns-in_err-put_all-clause-wrote
returns-in_err-put_all-clause-wrote g c = λ second chained.
    let h = g.W.Relaxer.hierarchy c.args.walker.now in
    let roads = g.P.WalkForm.word c.args.form.now ++ driven_text (g.P.WalkForm.text c.args.form.now) h.network true (roads_of h c.args.desk.now.calls) second in
    wrote_same (simp append_assoc) (wrote_stops (decimal c.args.arrival ++ roads) c.from_residual.ensures.0 c.in_err-put_all.ensures.wrote)

pub returns-in_err-put_number-clause-wrote : goal.returns-in_err-put_number-clause-wrote
returns-in_err-put_number-clause-wrote g c = λ second chained.
    let h = g.W.Relaxer.hierarchy c.args.walker.now in
    let roads = g.P.WalkForm.word c.args.form.now ++ driven_text (g.P.WalkForm.text c.args.form.now) h.network true (roads_of h c.args.desk.now.calls) second in
    let number = wrote_then c.in_ok-put_all.ensures.wrote c.in_err-put_number.ensures.wrote in
    wrote_same (simp append_assoc) (wrote_stops roads c.from_residual-in_err-put_number.ensures.0 number)

pub returns-in_err-put_all-2-clause-wrote : goal.returns-in_err-put_all-2-clause-wrote
returns-in_err-put_all-2-clause-wrote g c = λ second chained.
    let number = wrote_then c.in_ok-put_all.ensures.wrote c.in_ok-put_number.ensures.wrote in
    let word = rw c.word.ensures at c.in_err-put_all-2.ensures.wrote in
    wrote_stops _ c.from_residual-in_err-put_all-2.ensures.0 (wrote_then number word)

pub returns-clause-wrote : goal.returns-clause-wrote
returns-clause-wrote g c = λ second chained.
    let number = wrote_then c.in_ok-put_all.ensures.wrote c.in_ok-put_number.ensures.wrote in
    let word = rw c.word.ensures at c.in_ok-put_all-2.ensures.wrote in
    let h = g.W.Relaxer.hierarchy c.args.walker.now in
    let said = routed_drive h c.requires.sound (g.P.WalkForm.text c.args.form.now) true c.args.desk.now.calls second c.requires.arriving chained in
    wrote_then (wrote_then number word) (wrote_same said c.route_by.ensures.wrote)
