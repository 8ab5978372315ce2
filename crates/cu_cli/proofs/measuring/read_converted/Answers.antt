use Rattle.std.proofs.Common.{inl, refl}
use Rattle.cu_roads.specs.NetworkTexts.{NetworkRead, network_with}
use Rattle.cu_wait.specs.MeasuredTexts.{measured_of_text}
use Rattle.cu_cli.specs.declared.measuring.PreparedWaiting.{PreparedWaiting}
use Rattle.cu_cli.specs.Steps.Outcomes.{stop_of_measured, stop_of_network}
use Rattle.cu_cli.proofs.ConvertedTexts.{network_stops, order_stops, read_measured_is, stops_tables}
use Rattle.cu_cli.proofs.MeasureLaws.{stops_measured}
use Rattle.cu_session.proofs.SessionLaws.{err_is}
use Rattle.cu_cli.proofs.measuring.read_converted.Goals as goal

pub returns-in_err-read : goal.returns-in_err-read
returns-in_err-read g c =
    let refusal = c.in_err-read.field-0.0 in
    let refused = rw c.deref.ensures.value at c.in_err-read.ensures.refused in
    let (stops, before) = stops_measured (measured_of_text c.args.texts.profiles.items) refusal refused in
    rw (err_is c.from_residual.result (stop_of_measured refusal) c.from_residual.ensures.1)
    (record { ok = tt; closed = tt; err = inl stops; before = before })

pub returns-in_err-network : goal.returns-in_err-network
returns-in_err-network g c =
    let texts = c.args.texts in
    let read = c.in_ok-read.read in
    let (points, all) = rw c.deref.ensures.value at c.in_ok-read.ensures.ok in
    let refusal = c.in_err-network.field-0.0 in
    let refused = rw (c.deref-2.ensures.value, c.deref-3.ensures.value) at c.in_err-network.ensures.network in
    let (stops, before) = stops_tables (network_with texts.nodes.items texts.roads.items read.profiles.items) refusal refused in
    rw (err_is c.from_residual-in_err-network.result (stop_of_network refusal) c.from_residual-in_err-network.ensures.1)
    (record {
      ok = tt;
      closed = tt;
      err = network_stops texts read.measured.items read.profiles.items points all c.args.given.now (stop_of_network refusal) stops;
      before = before;
    })

pub returns-in_err-prepared : goal.returns-in_err-prepared
returns-in_err-prepared g c =
    let texts = c.args.texts in
    let read = c.in_ok-read.read in
    let (points, all) = rw c.deref.ensures.value at c.in_ok-read.ensures.ok in
    let why = c.in_err-prepared.field-0.0 in
    let tables : NetworkRead = record { network = c.in_ok-network.network; places = c.in_ok-network.places } in
    let named = rw (c.deref-2.ensures.value, c.deref-3.ensures.value) at c.in_ok-network.ensures.network in
    rw (err_is c.from_residual-in_err-prepared.result why c.from_residual-in_err-prepared.ensures.1)
    (record {
      ok = tt;
      closed = tt;
      err = order_stops texts read.measured.items read.profiles.items points all c.args.given.now why tables named c.in_err-prepared.ensures.err;
      before = c.in_err-prepared.ensures.before;
    })

pub returns-clause-ok : goal.returns-clause-ok
returns-clause-ok g c =
    let texts = c.args.texts in
    let read = c.in_ok-read.read in
    let (points, all) = rw c.deref.ensures.value at c.in_ok-read.ensures.ok in
    let tables : NetworkRead = record { network = c.in_ok-network.network; places = c.in_ok-network.places } in
    let named = rw (c.deref-2.ensures.value, c.deref-3.ensures.value) at c.in_ok-network.ensures.network in
    let ready : PreparedWaiting = record { prepared = c.in_ok-prepared.prepared; measured = read.measured } in
    let prepared = c.in_ok-prepared.ensures in
    read_measured_is texts read.measured.items read.profiles.items points all c.args.given.now ready tables refl prepared.network named prepared.order prepared.few
