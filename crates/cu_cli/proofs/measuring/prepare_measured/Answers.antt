use Rattle.std.proofs.Common.{inl, inr}
use Rattle.std.specs.Prelude.{Some, None}
use Rattle.cu_cli.specs.Steps.Asks.{order_asked, tables_asked}
use Rattle.cu_cli.specs.Steps.Loading.{order_texts, table_texts}
use Rattle.cu_cli.specs.Words.{network_files, order_files}
use Rattle.cu_cli.proofs.ConvertedTexts.{prepared_measured, texts_stop_asked}
use Rattle.cu_cli.proofs.LoadLaws.{all_loaded_behind, early, loaded_then, only_read, only_then, stops_all_behind, stops_later, stops_sooner}
use Rattle.cu_session.proofs.SessionLaws.{err_is}
use Rattle.cu_cli.proofs.StopLaws.{if_ok_map, if_err_map}
use Rattle.cu_cli.proofs.measuring.prepare_measured.Goals as goal

pub returns-in_err-texts-clause-err : goal.returns-in_err-texts-clause-err
returns-in_err-texts-clause-err g c =
    let before = g.H.Shelf.state c.args.shelf.now in
    let now = g.H.Shelf.state c.load_tables.new.shelf in
    let stops = stops_sooner before now (network_files (tables_asked c.args.tables)) (order_files (order_asked c.args.order)) c.in_err-texts.field-0.0 c.in_err-texts.ensures.err in
    rw (err_is c.from_residual.result c.in_err-texts.field-0.0 c.from_residual.ensures.1) (inl stops)

pub returns-in_err-given-clause-err : goal.returns-in_err-given-clause-err
returns-in_err-given-clause-err g c =
    let before = g.H.Shelf.state c.args.shelf.now in
    let now = g.H.Shelf.state c.load_order.new.shelf in
    let why = c.in_err-given.field-0.0 in
    let order = stops_all_behind now (order_files (order_asked c.args.order)) why c.in_ok-texts.ensures.loads c.in_err-given.ensures.err in
    let stops =
    stops_later before now (network_files (tables_asked c.args.tables)) (order_files (order_asked c.args.order)) (table_texts c.in_ok-texts.texts) why c.in_ok-texts.ensures.ok order in
    rw (err_is c.from_residual-in_err-given.result why c.from_residual-in_err-given.ensures.1) (inl stops)

pub returns-in_err-given-clause-loads : goal.returns-in_err-given-clause-loads
returns-in_err-given-clause-loads g c =
    rw (err_is c.from_residual-in_err-given.result c.in_err-given.field-0.0 c.from_residual-in_err-given.ensures.1)
    (only_then (Some c.in_err-given.field-0.0) c.in_ok-texts.ensures.loads c.in_err-given.ensures.loads)

pub returns-clause-ok : goal.returns-clause-ok
returns-clause-ok g c =
    let asked = order_asked c.args.order in
    let before = g.H.Shelf.state c.args.shelf.now in
    let texts = c.in_ok-texts.texts in
    let given = c.in_ok-given.given in
    let order = all_loaded_behind (order_files asked) (order_texts given) c.in_ok-texts.ensures.loads c.in_ok-given.ensures.ok in
    let loaded = loaded_then before (network_files (tables_asked c.args.tables)) (order_files asked) (table_texts texts) (order_texts given) c.in_ok-texts.ensures.ok order in
    if_ok_map c.read_converted.result _ _ (λ ready read. prepared_measured before (tables_asked c.args.tables) asked texts given ready c.in_ok-given.ensures.given loaded read)
    c.read_converted.ensures.ok

pub returns-clause-err : goal.returns-clause-err
returns-clause-err g c =
    let asked = order_asked c.args.order in
    let before = g.H.Shelf.state c.args.shelf.now in
    let texts = c.in_ok-texts.texts in
    let given = c.in_ok-given.given in
    let order = all_loaded_behind (order_files asked) (order_texts given) c.in_ok-texts.ensures.loads c.in_ok-given.ensures.ok in
    let loaded = loaded_then before (network_files (tables_asked c.args.tables)) (order_files asked) (table_texts texts) (order_texts given) c.in_ok-texts.ensures.ok order in
    if_err_map c.read_converted.result _ _
    (λ why stops. inr (
      texts.nodes.items,
      texts.roads.items,
      texts.profiles.items,
      order_texts given,
      loaded,
      texts_stop_asked asked given texts.nodes.items texts.roads.items texts.profiles.items why c.in_ok-given.ensures.given stops,
    ))
    c.read_converted.ensures.err

pub returns-clause-before : goal.returns-clause-before
returns-clause-before g c = if_err_map c.read_converted.result _ _ early c.read_converted.ensures.before

pub returns-clause-loads : goal.returns-clause-loads
returns-clause-loads g c = only_read c.read_converted.result (only_then None c.in_ok-texts.ensures.loads c.in_ok-given.ensures.loads) c.read_converted.ensures.before
