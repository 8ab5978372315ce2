use Rattle.std.proofs.Common.{inl}
use Rattle.cu_cli.specs.declared.stops.Stop.TheVariants as stop
use Rattle.cu_cli.specs.Steps.Asks.{order_asked, tables_asked}
use Rattle.cu_session.proofs.SessionLaws.{err_is}
use Rattle.cu_cli.proofs.ConvertedTexts.{has_built_measured}
use Rattle.cu_cli.proofs.LoadLaws.{only_refused}
use Rattle.cu_cli.proofs.commands.wait.pack_measured.Goals as goal

pub returns-in_err-bytes-clause-err : goal.returns-in_err-bytes-clause-err
returns-in_err-bytes-clause-err g c =
    rw (err_is c.from_residual-in_err-bytes.result stop.NoMemory c.from_residual-in_err-bytes.ensures.1) (inl (inl tt))

pub returns-in_err-bytes-clause-loads : goal.returns-in_err-bytes-clause-loads
returns-in_err-bytes-clause-loads g c =
    rw (err_is c.from_residual-in_err-bytes.result stop.NoMemory c.from_residual-in_err-bytes.ensures.1) (only_refused stop.NoMemory tt c.in_ok-ready.ensures.loads)

pub returns-clause-ok : goal.returns-clause-ok
returns-clause-ok g c =
    let (h, built, network, order, spells) = c.in_ok-bytes.ensures.built in
    (h, has_built_measured (tables_asked c.args.asked.tables) (order_asked c.args.asked.order) c.in_ok-ready.ready c.in_ok-ready.ensures.ok built network order, spells)
