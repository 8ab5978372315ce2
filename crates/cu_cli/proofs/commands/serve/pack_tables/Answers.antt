use Rattle.std.proofs.Common.{inl}
use Rattle.cu_cli.specs.declared.stops.Stop.TheVariants as stop
use Rattle.cu_cli.specs.Steps.Asks.{order_asked, tables_asked}
use Rattle.cu_session.proofs.SessionLaws.{err_is}
use Rattle.cu_cli.proofs.LoadLaws.{only_refused}
use Rattle.cu_cli.proofs.WorkLaws.{has_built}
use Rattle.cu_cli.proofs.commands.serve.pack_tables.Goals as goal

pub returns-in_err-pack_prepared-clause-err : goal.returns-in_err-pack_prepared-clause-err
returns-in_err-pack_prepared-clause-err g c =
    rw (err_is c.from_residual-in_err-pack_prepared.result stop.NoMemory c.from_residual-in_err-pack_prepared.ensures.1) (inl (inl (inl tt)))

pub returns-in_err-pack_prepared-clause-loads : goal.returns-in_err-pack_prepared-clause-loads
returns-in_err-pack_prepared-clause-loads g c =
    rw (err_is c.from_residual-in_err-pack_prepared.result stop.NoMemory c.from_residual-in_err-pack_prepared.ensures.1) (only_refused stop.NoMemory tt c.in_ok-prepared.ensures.loads)

pub returns-clause-ok : goal.returns-clause-ok
returns-clause-ok g c =
    let (h, built, network, order, spells) = c.in_ok-pack_prepared.ensures.built in
    (h, has_built (tables_asked c.args.asked.tables) (order_asked c.args.asked.order) c.in_ok-prepared.prepared c.in_ok-prepared.ensures.ok built network order, spells)
