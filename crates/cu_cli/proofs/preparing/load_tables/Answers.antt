use Rattle.std.proofs.Common.{inl, inr}
use Rattle.std.specs.Prelude.{Some, None}
use Rattle.cu_cli.specs.declared.stops.Role.TheVariants as role
use Rattle.cu_cli.proofs.LoadLaws.{loaded_behind, only_then, stops_behind}
use Rattle.cu_session.proofs.SessionLaws.{err_is}
use Rattle.cu_cli.proofs.preparing.load_tables.Goals as goal

pub returns-in_err-roads-clause-err : goal.returns-in_err-roads-clause-err
returns-in_err-roads-clause-err g c =
    let stops = stops_behind (g.H.Shelf.state c.load_file-2.new.shelf) (record { role = role.Roads; name = c.args.tables.roads.now }) _ c.in_ok-nodes.ensures.loads
    c.in_err-roads.ensures.err in
    rw (err_is c.from_residual-in_err-roads.result c.in_err-roads.field-0.0 c.from_residual-in_err-roads.ensures.1)
    (inr (c.in_ok-nodes.nodes.items, c.in_ok-nodes.ensures.ok, inl stops))

pub returns-in_err-roads-clause-loads : goal.returns-in_err-roads-clause-loads
returns-in_err-roads-clause-loads g c =
    rw (err_is c.from_residual-in_err-roads.result c.in_err-roads.field-0.0 c.from_residual-in_err-roads.ensures.1)
    (only_then (Some c.in_err-roads.field-0.0) c.in_ok-nodes.ensures.loads c.in_err-roads.ensures.loads)

pub returns-in_err-profiles-clause-err : goal.returns-in_err-profiles-clause-err
returns-in_err-profiles-clause-err g c =
    let two = only_then None c.in_ok-nodes.ensures.loads c.in_ok-roads.ensures.loads in
    let roads = loaded_behind (record { role = role.Roads; name = c.args.tables.roads.now }) c.in_ok-roads.roads.items c.in_ok-nodes.ensures.loads c.in_ok-roads.ensures.ok in
    let stops = stops_behind (g.H.Shelf.state c.load_file-3.new.shelf) (record { role = role.Profiles; name = c.args.tables.profiles.now }) _ two c.in_err-profiles.ensures.err in
    rw (err_is c.from_residual-in_err-profiles.result c.in_err-profiles.field-0.0 c.from_residual-in_err-profiles.ensures.1)
    (inr (c.in_ok-nodes.nodes.items, c.in_ok-nodes.ensures.ok, inr (c.in_ok-roads.roads.items, roads, inl stops)))

pub returns-in_err-profiles-clause-loads : goal.returns-in_err-profiles-clause-loads
returns-in_err-profiles-clause-loads g c =
    let two = only_then None c.in_ok-nodes.ensures.loads c.in_ok-roads.ensures.loads in
    rw (err_is c.from_residual-in_err-profiles.result c.in_err-profiles.field-0.0 c.from_residual-in_err-profiles.ensures.1)
    (only_then (Some c.in_err-profiles.field-0.0) two c.in_err-profiles.ensures.loads)

pub returns-clause-loads : goal.returns-clause-loads
returns-clause-loads g c =
    let two = only_then None c.in_ok-nodes.ensures.loads c.in_ok-roads.ensures.loads in
    only_then None two c.in_ok-profiles.ensures.loads
