use Rattle.std.proofs.Common.{◌∷◌, [], inl, inr}
use Rattle.std.specs.Prelude.{Some, None}
use Rattle.cu_cli.specs.declared.stops.Role.TheVariants as role
use Rattle.cu_cli.specs.Words.{FileAsked}
use Rattle.cu_cli.proofs.LoadLaws.{loaded_behind, only_refused, only_then, stops_behind}
use Rattle.cu_session.proofs.SessionLaws.{err_is}
use Rattle.cu_cli.proofs.opening.open_edited.Goals as goal

pub returns-in_err-edits-clause-err : goal.returns-in_err-edits-clause-err
returns-in_err-edits-clause-err g c =
    let file : FileAsked = record { role = role.Edits; name = c.args.edits.now } in
    let stops = stops_behind (g.H.Shelf.state c.load_file-2.new.shelf) file _ c.in_ok-hierarchy.ensures.loads c.in_err-edits.ensures.err in
    rw (err_is c.from_residual-in_err-edits.result c.in_err-edits.field-0.0 c.from_residual-in_err-edits.ensures.1)
    (inl (inr (c.in_ok-hierarchy.hierarchy.items, c.in_ok-hierarchy.ensures.ok, inl stops)))

pub returns-in_err-edits-clause-loads : goal.returns-in_err-edits-clause-loads
returns-in_err-edits-clause-loads g c =
    rw (err_is c.from_residual-in_err-edits.result c.in_err-edits.field-0.0 c.from_residual-in_err-edits.ensures.1)
    (only_then (Some c.in_err-edits.field-0.0) c.in_ok-hierarchy.ensures.loads c.in_err-edits.ensures.loads)

pub returns-in_err-hierarchy-2-clause-err : goal.returns-in_err-hierarchy-2-clause-err
returns-in_err-hierarchy-2-clause-err g c =
    let file : FileAsked = record { role = role.Edits; name = c.args.edits.now } in
    let edits = loaded_behind file c.in_ok-edits.edits.items c.in_ok-hierarchy.ensures.loads c.in_ok-edits.ensures.ok in
    rw (err_is c.from_residual-in_err-hierarchy-2.result c.in_err-hierarchy-2.field-0.0 c.from_residual-in_err-hierarchy-2.ensures.1)
    (inr (c.in_ok-hierarchy.hierarchy.items, c.in_ok-edits.edits.items ∷ [], (c.in_ok-hierarchy.ensures.ok, (edits, tt)), c.in_err-hierarchy-2.ensures.refused))

pub returns-in_err-hierarchy-2-clause-loads : goal.returns-in_err-hierarchy-2-clause-loads
returns-in_err-hierarchy-2-clause-loads g c =
    let both = only_then None c.in_ok-hierarchy.ensures.loads c.in_ok-edits.ensures.loads in
    rw (err_is c.from_residual-in_err-hierarchy-2.result c.in_err-hierarchy-2.field-0.0 c.from_residual-in_err-hierarchy-2.ensures.1)
    (only_refused c.in_err-hierarchy-2.field-0.0 c.in_err-hierarchy-2.ensures.before both)

pub returns-clause-ok : goal.returns-clause-ok
returns-clause-ok g c =
    let file : FileAsked = record { role = role.Edits; name = c.args.edits.now } in
    let edits = loaded_behind file c.in_ok-edits.edits.items c.in_ok-hierarchy.ensures.loads c.in_ok-edits.ensures.ok in
    let (h, whose, spells) = c.in_ok-hierarchy-2.ensures.spelled in
    (h, (c.in_ok-hierarchy.hierarchy.items, (c.in_ok-hierarchy.ensures.ok, (edits, tt)), whose), spells)
