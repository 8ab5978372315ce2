use Rattle.std.proofs.Common.{[], inl, inr}
use Rattle.cu_session.proofs.SessionLaws.{err_is}
use Rattle.cu_cli.proofs.LoadLaws.{early, only_read}
use Rattle.cu_cli.proofs.StopLaws.{if_err_map, if_ok_map}
use Rattle.cu_cli.proofs.opening.open_file.Goals as goal

pub returns-in_err-bytes-clause-err : goal.returns-in_err-bytes-clause-err
returns-in_err-bytes-clause-err g c =
    rw (err_is c.from_residual.result c.in_err-bytes.field-0.0 c.from_residual.ensures.1) (inl (inl c.in_err-bytes.ensures.err))

pub returns-clause-ok : goal.returns-clause-ok
returns-clause-ok g c =
    if_ok_map c.checked_file.result _ _ (λ file k. (k.0, (c.in_ok-bytes.bytes.items, (c.in_ok-bytes.ensures.ok, tt), k.1), k.2)) c.checked_file.ensures.spelled

pub returns-clause-err : goal.returns-clause-err
returns-clause-err g c =
    if_err_map c.checked_file.result _ _ (λ why k. inr (c.in_ok-bytes.bytes.items, [], (c.in_ok-bytes.ensures.ok, tt), k)) c.checked_file.ensures.refused

pub returns-clause-before : goal.returns-clause-before
returns-clause-before g c = if_err_map c.checked_file.result _ _ early c.checked_file.ensures.before

pub returns-clause-loads : goal.returns-clause-loads
returns-clause-loads g c = only_read c.checked_file.result c.in_ok-bytes.ensures.loads c.checked_file.ensures.before
