use Rattle.std.proofs.Common.{◌∙◌, inl, inr, subst, sym}
use Rattle.cu_pack.specs.Checks.{IsRefused}
use Rattle.cu_pack.specs.declared.refusals.PackRefusal.{PackRefusal}
use Rattle.cu_cli.specs.Steps.Outcomes.{stop_of_file}
use Rattle.cu_cli.proofs.OpeningLaws.{is_another, is_version_1, stops_checks}
use Rattle.cu_session.proofs.SessionLaws.{err_is}
use Rattle.cu_cli.proofs.opening.checked_file.Goals as goal

pub returns-in_err-migrate_telling-clause-refused : goal.returns-in_err-migrate_telling-clause-refused
returns-in_err-migrate_telling-clause-refused g c =
    let refusal = c.in_err-migrate_telling.field-0.0 in
    let known = is_version_1 c.in-Some.refusal (sym c.names_version_1.ensures ∙ c.if-names_version_1.true) in
    let there = rw c.deref.ensures.value at c.in-Some.ensures in
    let first = subst (λ (r : PackRefusal). IsRefused c.args.bytes.items r) known there in
    let wrong = rw c.deref-then-names_version_1.ensures.value at c.in_err-migrate_telling.ensures.refused in
    let (stops, before) = stops_checks c.args.bytes.items refusal (λ some. inr (first, wrong)) in
    rw (err_is c.from_residual.result (stop_of_file refusal) c.from_residual.ensures.1) stops

pub returns-clause-refused : goal.returns-clause-refused
returns-clause-refused g c =
    let there = rw c.deref.ensures.value at c.in-Some.ensures in
    let another = is_another c.in-Some.refusal (sym c.names_version_1.ensures ∙ c.if-names_version_1.false) in
    let (stops, before) = stops_checks c.args.bytes.items c.in-Some.refusal (λ some. inl (there, another)) in
    rw c.from.ensures stops
