use Rattle.std.proofs.Common.{ℕ, List, [], ◌∷◌, false}
use Rattle.std.specs.Prelude.{Option}
use Rattle.cu_cli.specs.declared.stops.Stop.{Stop}
use Rattle.cu_cli.specs.declared.stops.Stop.TheVariants as stop
use Rattle.cu_cli.specs.Steps.Outcomes.{Did, Works, World}
use Rattle.cu_cli.specs.Commands.Verify.{EndsVerify, verifying}
use Rattle.cu_cli.specs.Words.{hierarchy_file}
use Rattle.cu_session.proofs.SessionLaws.{err_is}
use Rattle.cu_cli.proofs.Completeness.{works}
use Rattle.cu_cli.proofs.OpeningLaws.{opens_held}
use Rattle.cu_cli.proofs.VerifyLaws.{comparing_stopped, differs, same_said, same_unsaid, verdict_stopped, verify_law}
use Rattle.cu_cli.proofs.commands.verify.verify.Goals as goal

verify_works : (name : List ℕ) {why : Option Stop} {before now : World} → Did false why (EndsVerify name) before now → Works (verifying name) why before now
unfolding verifying
verify_works name done = works (verifying name) (verify_law name) done

pub returns-in_err-bytes : goal.returns-in_err-bytes
returns-in_err-bytes g c =
    let name = c.args.asked.hierarchy.now in
    let stopped = c.in_err-bytes.ensures in
    rw (err_is c.from_residual.result c.in_err-bytes.field-0.0 c.from_residual.ensures.1)
    (record { works = λ source. verify_works name (comparing_stopped _ _ source _ name _ stopped.loads stopped.err stopped.before) })

pub returns-in_err-found : goal.returns-in_err-found
returns-in_err-found g c =
    let name = c.args.asked.hierarchy.now in
    let opened = c.in_ok-bytes.ensures in
    let spells = rw c.deref.ensures.value at c.adopt-view.ensures.spells in
    rw (err_is c.from_residual-in_err-found.result stop.NoMemory c.from_residual-in_err-found.ensures.1)
    (record {
      works = λ source. verify_works name
          (verdict_stopped _ _ source _ name c.adopt-view.result opened.loads (opens_held (g.H.Shelf.state c.args.shelf.now) (hierarchy_file name ∷ []) [] opened.ok.1 opened.ok.2 spells));
    })

pub returns-in-Some : goal.returns-in-Some
returns-in-Some g c =
    let name = c.args.asked.hierarchy.now in
    let opened = c.in_ok-bytes.ensures in
    let spells = rw c.deref.ensures.value at c.adopt-view.ensures.spells in
    record {
      works = λ source. verify_works name
          (differs _ _ source _ name c.adopt-view.result opened.loads
          (opens_held (g.H.Shelf.state c.args.shelf.now) (hierarchy_file name ∷ []) [] opened.ok.1 opened.ok.2 spells) c.in-Some.found (rw c.in-Some.is at c.in_ok-found.ensures.found));
    }

pub returns-in_err-put_line : goal.returns-in_err-put_line
returns-in_err-put_line g c =
    let name = c.args.asked.hierarchy.now in
    let opened = c.in_ok-bytes.ensures in
    let spells = rw c.deref.ensures.value at c.adopt-view.ensures.spells in
    let built = rw c.in_default.is at c.in_ok-found.ensures.found in
    rw (err_is c.from_residual-in_err-put_line.result stop.Sink c.from_residual-in_err-put_line.ensures.1)
    (record {
      works = λ source. verify_works name
          (same_unsaid _ _ source _ name c.adopt-view.result opened.loads
          (opens_held (g.H.Shelf.state c.args.shelf.now) (hierarchy_file name ∷ []) [] opened.ok.1 opened.ok.2 spells) _ built c.in_err-put_line.ensures.wrote);
    })

pub returns : goal.returns
returns g c =
    let name = c.args.asked.hierarchy.now in
    let opened = c.in_ok-bytes.ensures in
    let spells = rw c.deref.ensures.value at c.adopt-view.ensures.spells in
    let built = rw c.in_default.is at c.in_ok-found.ensures.found in
    record {
      works = λ source. verify_works name
          (same_said _ _ source _ name c.adopt-view.result opened.loads
          (opens_held (g.H.Shelf.state c.args.shelf.now) (hierarchy_file name ∷ []) [] opened.ok.1 opened.ok.2 spells) _ built c.in_ok-put_line.ensures.wrote);
    }
