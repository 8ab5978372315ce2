use Rattle.std.proofs.Common.{ℕ, false}
use Rattle.std.specs.Prelude.{Option}
use Rattle.cu_cli.specs.declared.stops.Stop.{Stop}
use Rattle.cu_cli.specs.Steps.Outcomes.{Did, Works, World}
use Rattle.cu_cli.specs.Words.{GridAsked}
use Rattle.cu_cli.specs.Commands.Trial.{EndsTrial, trying}
use Rattle.cu_cli.specs.Steps.Asks.{grid_asked}
use Rattle.cu_cli.proofs.Completeness.{works}
use Rattle.cu_session.proofs.SessionLaws.{err_is}
use Rattle.cu_cli.proofs.TrialLaws.{grid_stopped, trial_law}
use Rattle.cu_cli.proofs.commands.trial.trial.Goals as goal

trial_works : (grid : GridAsked) (turns : ℕ) {why : Option Stop} {before now : World} → Did false why (EndsTrial grid turns) before now → Works (trying grid turns) why before now
unfolding trying
trial_works grid turns done = works (trying grid turns) (trial_law grid turns) done

pub returns-in_err-router : goal.returns-in_err-router
returns-in_err-router g c =
    let grid = grid_asked c.args.asked.grid in
    let turns = c.args.asked.turns in
    rw (err_is c.from_residual.result c.in_err-router.field-0.0 c.from_residual.ensures.1)
    (record { works = λ shelf source. trial_works grid turns (grid_stopped shelf source _ grid turns _ c.in_err-router.ensures.err) })
