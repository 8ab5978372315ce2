use Rattle.std.proofs.Common.{ℕ, false, inl}
use Rattle.std.specs.Prelude.{Option}
use Rattle.cu_cli.specs.declared.stops.Stop.{Stop}
use Rattle.cu_cli.specs.Steps.Outcomes.{Did, Works, World}
use Rattle.cu_cli.specs.Words.{GridAsked}
use Rattle.cu_cli.specs.declared.stops.Stop.TheVariants as stop
use Rattle.cu_cli.specs.Commands.Trial.{EndsTrial, trying}
use Rattle.cu_cli.specs.Steps.Asks.{grid_asked}
use Rattle.cu_cli.proofs.Completeness.{works}
use Rattle.cu_session.proofs.SessionLaws.{err_is}
use Rattle.cu_cli.proofs.LoadLaws.{only_nothing}
use Rattle.cu_cli.proofs.StoreLaws.{said_alone, unsaid_alone}
use Rattle.cu_cli.proofs.TrialLaws.{grid_drawable, grid_stopped, trial_law, tried_all}
use Rattle.cu_cli.proofs.commands.trial.try_grid.Goals as goal

trial_works : (grid : GridAsked) (turns : ℕ) {why : Option Stop} {before now : World} → Did false why (EndsTrial grid turns) before now → Works (trying grid turns) why before now
unfolding trying
trial_works grid turns done = works (trying grid turns) (trial_law grid turns) done

pub take_turns-requires-clause-drawable : goal.take_turns-requires-clause-drawable
take_turns-requires-clause-drawable g c =
    let grid = c.args.asked.grid in
    rw c.requires.network (grid_drawable (grid_asked grid) grid.wide grid.high)

pub returns-in_err-take_turns : goal.returns-in_err-take_turns
returns-in_err-take_turns g c =
    let grid = grid_asked c.args.asked.grid in
    let turns = c.args.asked.turns in
    rw (err_is c.from_residual.result stop.NoMemory c.from_residual.ensures.1)
    (record { works = λ shelf source. trial_works grid turns (grid_stopped shelf source _ grid turns stop.NoMemory tt) })

pub returns-in_err-say_tried : goal.returns-in_err-say_tried
returns-in_err-say_tried g c =
    let grid = grid_asked c.args.asked.grid in
    let turns = c.args.asked.turns in
    let first = c.args.router.now in
    let last = c.take_turns.new.router in
    let done = c.in_ok-take_turns.ensures in
    let is = tried_all grid turns first last c.args.draws c.take_turns.new.tally c.requires.order
    c.requires.network c.requires.behind done.tried done.order done.built in
    let same = c.view-view.ensures.same in
    let line = rw same at c.in_err-say_tried.ensures.wrote in
    rw (err_is c.from_residual-in_err-say_tried.result stop.Sink c.from_residual-in_err-say_tried.ensures.1)
    (record { works = λ shelf source. trial_works grid turns (unsaid_alone {Ends = EndsTrial grid turns} source (only_nothing shelf) line (λ work said. inl (_, is, said.0, said.1, said.2))) })

pub returns : goal.returns
returns g c =
    let grid = grid_asked c.args.asked.grid in
    let turns = c.args.asked.turns in
    let first = c.args.router.now in
    let last = c.take_turns.new.router in
    let done = c.in_ok-take_turns.ensures in
    let is = tried_all grid turns first last c.args.draws c.take_turns.new.tally c.requires.order
    c.requires.network c.requires.behind done.tried done.order done.built in
    let same = c.view-view.ensures.same in
    let line = rw same at c.in_ok-say_tried.ensures.wrote in
    record { works = λ shelf source. trial_works grid turns (said_alone {Ends = EndsTrial grid turns} source (only_nothing shelf) line (λ work said. inl (_, is, said.0, said.1, said.2))) }
