use Rattle.std.proofs.Common.{[], inl, inr, false}
use Rattle.std.specs.Prelude.{Option}
use Rattle.cu_io.specs.Shelves.{ShelfState}
use Rattle.cu_io.specs.Sinks.{SinkState}
use Rattle.cu_io.specs.Sources.{SourceState}
use Rattle.cu_roads.specs.Written.{written_network}
use Rattle.cu_cli.specs.declared.commands.make.MakeWords.{MakeWords}
use Rattle.cu_cli.specs.declared.stops.Stop.{Stop}
use Rattle.cu_cli.specs.declared.stops.Stop.TheVariants as stop
use Rattle.cu_cli.specs.Commands.Make.{EndsMake, made_text, making, tables_made}
use Rattle.cu_cli.specs.Steps.Asks.{grid_asked, make_asked, tables_asked}
use Rattle.cu_cli.specs.Steps.Outcomes.{Did, Works, World, world_of}
use Rattle.cu_cli.specs.Words.{GridAsked, TablesAsked, grid_read}
use Rattle.cu_session.proofs.SessionLaws.{err_is}
use Rattle.cu_cli.proofs.Completeness.{IsComplete, storing_stops, works}
use Rattle.cu_cli.proofs.LoadLaws.{only_nothing, only_refused}
use Rattle.cu_cli.proofs.StoreLaws.{Storing, storing_refused, storing_said, storing_unsaid}
use Rattle.cu_cli.proofs.WorkLaws.{behind_nothing, ends_so, stopped_before}
use Rattle.cu_cli.proofs.commands.make.make.Goals as goal

-- where nothing fails, nothing but want of memory stops the making of a grid
make_law : (tables : TablesAsked) (grid : GridAsked) → IsComplete (making tables grid)
unfolding making
make_law tables grid a b work why can fine is (inl storing) =
    inl (storing_stops a b [] (tables_made tables (written_network (grid_read grid))) (made_text grid) why work fine is storing)
make_law tables grid a b work why can fine is (inr before) = inl (cc (before.0, is))

make_works : (words : MakeWords) {why : Option Stop} {before now : World} → Did false why (EndsMake (tables_asked words.tables) (grid_asked words.grid)) before now → Works
    (make_asked words) why before now
unfolding making
make_works words done = works (make_asked words) (make_law (tables_asked words.tables) (grid_asked words.grid)) done

-- the grid was drawn, and the storing of its tables ended
stored : (words : MakeWords) {a b : ShelfState} {s : SourceState} {k now : SinkState} {why : Option Stop}
    → Did false why (Storing [] (tables_made (tables_asked words.tables) (written_network (grid_read (grid_asked words.grid)))) (made_text (grid_asked words.grid))) (world_of a s k) (world_of b s now)
    → Works (make_asked words) why (world_of a s k) (world_of b s now)
stored words done = make_works words (ends_so (λ work ends. inl ends) done)

pub returns-in_err-texts : goal.returns-in_err-texts
returns-in_err-texts g c =
    let asked = c.args.asked in
    rw (err_is c.from_residual.result stop.NoMemory c.from_residual.ensures.1)
    (record {
      works = λ source. make_works asked
          (stopped_before _ _ source _ (EndsMake (tables_asked asked.tables) (grid_asked asked.grid)) stop.NoMemory (only_refused stop.NoMemory tt (only_nothing _)) tt (λ work ends. inr ends));
    })

pub returns-in_err-store_tables : goal.returns-in_err-store_tables
returns-in_err-store_tables g c =
    let stores = rw (c.in_ok-texts.ensures.texts, c.new-draws.ensures) at c.in_err-store_tables.ensures.stores in
    rw (err_is c.from_residual-in_err-store_tables.result c.in_err-store_tables.field-0.0 c.from_residual-in_err-store_tables.ensures.1)
    (record { works = λ source. stored c.args.asked (storing_refused source (behind_nothing _) (made_text (grid_asked c.args.asked.grid)) stores) })

pub returns-in_err-say_made : goal.returns-in_err-say_made
returns-in_err-say_made g c =
    let stores = rw (c.in_ok-texts.ensures.texts, c.new-draws.ensures) at c.in_ok-store_tables.ensures.stores in
    rw (err_is c.from_residual-in_err-say_made.result stop.Sink c.from_residual-in_err-say_made.ensures.1)
    (record { works = λ source. stored c.args.asked (storing_unsaid source (behind_nothing _) stores c.in_err-say_made.ensures.wrote) })

pub returns : goal.returns
returns g c =
    let stores = rw (c.in_ok-texts.ensures.texts, c.new-draws.ensures) at c.in_ok-store_tables.ensures.stores in
    record { works = λ source. stored c.args.asked (storing_said source (behind_nothing _) stores c.in_ok-say_made.ensures.wrote) }
