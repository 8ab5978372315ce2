-- What the program makes of its words.
use Rattle.std.specs.Prelude.{Option, Some, None, ◌≡◌}
use Rattle.cu_io.specs.Shelves.{ShelfState}
use Rattle.cu_cli.specs.declared.commands.Command.{Command}
use Rattle.cu_cli.specs.declared.commands.Command.TheVariants as command
use Rattle.cu_cli.specs.declared.commands.ask.AskWords.{AskWords}
use Rattle.cu_cli.specs.declared.commands.build.BuildWords.{BuildWords}
use Rattle.cu_cli.specs.declared.commands.desk.DeskWords.{DeskWords}
use Rattle.cu_cli.specs.declared.commands.edit.EditWords.{EditWords}
use Rattle.cu_cli.specs.declared.commands.make.MakeWords.{MakeWords}
use Rattle.cu_cli.specs.declared.commands.measure.MeasureWords.{MeasureWords}
use Rattle.cu_cli.specs.declared.commands.migrate.MigrateWords.{MigrateWords}
use Rattle.cu_cli.specs.declared.commands.order.OrderWords.{OrderWords}
use Rattle.cu_cli.specs.declared.commands.serve.ServeWords.{ServeWords}
use Rattle.cu_cli.specs.declared.commands.trial.turns.TrialWords.{TrialWords}
use Rattle.cu_cli.specs.declared.commands.verify.VerifyWords.{VerifyWords}
use Rattle.cu_cli.specs.declared.commands.wait.WaitWords.{WaitWords}
use Rattle.cu_cli.specs.declared.stops.Stop.{Stop}
use Rattle.cu_cli.specs.declared.words.grid.GridWords.{GridWords}
use Rattle.cu_cli.specs.declared.words.OrderWord.{OrderWord}
use Rattle.cu_cli.specs.declared.words.OrderWord.TheVariants as word
use Rattle.cu_cli.specs.declared.words.TableNames.{TableNames}
use Rattle.cu_cli.specs.Commands.Ask.{asking}
use Rattle.cu_cli.specs.Commands.Build.{building}
use Rattle.cu_cli.specs.Commands.Desk.{serving_desk}
use Rattle.cu_cli.specs.Commands.Edit.{editing}
use Rattle.cu_cli.specs.Commands.Make.{making}
use Rattle.cu_cli.specs.Commands.Measure.{measuring}
use Rattle.cu_cli.specs.Commands.Migrate.{migrating}
use Rattle.cu_cli.specs.Commands.Order.{ordering}
use Rattle.cu_cli.specs.Commands.Serve.{serving}
use Rattle.cu_cli.specs.Commands.Trial.{trying}
use Rattle.cu_cli.specs.Commands.Verify.{verifying}
use Rattle.cu_cli.specs.Commands.Wait.{waiting}
use Rattle.cu_cli.specs.Endings.{Ending}
use Rattle.cu_cli.specs.Meanings.{Meaning, no_command}
use Rattle.cu_cli.specs.Words.{OrderAsked, Identity, Dissected, Named, GridAsked, TablesAsked}

-- the order that the program takes a word for
abbrev pub order_asked : OrderWord → OrderAsked
order_asked word.Identity = Identity
order_asked word.Dissected = Dissected
order_asked (word.Named name) = Named name.now

abbrev pub tables_asked : TableNames → TablesAsked
tables_asked tables = record { nodes = tables.nodes.now; roads = tables.roads.now; profiles = tables.profiles.now }

abbrev pub grid_asked : GridWords → GridAsked
grid_asked grid = record { start = grid.start; width = grid.width; height = grid.height }

abbrev pub serve_asked : ServeWords → Meaning
serve_asked asked = serving (tables_asked asked.tables) (order_asked asked.order)

abbrev pub wait_asked : WaitWords → Meaning
wait_asked asked = waiting (tables_asked asked.tables) (order_asked asked.order)

abbrev pub order_words_asked : OrderWords → Meaning
order_words_asked asked = ordering (tables_asked asked.tables) asked.out.now

abbrev pub make_asked : MakeWords → Meaning
make_asked asked = making (tables_asked asked.tables) (grid_asked asked.grid)

abbrev pub build_asked : BuildWords → Meaning
build_asked asked = building (tables_asked asked.tables) (order_asked asked.order) asked.out.now

abbrev pub ask_asked : AskWords → Meaning
ask_asked asked = asking asked.hierarchy.now

abbrev pub desk_asked : DeskWords → Meaning
desk_asked asked = serving_desk asked.hierarchy.now asked.out.now

abbrev pub edit_asked : EditWords → Meaning
edit_asked asked = editing asked.hierarchy.now asked.edits.now asked.out.now

abbrev pub verify_asked : VerifyWords → Meaning
verify_asked asked = verifying asked.hierarchy.now

abbrev pub measure_asked : MeasureWords → Meaning
measure_asked asked = measuring asked.measured.now asked.out.now

abbrev pub migrate_asked : MigrateWords → Meaning
migrate_asked asked = migrating asked.hierarchy.now asked.out.now

abbrev pub trial_asked : TrialWords → Meaning
trial_asked asked = trying (grid_asked asked.grid) asked.turns

-- what the command that the program takes its words for means
abbrev pub command_asked : Command → Meaning
command_asked (command.Serve asked) = serve_asked asked
command_asked (command.Wait asked) = wait_asked asked
command_asked (command.Order asked) = order_words_asked asked
command_asked (command.Make asked) = make_asked asked
command_asked (command.Build asked) = build_asked asked
command_asked (command.Ask asked) = ask_asked asked
command_asked (command.Desk asked) = desk_asked asked
command_asked (command.Edit asked) = edit_asked asked
command_asked (command.Verify asked) = verify_asked asked
command_asked (command.Measure asked) = measure_asked asked
command_asked (command.Migrate asked) = migrate_asked asked
command_asked (command.Trial asked) = trial_asked asked

-- words mean what was asked
pub record Means (words asked : Meaning) : Type 0 where
  pub ends : (before now : ShelfState) (work : Ending) → asked.ends before now work → words.ends before now work
  pub script : words.script ≡ asked.script
  pub can : (before : ShelfState) → words.can before → asked.can before
  pub stops : (why : Stop) → asked.stops why → words.stops why

-- words are taken for this value, and mean what it asks for; or they are no command's
abbrev pub Parses : {Value : Type 0} → (Value → Meaning) → Meaning → Option Value → Type 0
Parses asks_for words None = Means words no_command
Parses asks_for words (Some value) = Means words (asks_for value)

-- the program takes words for this grid, or for none
abbrev pub AsksForGrid : Option GridAsked → Option GridWords → Type 0
AsksForGrid asked None = asked ≡ None
AsksForGrid asked (Some grid) = asked ≡ Some (grid_asked grid)
