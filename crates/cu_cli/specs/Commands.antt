-- The commands: what each means by its words.
use Rattle.std.specs.Prelude.{ℕ, List, [], ◌∷◌, codes, bytes_eq}
use Rattle.cu_cli.specs.Meanings.{Meaning, no_command, when◌asks◌else◌}
use Rattle.cu_cli.specs.Commands.Ask.{ask_of}
use Rattle.cu_cli.specs.Commands.Build.{build_of}
use Rattle.cu_cli.specs.Commands.Desk.{desk_of}
use Rattle.cu_cli.specs.Commands.Edit.{edit_of}
use Rattle.cu_cli.specs.Commands.Make.{make_of}
use Rattle.cu_cli.specs.Commands.Measure.{measure_of}
use Rattle.cu_cli.specs.Commands.Migrate.{migrate_of}
use Rattle.cu_cli.specs.Commands.Order.{order_of}
use Rattle.cu_cli.specs.Commands.Serve.{serve_of}
use Rattle.cu_cli.specs.Commands.Trial.{trial_of}
use Rattle.cu_cli.specs.Commands.Verify.{verify_of}
use Rattle.cu_cli.specs.Commands.Wait.{wait_of}
pub mod Ask
pub mod Build
pub mod Desk
pub mod Edit
pub mod Make
pub mod Measure
pub mod Migrate
pub mod Order
pub mod Serve
pub mod Trial
pub mod Verify
pub mod Wait

-- what the words ask for
abbrev pub meaning_of : List (List ℕ) → Meaning
meaning_of [] = no_command
meaning_of (word ∷ words) =
    when bytes_eq word (codes "serve") asks serve_of words
    else when bytes_eq word (codes "wait") asks wait_of words
    else when bytes_eq word (codes "order") asks order_of words
    else when bytes_eq word (codes "make") asks make_of words
    else when bytes_eq word (codes "build") asks build_of words
    else when bytes_eq word (codes "ask") asks ask_of words
    else when bytes_eq word (codes "desk") asks desk_of words
    else when bytes_eq word (codes "edit") asks edit_of words
    else when bytes_eq word (codes "verify") asks verify_of words
    else when bytes_eq word (codes "measure") asks measure_of words
    else when bytes_eq word (codes "migrate") asks migrate_of words
    else when bytes_eq word (codes "trial") asks trial_of words
    else no_command
