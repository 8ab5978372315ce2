use Rattle.std.specs.Prelude.{map, string_bytes}
use Rattle.cu_cli.specs.Commands.{meaning_of}
use Rattle.cu_cli.specs.Meanings.{no_command}
use Rattle.cu_cli.specs.Steps.Asks.{command_asked}
use Rattle.cu_cli.proofs.Completeness.{meant, no_words}
use Rattle.cu_cli.proofs.program.perform_words.Goals as goal

pub returns-in_default : goal.returns-in_default
returns-in_default g c = record { works = meant (meaning_of (map string_bytes c.args.words.now.items)) no_command c.in_default.ensures (no_words _ _ _) }

pub returns : goal.returns
returns g c =
    let asked = command_asked c.in-Some.command in
    record { works = meant (meaning_of (map string_bytes c.args.words.now.items)) asked c.in-Some.ensures c.perform.ensures.works }
