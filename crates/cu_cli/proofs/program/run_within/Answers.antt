use Rattle.std.specs.Prelude.{map, string_bytes}
use Rattle.cu_cli.specs.Commands.{meaning_of}
use Rattle.cu_cli.proofs.Completeness.{completes}
use Rattle.cu_cli.proofs.WorkLaws.{closed, finished}
use Rattle.cu_cli.proofs.program.run_within.Goals as goal

pub returns-in_default-clause-ended : goal.returns-in_default-clause-ended
returns-in_default-clause-ended g c = finished _ _ _ _ _ _ (map string_bytes c.args.words.now.items) c.in_default.ensures.works

pub returns-clause-ended : goal.returns-clause-ended
returns-clause-ended g c =
    closed _ _ _ _ _ _ _ (map string_bytes c.args.words.now.items) c.in-Err.stop c.refuse.result c.in-Err.ensures.works c.refuse.ensures.refuses

pub returns-clause-complete : goal.returns-clause-complete
returns-clause-complete g c can short fine =
    completes (meaning_of (map string_bytes c.args.words.now.items)) _ _ _ _ _ _ _ c.in-Err.stop c.refuse.result c.in-Err.ensures.works c.refuse.ensures.refuses can short fine
