use Rattle.std.proofs.Common.{append_assoc}
use Rattle.cu_io.proofs.Appending.{wrote_same, wrote_then}
use Rattle.cu_cli.proofs.faults.put_word_and_two.Goals as goal

pub returns : goal.returns
returns g c = record { wrote = wrote_same (simp append_assoc) (wrote_then c.in_ok-put_word_and_long.ensures.wrote c.put_word_and_long-2.ensures.wrote) }
