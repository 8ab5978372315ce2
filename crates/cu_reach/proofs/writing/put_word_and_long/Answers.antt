use Rattle.cu_io.proofs.Appending.{wrote_then}
use Rattle.cu_reach.proofs.writing.put_word_and_long.Goals as goal

pub returns : goal.returns
returns g c = record { wrote = wrote_then c.in_ok-put_all.ensures.wrote c.put_number.ensures.wrote }
