use Rattle.cu_io.proofs.Appending.{line_then, line_same}
use Rattle.std.proofs.lemmas.List.{append-nil}
use Rattle.cu_io.proofs.text.put_line.Goals as goal

pub returns : goal.returns
returns g c = record { wrote = line_same (append-nil c.args.line.now) (line_then c.in_ok-put_all.ensures.wrote c.end_line.ensures.wrote) }
