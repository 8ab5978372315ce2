use Rattle.std.proofs.Common.{◌++◌, ℕ, ap, decimal}
use Rattle.std.specs.Prelude.{codes}
use Rattle.cu_io.proofs.Appending.{wrote_same, wrote_then}
use Rattle.cu_desk.proofs.replies.put_client.Goals as goal

pub returns : goal.returns
returns g c = record { wrote = wrote_same (ap (λ (n : ℕ). decimal n ++ codes " ") c.from.ensures) (wrote_then c.in_ok-put_number.ensures.wrote c.put_all.ensures.wrote) }
