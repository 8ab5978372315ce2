use Rattle.cu_io.proofs.Appending.{wrote_stops, wrote_then}
use Rattle.cu_reach.specs.ReachTexts.{damage_text}
use Rattle.cu_reach.proofs.writing.put_end.Goals as goal

pub returns-in_err-put_all : goal.returns-in_err-put_all
returns-in_err-put_all g c =
    record { wrote = wrote_stops (damage_text c.args.edge c.args.dir c.args.second) c.from_residual.ensures.0 c.in_err-put_all.ensures.wrote }

pub returns : goal.returns
returns g c = record { wrote = wrote_then c.in_ok-put_all.ensures.wrote c.put_damage.ensures.wrote }
