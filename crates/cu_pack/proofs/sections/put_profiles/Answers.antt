use Rattle.std.proofs.lemmas.Result.{on_ok_weaker}
use Rattle.cu_pack.proofs.sections.put_profiles.Goals as goal

pub returns : goal.returns
returns g c = on_ok_weaker c.put_all_pieces.result (λ e. g.met.T.Target.more _ _ _ _ _ c.in_ok-put_profile_starts.ensures e) c.put_all_pieces.ensures
