use Rattle.std.proofs.lemmas.Result.{on_ok_weaker}
use Rattle.cu_pack.proofs.replacing.put_own_entries.Goals as goal

pub returns : goal.returns
returns g c = on_ok_weaker c.put_list-2.result (λ e. g.met.T.Target.more _ _ _ _ _ c.in_ok-put_list.ensures e) c.put_list-2.ensures
