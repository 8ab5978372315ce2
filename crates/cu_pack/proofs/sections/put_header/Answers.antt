use Rattle.std.proofs.Common.{ap}
use Rattle.std.proofs.lemmas.Result.{on_ok_weaker}
use Rattle.cu_pack.specs.Spelling.{header, long}
use Rattle.cu_pack.proofs.Spelled.Growing.{grows_same}
use Rattle.cu_pack.proofs.sections.put_header.Goals as goal

pub returns : goal.returns
unfolding header
returns g c =
    let more = g.met.T.Target.more in
    on_ok_weaker c.put_long-3.result
    (λ e. more _ _ _ _ _ c.in_ok-put.ensures (more _ _ _ _ _ c.in_ok-put_short.ensures (more _ _ _ _ _ c.in_ok-put_short-2.ensures (more _ _ _ _ _ c.in_ok-put_short-3.ensures (more _ _ _ _ _ c.in_ok-put_short-4.ensures (more _ _ _ _ _ c.in_ok-put_short-5.ensures (more _ _ _ _ _ c.in_ok-put_long.ensures (more _ _ _ _ _ c.in_ok-put_long-2.ensures (grows_same g.T.Target.grows _ _ _ _ (ap long c.requires) e)))))))))
    c.put_long-3.ensures
