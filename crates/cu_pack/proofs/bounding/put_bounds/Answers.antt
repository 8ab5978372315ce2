use Rattle.std.proofs.Common.{arith}
use Rattle.std.proofs.lemmas.Option.{slice_get-get_or}
use Rattle.cu_pack.specs.Spelling.{long}
use Rattle.cu_pack.proofs.Spelled.Growing.{grows_all, grows_more}
use Rattle.cu_pack.proofs.bounding.put_bounds.Goals as goal

pub loop-bound-init : goal.loop-bound-init
loop-bound-init g c = g.met.T.Target.stays c.args.bytes.now

pub loop-bound-preserved : goal.loop-bound-preserved
loop-bound-preserved g c =
    let bounds = c.args.bounds.now in
    let i = c.loop-bound.bound-index in
    grows_more g.T.Target.grows g.met.T.Target.more long bounds i _ c.args.bytes.now c.loop-bound.bytes c.put_long.new.bytes
    (slice_get-get_or bounds i 0 (omega arith)) c.loop-bound.invariant c.in_ok-put_long.ensures

pub returns : goal.returns
returns g c = grows_all g.T.Target.grows long c.args.bounds.now c.loop-bound.bound-index c.args.bytes.now c.loop-bound.bytes (omega arith) c.loop-bound.invariant
