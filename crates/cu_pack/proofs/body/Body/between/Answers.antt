use Rattle.std.proofs.Common.{arith}
use Rattle.cu_pack.proofs.Read.Bodies.{range_kept, sealed_long}
use Rattle.cu_pack.proofs.body.Body.between.Goals as goal

pub slice_bounds-result-end : goal.slice_bounds-result-end
slice_bounds-result-end c =
    let whole = sealed_long c.self.inside.bytes.now c.args.self.now c.self.invariant c.self.view_is in
    omega (arith, whole, c.requires.room)

pub returns : goal.returns
returns c = record { part = range_kept c.self.inside.bytes.now c.args.self.now c.self.invariant c.self.view_is c.args.start c.args.end c.requires.order c.requires.room }
