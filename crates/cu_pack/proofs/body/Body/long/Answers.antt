use Rattle.std.proofs.Common.{◌∙◌, arith}
use Rattle.cu_pack.proofs.Read.Bodies.{sealed_long, long_kept}
use Rattle.cu_pack.proofs.body.Body.long.Goals as goal

pub long-requires : goal.long-requires
long-requires c =
    let whole = sealed_long c.self.inside.bytes.now c.args.self.now c.self.invariant c.self.view_is in
    record { room = omega (arith, whole, c.requires.room) }

pub returns : goal.returns
returns c = record { number = c.long.ensures.number ∙ long_kept c.self.inside.bytes.now c.args.self.now c.self.invariant c.self.view_is c.args.at c.requires.room }
