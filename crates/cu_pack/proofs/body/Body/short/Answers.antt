use Rattle.std.proofs.Common.{◌∙◌, arith}
use Rattle.cu_pack.proofs.Read.Bodies.{sealed_long, short_kept}
use Rattle.cu_pack.proofs.body.Body.short.Goals as goal

pub short-requires : goal.short-requires
short-requires c =
    let whole = sealed_long c.self.inside.bytes.now c.args.self.now c.self.invariant c.self.view_is in
    record { room = omega (arith, whole, c.requires.room) }

pub returns : goal.returns
returns c = record { number = c.short.ensures.number ∙ short_kept c.self.inside.bytes.now c.args.self.now c.self.invariant c.self.view_is c.args.at c.requires.room }
