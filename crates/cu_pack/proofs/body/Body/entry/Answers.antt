use Rattle.std.proofs.Common.{◌∙◌, arith}
use Rattle.cu_pack.proofs.Read.Bodies.{entry_kept, sealed_long}
use Rattle.cu_pack.proofs.body.Body.entry.Goals as goal

pub entry-requires : goal.entry-requires
entry-requires c =
    let whole = sealed_long c.self.inside.bytes.now c.args.self.now c.self.invariant c.self.view_is in
    record { room = omega (arith, whole, c.requires.room) }

pub returns : goal.returns
returns c = record { entry = c.entry.ensures.entry ∙ entry_kept c.self.inside.bytes.now c.args.self.now c.self.invariant c.self.view_is c.args.at c.requires.room }
