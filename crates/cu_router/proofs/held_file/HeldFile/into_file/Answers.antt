use Rattle.std.proofs.Common.{arith}
use Rattle.cu_pack.proofs.Read.Bodies.{unsealed_long}
use Rattle.cu_router.proofs.held_file.HeldFile.into_file.Goals as goal

pub with_digest-requires-clause-long : goal.with_digest-requires-clause-long
with_digest-requires-clause-long c =
    let long = unsealed_long c.self.inside.bytes.items _ c.self.invariant.0.spelled in
    omega (arith, long)
