use Rattle.std.proofs.Common.{ℕ, List, arith, ap, length}
use Rattle.cu_router.proofs.held_file.with_digest.Goals as goal

pub seal-requires : goal.seal-requires
seal-requires c =
    let same = ap (λ (bytes : List ℕ). length bytes) c.as_mut_slice.ensures.value in
    record { long = omega (arith, c.requires.long, same) }
