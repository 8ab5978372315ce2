use Rattle.cu_model.proofs.FaultLaws.{piece_fault_none_from}
use Rattle.cu_model.proofs.copying.copy_profile.Goals as goal

pub unreachable-requires : goal.unreachable-requires
unreachable-requires g c =
    let fault = rw c.in_default.is at c.of.ensures.variant in
    let none = piece_fault_none_from c.in_ok-pieces.pieces.items c.in_ok-pieces.ensures.valid in
    absurd (cc (none, fault))
