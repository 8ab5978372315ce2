use Rattle.std.proofs.Common.{arith}
use Rattle.cu_profile.proofs.FaultRows.{fault_within}
use Rattle.cu_profile.proofs.reader.profile_of.Goals as goal

pub fault_row-requires : goal.fault_row-requires
fault_row-requires c = let k = fault_within c.args.first c.args.pieces.items c.in-Err.fault c.in-Err.ensures.variant in omega (arith, k)
