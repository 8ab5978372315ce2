use Rattle.std.proofs.Common.{arith}
use Rattle.std.proofs.lemmas.Bool.{leb-false, leb-true}
use Rattle.cu_runs.proofs.TravelLaws.{take_longer}
use Rattle.cu_unpack.proofs.PackedWays.{both_in_time}
use Rattle.cu_unpack.proofs.room.is_near.Goals as goal

pub returns-clause-near : goal.returns-clause-near
returns-clause-near c said =
    let few = leb-true _ _ said in
    both_in_time c.args.first.now c.args.second.now c.most.result c.most-2.result c.most.ensures.function c.most-2.ensures.function c.most.ensures.onward c.most-2.ensures.onward
    c.most.ensures.most c.most-2.ensures.most (omega (arith, few, c.saturating_add.ensures))

pub returns-clause-far : goal.returns-clause-far
returns-clause-far c said =
    take_longer c.args.first.now c.args.second.now c.most.result c.most-2.result c.saturating_add.result _ c.most.ensures.taken c.most-2.ensures.taken c.saturating_add.ensures (leb-false _ _ said)
