use Rattle.std.proofs.Common.{arith}
use Rattle.cu_recall.proofs.Parting.{part_room, parted_on, parted_there}
use Rattle.cu_recall.proofs.unpacking.part.Goals as goal

pub offset_bounds-pending-spot : goal.offset_bounds-pending-spot
offset_bounds-pending-spot c = let room = part_room c.args.view.now c.requires.sound c.args.pending.now c.args.spot c.requires.somewhere in omega (arith, room.0, room.1)

pub bounds-pending-spot : goal.bounds-pending-spot
bounds-pending-spot c = let room = part_room c.args.view.now c.requires.sound c.args.pending.now c.args.spot c.requires.somewhere in omega (arith, room.0, c.requires.room)

pub overflow_add-result : goal.overflow_add-result
overflow_add-result c = let room = part_room c.args.view.now c.requires.sound c.args.pending.now c.args.spot c.requires.somewhere in omega (arith, room.0, room.1)

pub returns-clause-somewhere : goal.returns-clause-somewhere
returns-clause-somewhere c = (parted_on c.args.view.now c.requires.sound c.args.pending.now c.args.spot c.args.parted c.see-seen.result c.see-rest.result
    c.requires.room c.requires.somewhere c.requires.parted (c.see-seen.ensures.holds c.args.view.now c.requires.knows) (c.see-rest.ensures.holds c.args.view.now c.requires.knows)).0

pub returns-clause-lower : goal.returns-clause-lower
returns-clause-lower c = (parted_on c.args.view.now c.requires.sound c.args.pending.now c.args.spot c.args.parted c.see-seen.result c.see-rest.result
    c.requires.room c.requires.somewhere c.requires.parted (c.see-seen.ensures.holds c.args.view.now c.requires.knows) (c.see-rest.ensures.holds c.args.view.now c.requires.knows)).1

pub see-seen-requires : goal.see-seen-requires
see-seen-requires c =
    let there = parted_there c.args.view.now c.args.pending.now c.args.spot c.args.parted c.requires.somewhere c.requires.parted in
    record { list = omega (arith, there.0, c.requires.size) }

pub see-rest-requires : goal.see-rest-requires
see-rest-requires c =
    let there = parted_there c.args.view.now c.args.pending.now c.args.spot c.args.parted c.requires.somewhere c.requires.parted in
    record { list = omega (arith, there.1, c.requires.size) }
