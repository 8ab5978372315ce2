use Rattle.std.proofs.Common.{◌<◌, arith, slice_index_or}
use Rattle.std.proofs.lemmas.Option.{slice_get-get_or}
use Rattle.cu_unpack.proofs.Places.{more_have, more_placed, over_placed_at}
use Rattle.cu_unpack.proofs.packed_table.put_at.Goals as goal

pub returns-then-place-gt0-clause-put : goal.returns-then-place-gt0-clause-put
returns-then-place-gt0-clause-put c =
    let places = c.args.places.now in
    let number = c.args.number in
    let place = slice_index_or places number 0 in
    let some : 0 < place = omega (arith, c.if-place-gt0.true) in
    over_placed_at places c.args.kept.now.items c.requires.places number c.args.function c.requires.number place some (slice_get-get_or places number 0 c.requires.number)

pub returns-clause-places : goal.returns-clause-places
returns-clause-places c =
    let have = more_have c.args.places.now c.args.kept.now.items c.requires.places c.args.number c.args.function c.requires.number in
    rw c.in_ok-last.ensures.put (rw c.in_ok-last.ensures.last have)

pub returns-clause-put : goal.returns-clause-put
returns-clause-put c =
    let is_put = more_placed c.args.places.now c.args.kept.now.items c.requires.places c.args.number c.args.function c.requires.number in
    rw c.in_ok-last.ensures.put (rw c.in_ok-last.ensures.last is_put)
