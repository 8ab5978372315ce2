-- What was there stays, and so many bytes are behind it.
use Rattle.std.proofs.Common.{◌≡◌, ◌+◌, ◌*◌, length, take}
use Rattle.cu_pack.proofs.bounding.put_room.Given as goal

abbrev pub invariant-loop : goal.invariant-loop
invariant-loop l = record {
  before : take (length l.fn.bytes.items) l.bytes.items ≡ l.fn.bytes.items;
  room : length l.bytes.items ≡ length l.fn.bytes.items + 16 * l.counter;
}
