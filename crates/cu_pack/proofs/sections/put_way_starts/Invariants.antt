-- What is put and the starts from the next edge's lists on are all that is to be put.
use Rattle.std.proofs.Common.{◌≡◌, ◌++◌, ◌*◌, take, drop, flat_map}
use Rattle.cu_pack.specs.Spelling.{long, starts_from, total}
use Rattle.cu_pack.proofs.sections.put_way_starts.Given as goal

abbrev pub invariant-loop-edge : goal.invariant-loop-edge
invariant-loop-edge l = record {
  start : l.start ≡ total (take (2 * l.edge) l.hierarchy.lists);
  put : l.bytes.items ++ flat_map long (starts_from l.start (drop (2 * l.edge) l.hierarchy.lists)) ≡ l.fn.bytes.items ++ flat_map long (starts_from 0 l.hierarchy.lists);
}
