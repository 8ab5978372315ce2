-- The starts of the first ranks are put.
use Rattle.std.proofs.Common.{◌≡◌, ◌++◌, map, flat_map}
use Rattle.std.specs.List.{range_with_len}
use Rattle.cu_chordal.specs.Graphs.{first_edge_of}
use Rattle.cu_pack.specs.Spelling.{short}
use Rattle.cu_pack.proofs.sections.put_edge_starts.Given as goal

abbrev pub invariant-loop-rank : goal.invariant-loop-rank
invariant-loop-rank l = l.bytes.items ≡ l.fn.bytes.items ++ flat_map short (map (first_edge_of l.graph.edges) (range_with_len 0 l.rank))
