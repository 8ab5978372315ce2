-- The higher ranks of the first edges are put.
use Rattle.std.proofs.Common.{◌≡◌, ◌++◌, map, take, flat_map}
use Rattle.cu_chordal.specs.declared.graph.Ends.{Ends}
use Rattle.cu_pack.specs.Spelling.{short}
use Rattle.cu_pack.proofs.sections.put_uppers.Given as goal

abbrev pub invariant-loop-edge : goal.invariant-loop-edge
invariant-loop-edge l = l.bytes.items ≡ l.fn.bytes.items ++ flat_map short (map (λ (ends : Ends). ends.high) (take l.edge l.graph.edges))
