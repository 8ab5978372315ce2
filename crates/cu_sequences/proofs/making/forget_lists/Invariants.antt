-- The lists of the first edges are forgotten.
use Rattle.std.proofs.Common.{map, take}
use Rattle.cu_interval.specs.declared.ways.TouchedEdge.{TouchedEdge}
use Rattle.cu_sequences.specs.Steps.Putting.{Forgets}
use Rattle.cu_sequences.proofs.making.forget_lists.Given as goal

abbrev pub invariant-lists : goal.invariant-lists
invariant-lists l = Forgets l.fn.starts l.starts (take l.touched-index (map (λ (touched : TouchedEdge). touched.edge) l.lists))
