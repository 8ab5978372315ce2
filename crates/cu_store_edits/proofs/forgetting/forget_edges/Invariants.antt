use Rattle.std.proofs.Common.{map, take}
use Rattle.cu_interval.specs.declared.ways.TouchedEdge.{TouchedEdge}
use Rattle.cu_store_edits.specs.Forgetting.{Forgets}
use Rattle.cu_store_edits.proofs.forgetting.forget_edges.Given as goal

abbrev pub invariant-lists : goal.invariant-lists
invariant-lists l = Forgets l.initial.store.known l.store.known (take l.touched-index (map (λ (touched : TouchedEdge). touched.edge) l.lists))
