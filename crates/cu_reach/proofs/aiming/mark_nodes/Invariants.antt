use Rattle.std.proofs.Common.{◌≡◌, ◌++◌, length}
use Rattle.cu_reach.specs.Steps.Aiming.{AreMarked}
use Rattle.cu_reach.proofs.aiming.mark_nodes.Given as goal

abbrev pub invariant-nodes : goal.invariant-nodes
invariant-nodes g l = record {
  whole : l.fn.nodes ≡ l.yielded ++ l.node-iterator;
  long : length l.marks ≡ length l.fn.marks;
  marked : AreMarked (g.W.Ways.hierarchy l.ways) l.yielded l.marks;
}
