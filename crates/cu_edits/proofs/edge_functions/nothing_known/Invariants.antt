-- Nothing is known so far.
use Rattle.std.proofs.Common.{◌≡◌, None, Option, length}
use Rattle.std.specs.Prelude.{All}
use Rattle.cu_edits.specs.declared.edge_functions.EdgeFunctions.{EdgeFunctions}
use Rattle.cu_edits.proofs.edge_functions.nothing_known.Given as goal

abbrev pub invariant-edges : goal.invariant-edges
invariant-edges l = record {
  count : length l.known.items ≡ l._edge;
  none : All (λ (one : Option EdgeFunctions). one ≡ None) l.known.items;
}
