use Rattle.std.proofs.Common.{◌≡◌}
use Rattle.std.specs.Prelude.{drop}
use Rattle.cu_reach.specs.NodeFields.{fields_in}
use Rattle.cu_reach.proofs.tables.behind.Given as goal

abbrev pub invariant-fields : goal.invariant-fields
invariant-fields l = drop l.left (fields_in l.rest) ≡ drop l.fn.count (fields_in l.fn.line)

abbrev pub decreases-fields : goal.decreases-fields
decreases-fields l = l.left
