-- Parts of a line, whose fields are nodes.
use Rattle.std.specs.Prelude.{ℕ, List}
use Rattle.cu_reach.specs.declared.tables.Part.{Part}
use Rattle.cu_reach.specs.NodeFields.{AreNodes, nodes_in}

abbrev pub nodes_of : Part → List ℕ
nodes_of part = nodes_in part.line part.count

abbrev pub HasNodes : Part → Type 0
HasNodes part = AreNodes part.line part.count
