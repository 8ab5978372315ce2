-- The ways so far are as they were.
use Rattle.std.proofs.Common.{take}
use Rattle.std.specs.Prelude.{All}
use Rattle.cu_interval.specs.declared.ways.Entry.{Entry}
use Rattle.cu_interval.specs.Hierarchies.{list_of}
use Rattle.cu_edits.specs.Steps.Moving.{IsUnmovedWay}
use Rattle.cu_edits.proofs.unchanged_lists.are_ways_unmoved.Given as goal

abbrev pub invariant-loop-index : goal.invariant-loop-index
invariant-loop-index g l =
    All (λ (entry : Entry). IsUnmovedWay l.parts.before.network l.parts.edit l.parts.graph.edges l.moved l.ends l.dir entry.way)
    (take l.index (list_of l.parts.before l.edge l.dir))
