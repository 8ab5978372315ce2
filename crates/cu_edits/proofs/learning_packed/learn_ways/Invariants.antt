-- The halves of the ways so far are at hand.
use Rattle.std.proofs.Common.{take}
use Rattle.std.specs.Prelude.{All}
use Rattle.cu_interval.specs.declared.ways.Entry.{Entry}
use Rattle.cu_interval.specs.Hierarchies.{list_of}
use Rattle.cu_edits.specs.Steps.Packed.{IsWayAtHand, LearnsPacked}
use Rattle.cu_edits.proofs.learning_packed.learn_ways.Given as goal

abbrev pub invariant-loop-index : goal.invariant-loop-index
invariant-loop-index g l = record {
  learns : LearnsPacked l.parts.before l.fn.packed l.packed;
  known : All (λ (entry : Entry). IsWayAtHand l.asked.moved.now l.packed l.parts.graph.edges l.ends l.asked.dir entry.way)
      (take l.index (list_of l.parts.before l.asked.edge l.asked.dir));
}
