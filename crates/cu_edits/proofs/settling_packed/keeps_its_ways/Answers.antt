use Rattle.cu_edits.proofs.settling_packed.keeps_its_ways.Goals as goal

pub returns-clause-keeps : goal.returns-clause-keeps
returns-clause-keeps g c unmoved = record {
  marked = c.is_marked.ensures.marked c.if-not-is_marked.false;
  ways = c.are_ways_unmoved.ensures unmoved;
}
