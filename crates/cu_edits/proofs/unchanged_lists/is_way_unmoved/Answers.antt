use Rattle.std.proofs.Common.{sym, subst}
use Rattle.cu_interval.specs.declared.ways.Way.{Way}
use Rattle.cu_edits.specs.Steps.Moving.{IsUnmovedWay}
use Rattle.cu_edits.proofs.unchanged_lists.is_way_unmoved.Goals as goal

pub returns-in-Via : goal.returns-in-Via
returns-in-Via g c is =
    subst (λ (way : Way). IsUnmovedWay c.args.parts.now.before.network c.args.parts.now.edit c.args.parts.now.graph.edges c.args.moved.now c.args.ends c.args.dir way)
    (sym c.in-Via.is) (c.is_middle_unmoved.ensures is)
