use Rattle.std.proofs.Common.{sym, subst}
use Rattle.cu_interval.specs.Hierarchies.{HierarchyValue}
use Rattle.cu_sweep.specs.Desks.{AreArriving}
use Rattle.tests_sweeps.proofs.sweep.writes.Goals as goal

pub route-requires-clause-arriving : goal.route-requires-clause-arriving
route-requires-clause-arriving c = subst (λ (h : HierarchyValue). AreArriving h c.args.desk.now.calls) (sym c.new-unpacker.ensures) c.requires.arriving
