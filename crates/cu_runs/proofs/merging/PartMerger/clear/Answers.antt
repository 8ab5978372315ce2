use Rattle.std.proofs.Common.{refl}
use Rattle.std.specs.Vec.{with_item}
use Rattle.cu_runs.specs.declared.merging.TheConstants.{NOBODY}
use Rattle.cu_runs.proofs.AddLaws.{cut}
use Rattle.cu_runs.proofs.merging.PartMerger.clear.Goals as goal

pub invariant_of-self : goal.invariant_of-self
invariant_of-self c =
    (cut c.self.inside.least record { packed = with_item (with_item c.truncate.new.self 0 c.of.result) 1 c.end.result; ways = with_item (with_item c.truncate-2.new.self 0 NOBODY) 1 NOBODY }
    c.truncate.new.self.items c.truncate-2.new.self.items c.of.result c.end.result c.self.invariant c.truncate.ensures.items c.truncate-2.ensures.items
    c.of.ensures.from c.of.ensures.rule c.end.ensures refl refl).0

pub returns-clause-arrival : goal.returns-clause-arrival
returns-clause-arrival c t h =
    ((cut c.self.inside.least record { packed = with_item (with_item c.truncate.new.self 0 c.of.result) 1 c.end.result; ways = with_item (with_item c.truncate-2.new.self 0 NOBODY) 1 NOBODY }
    c.truncate.new.self.items c.truncate-2.new.self.items c.of.result c.end.result c.self.invariant c.truncate.ensures.items c.truncate-2.ensures.items
    c.of.ensures.from c.of.ensures.rule c.end.ensures refl refl).1 t h).0

pub returns-clause-way : goal.returns-clause-way
returns-clause-way c t h =
    ((cut c.self.inside.least record { packed = with_item (with_item c.truncate.new.self 0 c.of.result) 1 c.end.result; ways = with_item (with_item c.truncate-2.new.self 0 NOBODY) 1 NOBODY }
    c.truncate.new.self.items c.truncate-2.new.self.items c.of.result c.end.result c.self.invariant c.truncate.ensures.items c.truncate-2.ensures.items
    c.of.ensures.from c.of.ensures.rule c.end.ensures refl refl).1 t h).1
