use Rattle.std.proofs.Common.{subst}
use Rattle.cu_interval.specs.Hierarchies.{IsBuilt}
use Rattle.cu_pack.proofs.Spelled.Again.{same_hierarchy}
use Rattle.cu_samples.proofs.building.packed.Goals as goal

pub returns-clause-built : goal.returns-clause-built
returns-clause-built c h spells =
    let built = c.in_ok-hierarchy.ensures in
    subst IsBuilt (same_hierarchy c.in_ok-pack.field-0.items c.in_ok-hierarchy.hierarchy h (record { sound = built.sound; spelled = c.in_ok-pack.ensures.spelled }) spells) built
