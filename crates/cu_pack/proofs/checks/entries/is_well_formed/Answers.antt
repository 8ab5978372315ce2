use Rattle.std.proofs.Common.{subst, sym, IsTrue}
use Rattle.std.specs.Prelude.{◌↔◌}
use Rattle.cu_interval.specs.declared.ways.Way.{Way}
use Rattle.cu_interval.specs.Hierarchies.{IsWellFormed}
use Rattle.cu_pack.specs.Reading.{decoded}
use Rattle.cu_pack.proofs.Read.WayEntries.{road_formed}
use Rattle.cu_pack.proofs.checks.entries.is_well_formed.Goals as goal

pub returns-in-Road-clause-formed : goal.returns-in-Road-clause-formed
returns-in-Road-clause-formed c =
    let bytes = c.args.sections.now in
    let formed = road_formed bytes c.in-Road.arc c.args.from c.args.to in
    subst (λ (way : Way). IsTrue c.leads.result ↔ IsWellFormed (decoded bytes) c.args.from c.args.to way) (sym c.in-Road.is)
    (λ h. formed.0 (c.leads.ensures.0 h), λ w. c.leads.ensures.1 (formed.1 w))
