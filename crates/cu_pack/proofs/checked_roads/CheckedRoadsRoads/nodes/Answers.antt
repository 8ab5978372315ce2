use Rattle.std.proofs.Common.{◌∙◌, ap, subst}
use Rattle.cu_model.specs.Networks.{IsNetwork}
use Rattle.cu_pack.specs.declared.layout.Counts.{Counts}
use Rattle.cu_pack.specs.Reading.{network_in}
use Rattle.cu_pack.proofs.Spelled.Passed.{network_valid}
use Rattle.cu_pack.proofs.Viewed.ViewedRoads.{nodes_seen}
use Rattle.cu_pack.proofs.checked_roads.CheckedRoadsRoads.nodes.Goals as goal

pub returns-clause-count : goal.returns-clause-count
returns-clause-count c =
    ap (λ (counts : Counts). counts.nodes) c.counts.ensures.counts ∙ nodes_seen c.self.inside.sections.now (network_in c.args.self.now) (ap network_in c.self.view_is)

pub returns-clause-sound : goal.returns-clause-sound
returns-clause-sound c = subst (λ bytes. IsNetwork (network_in bytes)) c.self.view_is (network_valid c.self.inside.sections.now c.self.invariant)
