use Rattle.std.proofs.Common.{◌≡◌, ap, sym, subst, arith}
use Rattle.cu_model.specs.Networks.{NetworkValue}
use Rattle.cu_model.specs.declared.roads.RoadArc.{RoadArc}
use Rattle.cu_pack.specs.Checks.{Spells}
use Rattle.cu_pack.specs.InForce.{IsPieceInForce, IsRuleInForce}
use Rattle.cu_pack.specs.Reading.{arc_in, profile_in}
use Rattle.cu_pack.specs.Steps.Parts.{HasProfile}
use Rattle.cu_pack.proofs.Spelled.Again.{spelled_sections}
use Rattle.cu_pack.proofs.Read.Driven.{arc_profile, has_profile}
use Rattle.cu_pack.proofs.Read.InForce.{road_in_force}
use Rattle.cu_pack.proofs.Viewed.Views.{arcs_known, graph_known, network_known}
use Rattle.cu_pack.proofs.view.PackedView.rule_in_force.Goals as goal

pub arc-requires : goal.arc-requires
arc-requires c =
    let many = arcs_known c.self.inside.sections c.args.self.now (spelled_sections c.self.inside.sections c.args.self.now (subst (Spells c.self.inside.sections) c.self.view_is c.self.invariant)) in
    record { arc = omega (arith, many, c.requires.road) }

pub rule_begun-requires-clause-profile : goal.rule_begun-requires-clause-profile
rule_begun-requires-clause-profile c =
    let bytes = c.self.inside.sections in
    let spells = spelled_sections bytes c.args.self.now (subst (Spells bytes) c.self.view_is c.self.invariant) in
    let many = arcs_known bytes c.args.self.now spells in
    let roads = (graph_known bytes c.args.self.now spells).roads in
    let same : c.arc.result.profile ≡ (arc_in bytes c.args.arc).profile = ap (λ (road : RoadArc). road.profile) c.arc.ensures.road in
    subst (HasProfile bytes) (sym same) (has_profile bytes roads (arc_in bytes c.args.arc).profile (arc_profile bytes roads c.args.arc (omega (arith, many, c.requires.road))))

pub returns : goal.returns
returns c =
    let bytes = c.self.inside.sections in
    let spells = spelled_sections bytes c.args.self.now (subst (Spells bytes) c.self.view_is c.self.invariant) in
    let many = arcs_known bytes c.args.self.now spells in
    let roads = (graph_known bytes c.args.self.now spells).roads in
    let same = ap (λ (road : RoadArc). road.profile) c.arc.ensures.road in
    let found = subst (λ p. IsPieceInForce (profile_in bytes p) c.args.second c.rule_begun.result) same c.rule_begun.ensures.found in
    record {
      found = subst (λ (g : NetworkValue). IsRuleInForce g c.args.arc c.args.second c.rule_begun.result) (network_known bytes c.args.self.now spells)
          (road_in_force bytes c.args.arc c.args.second c.rule_begun.result (omega (arith, many, c.requires.road)) (arc_profile bytes roads c.args.arc (omega (arith, many, c.requires.road))) found);
    }
