use Rattle.std.proofs.Common.{◌≡◌, ◌≤◌, ◌∙◌, ℕ, List, ap, subst, sym, arith}
use Rattle.cu_model.specs.Networks.{IsNetwork}
use Rattle.cu_model.specs.Roads.{arc_value}
use Rattle.cu_model.proofs.RoadLaws.{arc_value-fifo, arc_value-onward}
use Rattle.cu_pack.specs.Reading.{network_in}
use Rattle.cu_pack.proofs.Viewed.ViewedRoads.{arcs_seen}
use Rattle.cu_pack.proofs.checked_roads.CheckedRoadsRoads.drive.Goals as goal

pub arrive-requires-clause-arc : goal.arrive-requires-clause-arc
arrive-requires-clause-arc c =
    let many = arcs_seen c.self.inside.sections.now (network_in c.args.self.now) (ap network_in c.self.view_is) in
    omega (arith, many, c.requires.road)

same : (c : goal.After-arrive) → c.arrive.result ≡ arc_value (network_in c.args.self.now) c.args.arc c.args.second
same c = c.arrive.ensures.value ∙ ap (λ (bs : List ℕ). arc_value (network_in bs) c.args.arc c.args.second) c.self.view_is

sound : (c : goal.After-arrive) → IsNetwork (network_in c.args.self.now)
sound c = subst (λ bytes. IsNetwork (network_in bytes)) c.self.view_is c.arrive.ensures.sound

pub returns-clause-onward : goal.returns-clause-onward
returns-clause-onward c =
    subst (λ (x : ℕ). c.args.second ≤ x) (sym (same c)) (arc_value-onward (network_in c.args.self.now) (sound c) c.args.arc c.requires.road c.args.second)

pub returns-clause-fifo : goal.returns-clause-fifo
returns-clause-fifo c later less =
    subst (λ (x : ℕ). x ≤ arc_value (network_in c.args.self.now) c.args.arc later) (sym (same c))
    (arc_value-fifo (network_in c.args.self.now) (sound c) c.args.arc c.requires.road c.args.second later less)
