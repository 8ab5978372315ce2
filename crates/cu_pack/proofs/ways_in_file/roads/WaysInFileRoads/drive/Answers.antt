use Rattle.std.proofs.Common.{◌≡◌, ◌≤◌, ◌∙◌, ℕ, ap, sym, subst, arith}
use Rattle.cu_model.specs.Networks.{NetworkValue}
use Rattle.cu_model.specs.Roads.{arc_value}
use Rattle.cu_model.proofs.RoadLaws.{arc_value-fifo, arc_value-onward}
use Rattle.cu_pack.specs.Steps.Fronts.{SpellsSections}
use Rattle.cu_pack.proofs.Viewed.Views.{arcs_known, graph_known, network_known}
use Rattle.cu_pack.proofs.ways_in_file.roads.WaysInFileRoads.drive.Goals as goal

arrives : (c : goal.After-arrive) → c.arrive.result ≡ arc_value c.args.self.now.network c.args.arc c.args.second
arrives c =
    let same = network_known c.self.inside.sections.now c.args.self.now (subst (SpellsSections c.self.inside.sections.now) c.self.view_is c.self.invariant) in
    c.arrive.ensures.value ∙ ap (λ (g : NetworkValue). arc_value g c.args.arc c.args.second) same

pub arrive-requires-clause-roads : goal.arrive-requires-clause-roads
arrive-requires-clause-roads c = (graph_known c.self.inside.sections.now c.args.self.now (subst (SpellsSections c.self.inside.sections.now) c.self.view_is c.self.invariant)).roads

pub arrive-requires-clause-arc : goal.arrive-requires-clause-arc
arrive-requires-clause-arc c =
    let many = arcs_known c.self.inside.sections.now c.args.self.now (subst (SpellsSections c.self.inside.sections.now) c.self.view_is c.self.invariant) in
    omega (arith, many, c.requires.road)

pub returns-clause-value : goal.returns-clause-value
returns-clause-value c = arrives c

pub returns-clause-onward : goal.returns-clause-onward
returns-clause-onward c =
    let sound = (subst (SpellsSections c.self.inside.sections.now) c.self.view_is c.self.invariant).sound in
    subst (λ (n : ℕ). c.args.second ≤ n) (sym (arrives c)) (arc_value-onward c.args.self.now.network sound.network c.args.arc c.requires.road c.args.second)

pub returns-clause-fifo : goal.returns-clause-fifo
returns-clause-fifo c later after =
    let sound = (subst (SpellsSections c.self.inside.sections.now) c.self.view_is c.self.invariant).sound in
    subst (λ (n : ℕ). n ≤ arc_value c.args.self.now.network c.args.arc later) (sym (arrives c))
    (arc_value-fifo c.args.self.now.network sound.network c.args.arc c.requires.road c.args.second later after)
