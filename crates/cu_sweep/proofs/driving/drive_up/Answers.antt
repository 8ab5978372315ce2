use Rattle.std.proofs.Common.{◌≡◌, ◌<◌, ◌∙◌, ap, subst, sym, arith, refl, length}
use Rattle.cu_chordal.specs.Graphs.{ChordalValue}
use Rattle.cu_interval.specs.declared.ways.Dir.TheVariants.{Up}
use Rattle.cu_interval.specs.Hierarchies.{HierarchyValue, graph_of}
use Rattle.cu_sweep.specs.LedCalls.{arc_by}
use Rattle.cu_sweep.proofs.Ancestry.{own_ancestor}
use Rattle.cu_sweep.proofs.Driven.{leg_above, leg_edge, no_legs, one_leg, tried_leg, up_leg, up_range}
use Rattle.cu_sweep.proofs.driving.drive_up.Goals as goal

pub steps-init : goal.steps-init
steps-init g c =
    let h = g.R.Relaxer.hierarchy c.args.relaxer.now in
    let from = c.args.start.rank in
    let within = subst (λ (v : ChordalValue). from < v.ranks) c.requires.graph.0 c.requires.rank in
    record {
      rank = c.requires.rank;
      above = own_ancestor (graph_of h) from within;
      legs = no_legs h from Up from (g.R.Relaxer.calls c.args.relaxer.now);
      stays = refl;
    }

pub drive_edge-requires : goal.drive_edge-requires
drive_edge-requires g c =
    let h = g.R.Relaxer.hierarchy c.args.relaxer.now in
    let i = c.steps.invariant in
    let from = c.args.start.rank in
    let edge = c.in-Some.edge in
    let other = c.in_ok-other.other in
    let leg = up_leg h c.requires.graph.1 c.args.graph.now c.requires.graph.0 from c.steps.rank other edge i.above c.in_ok-other.ensures in
    record {
      edge = subst (λ (v : HierarchyValue). edge < length v.edges) (sym i.stays) (leg_edge h from Up (arc_by Up edge) c.steps.rank other leg);
    }

pub returns-in_err-at-clause-told : goal.returns-in_err-at-clause-told
returns-in_err-at-clause-told g c =
    let h = g.R.Relaxer.hierarchy c.args.relaxer.now in
    let i = c.steps.invariant in
    let from = c.args.start.rank in
    let edge = c.in-Some.edge in
    let other = c.in_ok-other.other in
    let leg = up_leg h c.requires.graph.1 c.args.graph.now c.requires.graph.0 from c.steps.rank other edge i.above c.in_ok-other.ensures in
    tried_leg h from Up from c.steps.rank other (g.R.Relaxer.calls c.args.relaxer.now) (g.R.Relaxer.calls c.steps.relaxer) (g.R.Relaxer.calls c.drive_edge.new.relaxer)
    edge c.steps.at i.legs leg c.in_err-at.ensures.tried

pub steps-smaller : goal.steps-smaller
steps-smaller g c =
    let h = g.R.Relaxer.hierarchy c.args.relaxer.now in
    let i = c.steps.invariant in
    let from = c.args.start.rank in
    let edge = c.in-Some.edge in
    let other = c.in_ok-other.other in
    let leg = up_leg h c.requires.graph.1 c.args.graph.now c.requires.graph.0 from c.steps.rank other edge i.above c.in_ok-other.ensures in
    let range = up_range h c.requires.graph.1 from c.steps.rank other (arc_by Up edge) leg in
    let ranks : c.args.graph.now.ranks ≡ h.network.nodes = ap (λ (v : ChordalValue). v.ranks) c.requires.graph.0 in
    omega (arith, range.0, range.1, ranks)

pub steps-preserved : goal.steps-preserved
steps-preserved g c =
    let h = g.R.Relaxer.hierarchy c.args.relaxer.now in
    let i = c.steps.invariant in
    let from = c.args.start.rank in
    let edge = c.in-Some.edge in
    let other = c.in_ok-other.other in
    let leg = up_leg h c.requires.graph.1 c.args.graph.now c.requires.graph.0 from c.steps.rank other edge i.above c.in_ok-other.ensures in
    let range = up_range h c.requires.graph.1 from c.steps.rank other (arc_by Up edge) leg in
    let ranks : c.args.graph.now.ranks ≡ h.network.nodes = ap (λ (v : ChordalValue). v.ranks) c.requires.graph.0 in
    record {
      rank = omega (arith, range.1, ranks);
      above = leg_above h c.requires.graph.1 from c.steps.rank other edge leg;
      legs = one_leg h from Up from c.steps.rank other (g.R.Relaxer.calls c.args.relaxer.now) (g.R.Relaxer.calls c.steps.relaxer)
          (g.R.Relaxer.calls c.drive_edge.new.relaxer) edge c.steps.at i.legs leg c.in_ok-at.ensures.made;
      stays = c.drive_edge.ensures.stays ∙ i.stays;
    }
