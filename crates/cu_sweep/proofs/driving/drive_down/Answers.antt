use Rattle.std.proofs.Common.{◌∙◌, ℕ, List, subst, arith}
use Rattle.std.specs.List.{Contains}
use Rattle.cu_chordal.proofs.Members.{member_at}
use Rattle.cu_interval.specs.declared.ways.Dir.TheVariants.{Down}
use Rattle.cu_sweep.specs.LedCalls.{arc_by}
use Rattle.cu_sweep.proofs.Driven.{down_leg, down_range, one_leg, tried_leg}
use Rattle.cu_sweep.proofs.driving.drive_down.Goals as goal

pub returns-in_err-at-clause-told : goal.returns-in_err-at-clause-told
returns-in_err-at-clause-told g c =
    let h = g.R.Relaxer.hierarchy c.args.relaxer.now in
    let i = c.steps.invariant in
    let to = c.args.to in
    let edge = c.in_ok-edge.edge in
    let other = c.in_ok-other.other in
    let path = c.args.path.now in
    let place = c.in_ok-count.ensures in
    let above = subst (λ (xs : List ℕ). Contains xs other) c.requires.path (member_at path other c.in_ok-count.count place.1) in
    let leg = down_leg h c.args.graph.now c.requires.graph.0 to c.steps.rank other edge above c.in_ok-other.ensures in
    tried_leg h to Down c.args.top.rank c.steps.rank other (g.R.Relaxer.calls c.args.relaxer.now) (g.R.Relaxer.calls c.steps.relaxer)
    (g.R.Relaxer.calls c.drive_edge.new.relaxer) edge c.steps.at i.legs leg c.in_err-at.ensures.tried

pub steps-smaller : goal.steps-smaller
steps-smaller g c =
    let h = g.R.Relaxer.hierarchy c.args.relaxer.now in
    let i = c.steps.invariant in
    let to = c.args.to in
    let edge = c.in_ok-edge.edge in
    let other = c.in_ok-other.other in
    let path = c.args.path.now in
    let place = c.in_ok-count.ensures in
    let above = subst (λ (xs : List ℕ). Contains xs other) c.requires.path (member_at path other c.in_ok-count.count place.1) in
    let leg = down_leg h c.args.graph.now c.requires.graph.0 to c.steps.rank other edge above c.in_ok-other.ensures in
    down_range h c.requires.graph.1 to c.steps.rank other (arc_by Down edge) leg

pub steps-preserved : goal.steps-preserved
steps-preserved g c =
    let h = g.R.Relaxer.hierarchy c.args.relaxer.now in
    let i = c.steps.invariant in
    let to = c.args.to in
    let edge = c.in_ok-edge.edge in
    let other = c.in_ok-other.other in
    let path = c.args.path.now in
    let place = c.in_ok-count.ensures in
    let above = subst (λ (xs : List ℕ). Contains xs other) c.requires.path (member_at path other c.in_ok-count.count place.1) in
    let leg = down_leg h c.args.graph.now c.requires.graph.0 to c.steps.rank other edge above c.in_ok-other.ensures in
    let less = down_range h c.requires.graph.1 to c.steps.rank other (arc_by Down edge) leg in
    let rank = i.rank in
    record {
      rank = omega (arith, less, rank);
      count = let within = i.count in omega (arith, place.0, within);
      legs = one_leg h to Down c.args.top.rank c.steps.rank other (g.R.Relaxer.calls c.args.relaxer.now) (g.R.Relaxer.calls c.steps.relaxer)
          (g.R.Relaxer.calls c.drive_edge.new.relaxer) edge c.steps.at i.legs leg c.in_ok-at.ensures.made;
      stays = c.drive_edge.ensures.stays ∙ i.stays;
    }
