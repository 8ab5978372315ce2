use Rattle.std.proofs.Common.{subst}
use Rattle.cu_interval.specs.declared.ways.Dir.TheVariants.{Down}
use Rattle.cu_interval.specs.Hierarchies.{HierarchyValue}
use Rattle.cu_sweep.specs.Steps.Driving.{AddsLegsOn}
use Rattle.cu_sweep.proofs.Driven.{no_legs, way_of}
use Rattle.cu_sweep.proofs.driving.drive_way.Goals as goal

pub returns-in_err-top-clause-told : goal.returns-in_err-top-clause-told
returns-in_err-top-clause-told g c =
    let h = g.R.Relaxer.hierarchy c.args.relaxer.now in
    let now = g.R.Relaxer.calls c.drive_up.new.relaxer in
    let to = c.args.question.to in
    let (top, up) = c.in_err-top.ensures.told in
    way_of h c.args.question.from to (g.R.Relaxer.calls c.args.relaxer.now) now now top top up (no_legs h to Down top now)

pub returns-clause-told : goal.returns-clause-told
returns-clause-told g c =
    let h = g.R.Relaxer.hierarchy c.args.relaxer.now in
    let mid = g.R.Relaxer.calls c.drive_up.new.relaxer in
    let now = g.R.Relaxer.calls c.drive_down.new.relaxer in
    let to = c.args.question.to in
    let top = c.in_ok-top.top.rank in
    let (last, down) = subst (λ (v : HierarchyValue). AddsLegsOn v to Down top mid now) c.in_ok-top.ensures.stays c.drive_down.ensures.told in
    way_of h c.args.question.from to (g.R.Relaxer.calls c.args.relaxer.now) mid now top last c.in_ok-top.ensures.reached down
