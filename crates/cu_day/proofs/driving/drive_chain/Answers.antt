use Rattle.cu_interval.specs.declared.ways.Dir.TheVariants.{Down}
use Rattle.cu_day.proofs.LedArcs.{no_legs, way_of}
use Rattle.cu_day.proofs.driving.drive_chain.Goals as goal

pub returns-in_default-clause-told : goal.returns-in_default-clause-told
returns-in_default-clause-told g c =
    let h = g.F.DayFunctions.hierarchy c.args.functions.now in
    let now = g.F.DayFunctions.calls c.drive_up.new.functions in
    let to = c.args.leg.to in
    let (top, up) = c.in_ok-top.ensures.told in
    way_of h c.args.leg.from to (g.F.DayFunctions.calls c.args.functions.now) now now top top up (no_legs h to Down top now)
