use Rattle.std.proofs.Common.{◌<◌, ◌∙◌, ℕ, List, subst, sym, arith, length}
use Rattle.std.specs.List.{Contains}
use Rattle.cu_chordal.proofs.Members.{member_at}
use Rattle.cu_interval.specs.declared.ways.Dir.TheVariants.{Down}
use Rattle.cu_interval.specs.Hierarchies.{HierarchyValue}
use Rattle.cu_sweep.specs.LedCalls.{arc_by}
use Rattle.cu_sweep.proofs.Driven.{down_leg, down_range, leg_edge}
use Rattle.cu_day.proofs.LedArcs.{one_leg}
use Rattle.cu_day.proofs.driving.drive_down.Goals as goal

pub drive_edge-requires : goal.drive_edge-requires
drive_edge-requires g c =
    let h = g.F.DayFunctions.hierarchy c.args.functions.now in
    let i = c.steps.invariant in
    let to = c.args.downs.to in
    let rank = c.steps.spot.rank in
    let edge = c.in-Some.edge in
    let other = c.in-Some-led_to.rank in
    let place = c.in-Some-place_on.ensures in
    let path = c.args.downs.path.now in
    let above = subst (λ (xs : List ℕ). Contains xs other) c.requires.path (member_at path other c.in-Some-place_on.place place.1) in
    let leg = down_leg h c.args.graph.now c.requires.graph.0 to rank other edge above c.in-Some-led_to.ensures in
    record {
      edge = subst (λ (v : HierarchyValue). edge < length v.edges) (sym i.stays) (leg_edge h to Down (arc_by Down edge) rank other leg);
    }

pub returns-in_default-2-clause-told : goal.returns-in_default-2-clause-told
returns-in_default-2-clause-told g c =
    let h = g.F.DayFunctions.hierarchy c.args.functions.now in
    let i = c.steps.invariant in
    let to = c.args.downs.to in
    let rank = c.steps.spot.rank in
    let edge = c.in-Some.edge in
    let other = c.in-Some-led_to.rank in
    let place = c.in-Some-place_on.ensures in
    let path = c.args.downs.path.now in
    let above = subst (λ (xs : List ℕ). Contains xs other) c.requires.path (member_at path other c.in-Some-place_on.place place.1) in
    let leg = down_leg h c.args.graph.now c.requires.graph.0 to rank other edge above c.in-Some-led_to.ensures in (
      other,
      one_leg h to Down c.args.top.rank rank other (g.F.DayFunctions.calls c.args.functions.now) (g.F.DayFunctions.calls c.steps.functions)
          (g.F.DayFunctions.calls c.drive_edge.new.functions) edge i.legs leg c.in_ok-by.ensures.told,
    )

pub steps-smaller : goal.steps-smaller
steps-smaller g c =
    let h = g.F.DayFunctions.hierarchy c.args.functions.now in
    let i = c.steps.invariant in
    let to = c.args.downs.to in
    let rank = c.steps.spot.rank in
    let edge = c.in-Some.edge in
    let other = c.in-Some-led_to.rank in
    let place = c.in-Some-place_on.ensures in
    let path = c.args.downs.path.now in
    let above = subst (λ (xs : List ℕ). Contains xs other) c.requires.path (member_at path other c.in-Some-place_on.place place.1) in
    let leg = down_leg h c.args.graph.now c.requires.graph.0 to rank other edge above c.in-Some-led_to.ensures in
    down_range h c.requires.graph.1 to rank other (arc_by Down edge) leg

pub steps-preserved : goal.steps-preserved
steps-preserved g c =
    let h = g.F.DayFunctions.hierarchy c.args.functions.now in
    let i = c.steps.invariant in
    let to = c.args.downs.to in
    let rank = c.steps.spot.rank in
    let edge = c.in-Some.edge in
    let other = c.in-Some-led_to.rank in
    let place = c.in-Some-place_on.ensures in
    let path = c.args.downs.path.now in
    let above = subst (λ (xs : List ℕ). Contains xs other) c.requires.path (member_at path other c.in-Some-place_on.place place.1) in
    let leg = down_leg h c.args.graph.now c.requires.graph.0 to rank other edge above c.in-Some-led_to.ensures in
    let less = down_range h c.requires.graph.1 to rank other (arc_by Down edge) leg in
    let within = i.rank in
    record {
      rank = omega (arith, less, within);
      count = let few = i.count in omega (arith, place.0, few);
      legs = one_leg h to Down c.args.top.rank rank other (g.F.DayFunctions.calls c.args.functions.now) (g.F.DayFunctions.calls c.steps.functions)
          (g.F.DayFunctions.calls c.drive_edge.new.functions) edge i.legs leg c.in_ok-by.ensures.told;
      stays = c.drive_edge.ensures.stays ∙ i.stays;
    }
