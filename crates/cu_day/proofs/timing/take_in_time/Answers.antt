use Rattle.std.proofs.Common.{◌∙◌, ℕ, ap, subst, arith}
use Rattle.cu_interval.specs.Hierarchies.{HierarchyValue, end_of}
use Rattle.cu_interval.specs.LeastBounds.{bound_from, least_bound}
use Rattle.cu_day.specs.Steps.InTime.{InTime, LeavesArc, ahead_in}
use Rattle.cu_day.proofs.Bounded.{edge_bound}
use Rattle.cu_day.proofs.Leaving.{counts_less, left_takes, slacks_kept}
use Rattle.cu_day.proofs.timing.take_in_time.Goals as goal

pub returns-then-is_left_out-clause-takes : goal.returns-then-is_left_out-clause-takes
returns-then-is_left_out-clause-takes g c =
    let h = g.F.DayFunctions.hierarchy c.args.functions.now in
    let by = c.args.limits.now.by.now in
    let ahead = ahead_in c.args.limits.now.outlook.now c.args.shortcut.dir in
    let labels = c.args.reached.now.labels.items in
    let from = c.args.leg.from in
    let to = c.args.leg.to in
    let (ends, at, start, end) = c.requires.edge in
    let leaves = subst (λ (v : HierarchyValue). LeavesArc by ahead (least_bound v c.args.shortcut.edge c.args.shortcut.dir) from to labels) c.requires.same
    (c.is_left_out.ensures c.if-is_left_out.true) in
    let bound = edge_bound h c.requires.sound c.args.shortcut.edge c.args.shortcut.dir ends at
    ∙ ap (λ (n : ℕ). bound_from h n (end_of ends c.args.shortcut.dir)) start ∙ ap (bound_from h from) end in
    left_takes h c.requires.sound by c.requires.early ahead from to labels (subst (λ (n : ℕ). LeavesArc by ahead n from to labels) bound leaves)

pub returns-clause-takes : goal.returns-clause-takes
returns-clause-takes g c =
    let h = g.F.DayFunctions.hierarchy c.args.functions.now in
    let ahead = ahead_in c.args.limits.now.outlook.now c.args.shortcut.dir in
    counts_less (InTime c.args.limits.now.by.now ahead) h c.args.leg.from c.args.leg.to c.args.reached.now.labels.items c.take_list.new.labels.items
    c.in_ok-take_list.ensures.takes

pub returns-clause-slacks : goal.returns-clause-slacks
returns-clause-slacks g c =
    let h = g.F.DayFunctions.hierarchy c.args.functions.now in
    let end = c.requires.end in
    let places = c.requires.places in
    slacks_kept h c.args.limits.now.by.now c.requires.early c.args.leg.from c.args.leg.to 18446744073709551615 c.args.reached.now.labels.items
    c.take_list.new.labels.items c.args.reached.now.slacks.items (omega arith) (omega (arith, end, places)) c.in_ok-take_list.ensures.takes c.requires.slacks
