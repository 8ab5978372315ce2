use Rattle.std.proofs.Common.{◌≡◌, ◌+◌, ◌*◌, arith, length, subst}
use Rattle.cu_interval.specs.declared.shortcuts.Shortcut.{Shortcut}
use Rattle.cu_interval.specs.declared.ways.Dir.TheVariants.{Up, Down}
use Rattle.cu_interval.specs.Hierarchies.{HierarchyValue}
use Rattle.cu_bounds.specs.Steps.InTurn.{AreFirstBounds}
use Rattle.cu_bounds.proofs.Turns.{first_all, first_more}
use Rattle.cu_bounds.proofs.renewing.copy_bounds.Goals as goal

pub loop-edge-preserved : goal.loop-edge-preserved
loop-edge-preserved g c =
    let h : HierarchyValue = g.W.Ways.hierarchy c.args.ways.now in
    let edge = c.loop-edge.edge in
    let up : Shortcut = record { edge = edge; dir = Up } in
    let down : Shortcut = record { edge = edge; dir = Down } in
    let one = first_more h c.loop-edge.bounds.items c.push.new.self.items up c.least.result c.loop-edge.invariant c.least.ensures.bound
    c.in_ok-push.ensures.items in
    let two = first_more h c.push.new.self.items c.push-in-loop-edge.new.self.items down c.least-in-loop-edge.result one
    c.least-in-loop-edge.ensures.bound c.in_ok-push-2.ensures.items in
    let count : 2 * edge + 1 + 1 ≡ 2 * (edge + 1) = omega arith in
    subst (AreFirstBounds h c.push-in-loop-edge.new.self.items) count two

pub returns : goal.returns
returns g c =
    let h : HierarchyValue = g.W.Ways.hierarchy c.args.ways.now in
    let all : 2 * c.loop-edge.edge ≡ 2 * length h.edges =
    omega (arith, c.loop-edge-test.false, c.loop-edge.auto.edge-end, c.edges-edge-end.ensures.count) in
    record { bounds = first_all h c.loop-edge.bounds.items (2 * c.loop-edge.edge) all c.loop-edge.invariant }
