use Rattle.std.proofs.Common.{length, subst, sym}
use Rattle.cu_links.specs.Buckets.{BucketsValue}
use Rattle.cu_edits.specs.Steps.Spreading.{Adds, IsOfChanged}
use Rattle.cu_edits.proofs.TakingOut.{AreTaken, taken_all, taken_next, taken_none}
use Rattle.cu_edits.proofs.touching.plan.Goals as goal

pub edges-init : goal.edges-init
edges-init g c =
    let h = g.W.Ways.hierarchy c.args.ways.now in
    let edit = c.args.edit.now in
    let old = c.args.buckets.now in
    let new = c.add_changed.new.buckets in
    let adds = subst (λ (b : BucketsValue). Adds c.args.graph.now.edges (IsOfChanged h edit) b new) c.clear.ensures c.add_changed.ensures in
    subst (AreTaken h edit new) (sym c.new-touched.ensures.items) (taken_none h c.args.graph.now c.requires.graph edit old.ranks (length old.states) new c.requires.ranks c.requires.edges adds)

pub edges-preserved : goal.edges-preserved
edges-preserved g c =
    let h = g.W.Ways.hierarchy c.args.ways.now in
    let taken = c.edges.touched.items in
    (taken_next h c.args.graph.now c.requires.graph c.args.edit.now c.edges.buckets c.next_touched.new.buckets taken c.push.new.self.items c.in-Some.edge
    c.edges.invariant c.in-Some.ensures.takes c.in_ok-push.ensures.items).0

pub edges-smaller : goal.edges-smaller
edges-smaller g c =
    let h = g.W.Ways.hierarchy c.args.ways.now in
    let taken = c.edges.touched.items in
    (taken_next h c.args.graph.now c.requires.graph c.args.edit.now c.edges.buckets c.next_touched.new.buckets taken c.push.new.self.items c.in-Some.edge
    c.edges.invariant c.in-Some.ensures.takes c.in_ok-push.ensures.items).1

pub returns-clause-touched : goal.returns-clause-touched
returns-clause-touched g c =
    taken_all (g.W.Ways.hierarchy c.args.ways.now) c.requires.graph.1 c.args.edit.now c.edges.buckets c.edges.touched.items c.sort_unstable.new.self.items
    c.edges.invariant c.in_default.ensures.takes.1
    c.sort_unstable.ensures.permutation c.sort_unstable.ensures.sorted
