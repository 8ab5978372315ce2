use Rattle.std.proofs.Common.{◌≡◌, ◌∙◌, ℕ, List, rules, subst, sym, false, true}
use Rattle.cu_chordal.specs.declared.graph.Ends.{Ends}
use Rattle.cu_interval.specs.Hierarchies.{end_of, start_of}
use Rattle.cu_customize.specs.declared.triangles.Triangle.{Triangle}
use Rattle.cu_customize.specs.Functions.{kept_state}
use Rattle.cu_customize.specs.Settling.{HasFarWay, IsDayValueOf, IsSettledList}
use Rattle.cu_customize.specs.Triangles.{AreTriangles}
use Rattle.cu_customize.proofs.Gathers.{gathered_within}
use Rattle.cu_customize.proofs.PackedSettles.{edge_settled, edge_task, edge_triangles, far_between}
use Rattle.cu_customize.proofs.packed_settling.PackedSettling.settle.Goals as goal

pub are_near-requires : goal.are_near-requires
are_near-requires g c =
    let found = subst (λ (ts : List Triangle). AreTriangles c.args.graph.now.edges c.ends-ends.result.low c.ends-ends.result.high ts) (sym c.self.view_is ∙ sym c.deref.ensures.value)
    (c.requires.triangles c.ends-ends.result c.ends-ends.ensures.there) in (
      g.R.Roads.network c.args.roads.now,
      edge_triangles (g.R.Roads.network c.args.roads.now) _ c.args.shortcut.edge c.args.shortcut.dir c.ends-ends.result c.ends-ends.ensures.sound c.ends-ends.ensures.there found
          c.leg_of.ensures.from c.leg_of.ensures.to c.requires.functions,
    )

pub gather-requires : goal.gather-requires
gather-requires g c =
    let found = subst (λ (ts : List Triangle). AreTriangles c.args.graph.now.edges c.ends-ends.result.low c.ends-ends.result.high ts) (sym c.self.view_is ∙ sym c.deref.ensures.value)
    (c.requires.triangles c.ends-ends.result c.ends-ends.ensures.there) in
    let near : c.are_near.result ≡ true = search rules in
    let triangles = edge_triangles (g.R.Roads.network c.args.roads.now) _ c.args.shortcut.edge c.args.shortcut.dir c.ends-ends.result c.ends-ends.ensures.sound c.ends-ends.ensures.there found
    c.leg_of.ensures.from c.leg_of.ensures.to c.requires.functions in
    edge_task (g.R.Roads.network c.args.roads.now) _ c.args.shortcut.edge c.args.shortcut.dir c.ends-ends.result c.ends-ends.ensures.sound c.ends-ends.ensures.there found c.leg_of.ensures.from
    c.leg_of.ensures.to c.requires.functions c.arcs.ensures.rising c.arcs.ensures.few (c.requires.arcs c.arcs.result.now c.arcs.ensures.there).1 c.staying-stay.ensures.function
    c.staying-stay.ensures.value (c.are_near.ensures.near (g.R.Roads.network c.args.roads.now) triangles near)

pub pull-requires-clause-task : goal.pull-requires-clause-task
pull-requires-clause-task g c =
    let found = subst (λ (ts : List Triangle). AreTriangles c.args.graph.now.edges c.ends-ends.result.low c.ends-ends.result.high ts) (sym c.self.view_is ∙ sym c.deref.ensures.value)
    (c.requires.triangles c.ends-ends.result c.ends-ends.ensures.there) in
    let near : c.are_near.result ≡ true = search rules in
    let triangles = edge_triangles (g.R.Roads.network c.args.roads.now) _ c.args.shortcut.edge c.args.shortcut.dir c.ends-ends.result c.ends-ends.ensures.sound c.ends-ends.ensures.there found
    c.leg_of.ensures.from c.leg_of.ensures.to c.requires.functions in (
      g.R.Roads.network c.args.roads.now,
      edge_task (g.R.Roads.network c.args.roads.now) _ c.args.shortcut.edge c.args.shortcut.dir c.ends-ends.result c.ends-ends.ensures.sound c.ends-ends.ensures.there found c.leg_of.ensures.from
          c.leg_of.ensures.to c.requires.functions c.arcs.ensures.rising c.arcs.ensures.few (c.requires.arcs c.arcs.result.now c.arcs.ensures.there).1 c.staying-stay.ensures.function
          c.staying-stay.ensures.value (c.are_near.ensures.near (g.R.Roads.network c.args.roads.now) triangles near),
    )

pub pull-requires-clause-held : goal.pull-requires-clause-held
pull-requires-clause-held g c = λ some. gathered_within _ _ _ _ c.in_ok-gather.ensures.gathered some

pub returns-clause-ways : goal.returns-clause-ways
returns-clause-ways g c ends list at listed =
    let found = subst (λ (ts : List Triangle). AreTriangles c.args.graph.now.edges c.ends-ends.result.low c.ends-ends.result.high ts) (sym c.self.view_is ∙ sym c.deref.ensures.value)
    (c.requires.triangles c.ends-ends.result c.ends-ends.ensures.there) in
    let near : c.are_near.result ≡ true = search rules in
    let triangles = edge_triangles (g.R.Roads.network c.args.roads.now) _ c.args.shortcut.edge c.args.shortcut.dir c.ends-ends.result c.ends-ends.ensures.sound c.ends-ends.ensures.there found
    c.leg_of.ensures.from c.leg_of.ensures.to c.requires.functions in
    let task = edge_task (g.R.Roads.network c.args.roads.now) _ c.args.shortcut.edge c.args.shortcut.dir c.ends-ends.result c.ends-ends.ensures.sound c.ends-ends.ensures.there found
    c.leg_of.ensures.from c.leg_of.ensures.to c.requires.functions c.arcs.ensures.rising c.arcs.ensures.few (c.requires.arcs c.arcs.result.now c.arcs.ensures.there).1 c.staying-stay.ensures.function
    c.staying-stay.ensures.value (c.are_near.ensures.near (g.R.Roads.network c.args.roads.now) triangles near) in
    let (settled, value) = edge_settled (g.R.Roads.network c.args.roads.now) _ c.args.shortcut.edge c.args.shortcut.dir c.ends-ends.result c.ends-ends.ensures.sound c.ends-ends.ensures.there found
    c.leg_of.ensures.from c.leg_of.ensures.to c.requires.functions c.gather.new.self.merger c.in_ok-settled.settled.ways c.in_ok-settled.settled.function task c.in_ok-gather.ensures.gathered
    c.in_ok-settled.ensures in
    let same : c.ends-ends.result ≡ ends = cc (c.ends-ends.ensures.there, at) in
    let same_list : c.arcs.result.now ≡ list = cc (c.arcs.ensures.there, listed) in
    let state = kept_state (g.R.Roads.network c.args.roads.now) c.args.functions in
    let List' : List ℕ → Ends → Type 0 = λ xs e. IsSettledList c.args.graph.now.edges xs state (start_of e c.args.shortcut.dir) (end_of e c.args.shortcut.dir) c.in_ok-settled.settled.ways in
    subst (λ (e : Ends). List' list e) same (subst (λ (xs : List ℕ). List' xs c.ends-ends.result) same_list settled)

pub returns-clause-function : goal.returns-clause-function
returns-clause-function g c ends at =
    let found = subst (λ (ts : List Triangle). AreTriangles c.args.graph.now.edges c.ends-ends.result.low c.ends-ends.result.high ts) (sym c.self.view_is ∙ sym c.deref.ensures.value)
    (c.requires.triangles c.ends-ends.result c.ends-ends.ensures.there) in
    let near : c.are_near.result ≡ true = search rules in
    let triangles = edge_triangles (g.R.Roads.network c.args.roads.now) _ c.args.shortcut.edge c.args.shortcut.dir c.ends-ends.result c.ends-ends.ensures.sound c.ends-ends.ensures.there found
    c.leg_of.ensures.from c.leg_of.ensures.to c.requires.functions in
    let task = edge_task (g.R.Roads.network c.args.roads.now) _ c.args.shortcut.edge c.args.shortcut.dir c.ends-ends.result c.ends-ends.ensures.sound c.ends-ends.ensures.there found
    c.leg_of.ensures.from c.leg_of.ensures.to c.requires.functions c.arcs.ensures.rising c.arcs.ensures.few (c.requires.arcs c.arcs.result.now c.arcs.ensures.there).1 c.staying-stay.ensures.function
    c.staying-stay.ensures.value (c.are_near.ensures.near (g.R.Roads.network c.args.roads.now) triangles near) in
    let (settled, value) = edge_settled (g.R.Roads.network c.args.roads.now) _ c.args.shortcut.edge c.args.shortcut.dir c.ends-ends.result c.ends-ends.ensures.sound c.ends-ends.ensures.there found
    c.leg_of.ensures.from c.leg_of.ensures.to c.requires.functions c.gather.new.self.merger c.in_ok-settled.settled.ways c.in_ok-settled.settled.function task c.in_ok-gather.ensures.gathered
    c.in_ok-settled.ensures in
    let same : c.ends-ends.result ≡ ends = cc (c.ends-ends.ensures.there, at) in
    let state = kept_state (g.R.Roads.network c.args.roads.now) c.args.functions in
    subst (λ (e : Ends). IsDayValueOf c.args.graph.now.edges state (start_of e c.args.shortcut.dir) (end_of e c.args.shortcut.dir) c.in_ok-settled.settled.ways c.in_ok-settled.settled.function)
    same value

pub returns-then-not-are_near-clause-far : goal.returns-then-not-are_near-clause-far
returns-then-not-are_near-clause-far g c ends at none =
    let found = subst (λ (ts : List Triangle). AreTriangles c.args.graph.now.edges c.ends-ends.result.low c.ends-ends.result.high ts) (sym c.self.view_is ∙ sym c.deref.ensures.value)
    (c.requires.triangles c.ends-ends.result c.ends-ends.ensures.there) in
    let far : c.are_near.result ≡ false = search rules in
    let task_far = c.are_near.ensures.far (g.R.Roads.network c.args.roads.now)
    (edge_triangles (g.R.Roads.network c.args.roads.now) _ c.args.shortcut.edge c.args.shortcut.dir c.ends-ends.result c.ends-ends.ensures.sound c.ends-ends.ensures.there found c.leg_of.ensures.from
    c.leg_of.ensures.to c.requires.functions) far in
    let state = kept_state (g.R.Roads.network c.args.roads.now) c.args.functions in
    let is_far = far_between c.args.graph.now.edges state _ _ (start_of c.ends-ends.result c.args.shortcut.dir) (end_of c.ends-ends.result c.args.shortcut.dir) c.leg_of.ensures.from
    c.leg_of.ensures.to task_far in
    let same : c.ends-ends.result ≡ ends = cc (c.ends-ends.ensures.there, at) in
    subst (λ (e : Ends). HasFarWay c.args.graph.now.edges state (start_of e c.args.shortcut.dir) (end_of e c.args.shortcut.dir)) same is_far

pub pull-requires-clause-order : goal.pull-requires-clause-order
pull-requires-clause-order g c = c.in_ok-gather.ensures.order
