use Rattle.std.proofs.Common.{List, ◌≡◌, ◌≤◌, ◌*◌, ℕ, length, subst, ap, arith}
use Rattle.cu_model.specs.Networks.{NetworkValue}
use Rattle.cu_model.specs.Orders.{OrderValue}
use Rattle.cu_chordal.specs.declared.graph.Ends.{Ends}
use Rattle.cu_interval.specs.EdgeArcs.{AreEdgeArcs}
use Rattle.cu_interval.specs.Steps.ArcLists.{AreListed}
use Rattle.cu_model.specs.declared.limits.TheConstants.{MAX_ARCS}
use Rattle.cu_chordal.specs.Groups.{AreGroups}
use Rattle.cu_interval.proofs.ArcLists.{groups_short, listed_all, lists_rise}
use Rattle.cu_interval.proofs.edge_arcs.EdgeArcs.of.Goals as goal

pub of-requires-clause-few : goal.of-requires-clause-few
of-requires-clause-few g c =
    let few : length c.in_ok-listed.listed.numbers.items ≤ MAX_ARCS = c.in_ok-listed.ensures.few in
    let same = ap length c.deref.ensures.value in
    omega (arith, few, same)

made : (g : NetworkValue) (o : OrderValue) (edges : List Ends) (numbers arcs keys values : List ℕ) (count : ℕ) (lists : List (List ℕ))
    → AreListed g o edges (length g.arcs) numbers arcs → keys ≡ numbers → values ≡ arcs
    → count ≡ length edges → AreGroups keys values (2 * count) lists → AreEdgeArcs g o edges lists
made g o edges numbers arcs keys values count lists listed same_keys same_values same_count groups =
    let by_keys = subst (λ (xs : List ℕ). AreGroups xs values (2 * count) lists) same_keys groups in
    let by_values = subst (λ (xs : List ℕ). AreGroups numbers xs (2 * count) lists) same_values by_keys in
    let by_count = subst (λ (n : ℕ). AreGroups numbers arcs (2 * n) lists) same_count by_values in
    listed_all g o edges numbers arcs lists listed by_count

pub returns : goal.returns
returns g c =
    made (g.N.Roads.network c.args.roads.now) c.args.order.now c.args.graph.now.edges c.in_ok-listed.listed.numbers.items c.in_ok-listed.listed.arcs.items
    c.deref.result.now c.deref-2.result.now c.edges.result
    c.in_ok-lists.lists c.in_ok-listed.ensures.listed c.deref.ensures.value c.deref-2.ensures.value c.edges.ensures.count c.in_ok-lists.ensures

pub invariant_of-result : goal.invariant_of-result
invariant_of-result g c = record {
  few =
      let long = c.in_ok-lists.ensures.long in
      let few = c.ranks.ensures.sound.few_edges in
      let edges = c.edges.ensures.count in
      omega (arith, long, few, edges);
  rising =
      lists_rise (g.N.Roads.network c.args.roads.now) c.args.order.now c.args.graph.now.edges c.in_ok-lists.lists
      (made (g.N.Roads.network c.args.roads.now) c.args.order.now c.args.graph.now.edges c.in_ok-listed.listed.numbers.items c.in_ok-listed.listed.arcs.items
      c.deref.result.now c.deref-2.result.now c.edges.result
      c.in_ok-lists.lists c.in_ok-listed.ensures.listed c.deref.ensures.value c.deref-2.ensures.value c.edges.ensures.count c.in_ok-lists.ensures);
  short =
      let keys = ap length c.deref.ensures.value in
      let values = ap length c.deref-2.ensures.value in
      groups_short c.deref.result.now c.deref-2.result.now _ MAX_ARCS c.in_ok-lists.lists (omega (arith, keys, values, c.in_ok-listed.ensures.listed.pairs))
      (omega (arith, keys, c.in_ok-listed.ensures.few))
      c.in_ok-lists.ensures;
}
