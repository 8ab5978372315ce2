use Rattle.std.proofs.Common.{◌≡◌, ◌<◌, ◌∙◌, ℕ, List, Some, sym, subst, arith, take, get_or, length}
use Rattle.std.specs.Prelude.{slice_get}
use Rattle.std.proofs.lemmas.List.{take_more}
use Rattle.std.proofs.lemmas.Option.{slice_get-get_or}
use Rattle.cu_interval.specs.Hierarchies.{HierarchyValue}
use Rattle.cu_chordal.specs.Graphs.{first_edge_of, up_of}
use Rattle.cu_interval.specs.declared.ways.Dir.TheVariants.{Up}
use Rattle.cu_day.proofs.Calls.{one_call}
use Rattle.cu_day.specs.Steps.Ranks.{SpreadsTo}
use Rattle.cu_day.specs.Steps.Sweeping.{Always, TakesList}
use Rattle.cu_sweep.proofs.Rows.{row_edge}
use Rattle.cu_day.proofs.Spreading.{spreads_more}
use Rattle.cu_day.proofs.days.spread.Goals as goal

pub edges-preserved : goal.edges-preserved
edges-preserved g c =
    let h = g.F.DayFunctions.hierarchy c.args.functions.now in
    let i = c.edges.invariant in
    let k = c.edges.higher-index in
    let x = c.args.rank in
    let highers = c.up-highers.result.now in
    let before = c.edges.labels.items in
    let after = c.take_list.new.labels.items in
    let lt : k < length highers = omega arith in
    let y = get_or highers k 0 in
    let at : slice_get (up_of h.edges x) k ≡ Some y = subst (λ (xs : List ℕ). slice_get xs k ≡ Some y) i.1 (slice_get-get_or highers k 0 lt) in
    let range = row_edge h c.requires.graph.1 x k y at in
    let takes = subst (λ (v : HierarchyValue). TakesList Always v x y before after) i.0 c.in_ok-take_list.ensures.takes in
    let more = spreads_more Always h x y (take k highers) c.args.labels.now.items before after range.2 i.3 takes in (
      c.take_list.ensures.stays ∙ i.0,
      i.1,
      omega (arith, i.2),
      subst (λ (part : List ℕ). SpreadsTo Always h x part c.args.labels.now.items after) (sym (take_more highers k 0 lt)) more,
      one_call (g.F.DayFunctions.calls c.args.functions.now) (g.F.DayFunctions.calls c.edges.functions)
          (g.F.DayFunctions.calls c.take_list.new.functions) Up (first_edge_of h.edges x) k c.edges.edge i.4 i.2 c.in_ok-take_list.ensures.told,
    )
