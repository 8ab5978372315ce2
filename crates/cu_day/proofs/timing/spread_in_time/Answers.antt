use Rattle.std.proofs.Common.{◌≡◌, ◌<◌, ◌∙◌, ℕ, List, Some, sym, subst, arith, take, get_or, length}
use Rattle.std.specs.Prelude.{slice_get}
use Rattle.std.proofs.lemmas.List.{take_more}
use Rattle.std.proofs.lemmas.Option.{slice_get-get_or}
use Rattle.cu_interval.specs.Hierarchies.{HierarchyValue}
use Rattle.cu_chordal.specs.Graphs.{first_edge_of, up_of}
use Rattle.cu_interval.specs.declared.ways.Dir.TheVariants.{Up}
use Rattle.cu_day.specs.Steps.InTime.{InTime}
use Rattle.cu_day.specs.Steps.Ranks.{SpreadsTo}
use Rattle.cu_day.specs.Steps.Sweeping.{TakesList}
use Rattle.cu_sweep.proofs.Rows.{row_edge}
use Rattle.cu_day.proofs.LedArcs.{edge_more}
use Rattle.cu_day.proofs.Spreading.{spreads_more}
use Rattle.cu_day.proofs.timing.spread_in_time.Goals as goal

pub edges-preserved : goal.edges-preserved
edges-preserved g c =
    let h = g.F.DayFunctions.hierarchy c.args.functions.now in
    let counts = InTime c.args.limits.now.by.now c.args.limits.now.outlook.now.up in
    let i = c.edges.invariant in
    let k = c.edges.higher-index in
    let x = c.args.rank in
    let highers = c.up-highers.result.now in
    let first = c.args.reached.now.labels.items in
    let before = c.edges.reached.labels.items in
    let after = c.take_in_time.new.reached.labels.items in
    let lt : k < length highers = omega arith in
    let y = get_or highers k 0 in
    let at : slice_get (up_of h.edges x) k ≡ Some y = subst (λ (xs : List ℕ). slice_get xs k ≡ Some y) i.highers (slice_get-get_or highers k 0 lt) in
    let range = row_edge h c.requires.graph.1 x k y at in
    let takes = subst (λ (v : HierarchyValue). TakesList counts v x y before after) i.stays c.in_ok-take_in_time.ensures.takes in
    let more = spreads_more counts h x y (take k highers) first before after range.2 i.spreads takes in
    record {
      stays = c.take_in_time.ensures.stays ∙ i.stays;
      highers = i.highers;
      edge = let edge = i.edge in omega (arith, edge);
      spreads = subst (λ (part : List ℕ). SpreadsTo counts h x part first after) (sym (take_more highers k 0 lt)) more;
      places = c.in_ok-take_in_time.ensures.places ∙ i.places;
      slacks = c.in_ok-take_in_time.ensures.slacks;
      told = edge_more Up (first_edge_of h.edges x) k c.edges.edge (g.F.DayFunctions.calls c.args.functions.now) (g.F.DayFunctions.calls c.edges.functions)
          (g.F.DayFunctions.calls c.take_in_time.new.functions) i.told c.in_ok-take_in_time.ensures.told i.edge;
    }
