use Rattle.std.proofs.Common.{◌<◌, ◌∙◌, ℕ, List, sym, subst, arith, take, get_or, length}
use Rattle.std.proofs.lemmas.List.{take_more}
use Rattle.cu_chordal.specs.Graphs.{up_of}
use Rattle.cu_interval.specs.Hierarchies.{HierarchyValue}
use Rattle.cu_interval.specs.declared.ways.Dir.TheVariants.{Up}
use Rattle.cu_sweep.specs.LedCalls.{arcs_of_rank, arcs_of_ranks}
use Rattle.cu_day.specs.Steps.InTime.{InTime}
use Rattle.cu_day.specs.Steps.LedSteps.{AddsSomeOf}
use Rattle.cu_day.specs.Steps.Ranks.{HasSweptUp, SpreadsTo}
use Rattle.cu_day.proofs.LedArcs.{rank_more}
use Rattle.cu_day.proofs.Places.{before_place}
use Rattle.cu_day.proofs.Ranked.{swept_up_more}
use Rattle.cu_day.proofs.timing.rise.Goals as goal

pub ranks-preserved : goal.ranks-preserved
ranks-preserved g c =
    let h = g.F.DayFunctions.hierarchy c.args.functions.now in
    let counts = InTime c.args.limits.now.by.now c.args.limits.now.outlook.now.up in
    let i = c.ranks.invariant in
    let path = c.args.path.now in
    let k = c.ranks.done in
    let lt : k < length path = c.ranks-test.true in
    let x = get_or path k 0 in
    let first = c.args.reached.now.labels.items in
    let before = c.ranks.reached.labels.items in
    let after = c.spread_in_time.new.reached.labels.items in
    let spreads = subst (λ (v : HierarchyValue). SpreadsTo counts v x (up_of v.edges x) before after) i.stays c.in_ok-spread_in_time.ensures.spreads in
    let calls = g.F.DayFunctions.calls c.args.functions.now in
    let mid = g.F.DayFunctions.calls c.ranks.functions in
    let now = g.F.DayFunctions.calls c.spread_in_time.new.functions in
    let told = subst (λ (v : HierarchyValue). AddsSomeOf (arcs_of_rank v Up x) mid now) i.stays c.in_ok-spread_in_time.ensures.told in
    let more = swept_up_more counts h (take k path) x first before after
    (λ y m. before_place path k y c.requires.rising lt m) i.swept spreads in
    record {
      stays = c.spread_in_time.ensures.stays ∙ i.stays;
      within = omega (arith, lt);
      swept = subst (λ (done : List ℕ). HasSweptUp counts h done first after) (sym (take_more path k 0 lt)) more;
      places = c.in_ok-spread_in_time.ensures.places;
      slacks = c.in_ok-spread_in_time.ensures.slacks;
      told = subst (λ (done : List ℕ). AddsSomeOf (arcs_of_ranks h Up done) calls now) (sym (take_more path k 0 lt))
          (rank_more h Up (take k path) x calls mid now i.told told);
    }
