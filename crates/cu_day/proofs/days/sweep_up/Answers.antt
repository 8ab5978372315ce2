use Rattle.std.proofs.Common.{◌≡◌, ◌<◌, ◌∙◌, ◌++◌, ℕ, List, sym, subst, arith, take, get_or, length}
use Rattle.std.proofs.lemmas.List.{take_more}
use Rattle.cu_chordal.specs.Graphs.{up_of}
use Rattle.cu_interval.specs.Hierarchies.{HierarchyValue}
use Rattle.cu_day.specs.Steps.Ranks.{HasSweptUp, SpreadsTo}
use Rattle.cu_interval.specs.declared.ways.Dir.TheVariants.{Up}
use Rattle.cu_sweep.specs.LedCalls.{arcs_of_rank, arcs_of_ranks}
use Rattle.cu_day.proofs.Calls.{one_rank}
use Rattle.cu_day.proofs.Places.{before_place}
use Rattle.cu_day.proofs.Ranked.{swept_up_more}
use Rattle.cu_day.specs.Steps.Sweeping.{Always}
use Rattle.cu_day.proofs.days.sweep_up.Goals as goal

pub ranks-preserved : goal.ranks-preserved
ranks-preserved g c =
    let h = g.F.DayFunctions.hierarchy c.args.functions.now in
    let i = c.ranks.invariant in
    let path = c.args.path.now in
    let k = c.ranks.done in
    let lt : k < length path = c.ranks-test.true in
    let x = get_or path k 0 in
    let before = c.ranks.labels.items in
    let after = c.spread.new.labels.items in
    let spreads = subst (λ (v : HierarchyValue). SpreadsTo Always v x (up_of v.edges x) before after) i.0 c.in_ok-spread.ensures.spreads in
    let first = g.F.DayFunctions.calls c.args.functions.now in
    let told =
    subst (λ (v : HierarchyValue). g.F.DayFunctions.calls c.spread.new.functions ≡ g.F.DayFunctions.calls c.ranks.functions ++ arcs_of_rank v Up x)
    i.0 c.in_ok-spread.ensures.told in
    let more = swept_up_more Always h (take k path) x c.args.labels.now.items before after
    (λ y m. before_place path k y c.requires.rising lt m) i.2 spreads in (
      c.spread.ensures.stays ∙ i.0,
      omega (arith, lt),
      subst (λ (done : List ℕ). HasSweptUp Always h done c.args.labels.now.items after) (sym (take_more path k 0 lt)) more,
      subst (λ (done : List ℕ). g.F.DayFunctions.calls c.spread.new.functions ≡ first ++ arcs_of_ranks h Up done) (sym (take_more path k 0 lt))
          (one_rank h first (g.F.DayFunctions.calls c.ranks.functions) (g.F.DayFunctions.calls c.spread.new.functions) Up (take k path) x i.3 told),
    )
