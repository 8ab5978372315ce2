use Rattle.std.proofs.Common.{◌≡◌, ◌≤◌, ◌<◌, ◌+◌, ◌-◌, ◌∙◌, ℕ, suc, Some, length, length-set, sym, subst, arith, inl, inr, drop, get_or}
use Rattle.std.specs.Prelude.{slice_set}
use Rattle.std.specs.List.{Contains}
use Rattle.cu_interval.specs.declared.ways.Dir.TheVariants.{Up}
use Rattle.cu_interval.specs.Hierarchies.{number_from}
use Rattle.cu_sweep.specs.Outlooks.{ahead_at}
use Rattle.cu_sweep.proofs.Ascending.{behind_cases}
use Rattle.cu_sweep.proofs.Lowering.{lowered_here, lowered_less, lowered_near, lowered_other}
use Rattle.cu_sweep.proofs.Neighbours.{edge_place}
use Rattle.cu_sweep.proofs.looking.look_up.Goals as goal

pub ranks-preserved : goal.ranks-preserved
ranks-preserved g c =
    let graph = c.args.graph.now in
    let bound = g.B.Bounds.bounds c.args.bounds.now in
    let i = c.ranks.invariant in
    let path = c.args.path.now in
    let k = c.ranks.left - 1 in
    let next : c.ranks.left ≡ suc k = omega (arith, c.ranks-test.true) in
    let lt : k < length path = omega (arith, i.within, next) in
    let x = get_or path k 0 in
    let below : x < c.args.graph.now.ranks = c.requires.path k 0 lt in
    let ahead = c.ranks.ahead in
    let places = c.requires.places in
    let long = i.places in
    let inside : x < length ahead = omega (arith, below, places, long) in
    let least = c.least_ahead-least.result.0 in
    let call = c.least_ahead-least.ensures in
    let le : least ≤ ahead_at ahead x = call.less in
    let new = slice_set ahead x least in
    record {
      within = omega (arith, lt);
      places = length-set ahead x least ∙ i.places;
      nexts = length-set c.ranks.next x c.least_ahead-least.result.1 ∙ i.nexts;
      near = lowered_near ahead x least le inside i.near;
      less = λ y. let a = lowered_less ahead x least le inside y in let b = i.less y in omega (arith, a, b);
      climb = λ z y edge m e.
          let (place, _, _, _, up) = edge_place graph c.requires.graph z y edge e in
          elim (behind_cases path k z lt c.requires.rising m) [
            | inl same ↦
                let at : number_from 0 graph.edges x y ≡ Some edge = subst (λ (r : ℕ). number_from 0 graph.edges r y ≡ Some edge) same e in
                let here = lowered_here ahead x least le inside in
                let other = lowered_other ahead x least le inside y (λ is. absurd (omega (arith, is, same, up))) in
                let less = call.each y edge at in
                subst (λ (r : ℕ). ahead_at new r ≤ bound edge Up + ahead_at new y) (sym same) (omega (arith, here, other, less))
            | inr more ↦
                let above = more.1 in
                let here = lowered_other ahead x least le inside z (λ is. absurd (omega (arith, is, above))) in
                let other = lowered_other ahead x least le inside y (λ is. absurd (omega (arith, is, above, up))) in
                let member = subst (λ (n : ℕ). Contains (drop n path) z) (sym next) more.0 in
                let less = i.climb z y edge member e in
                omega (arith, here, other, less)
          ];
    }

pub returns-clause-climb : goal.returns-clause-climb
returns-clause-climb g c =
    let i = c.ranks.invariant in
    let zero : c.ranks.left ≡ 0 = omega (arith, c.ranks-test.false) in
    λ x y edge m e. i.climb x y edge (subst (λ (n : ℕ). Contains (drop n c.args.path.now) x) (sym zero) m) e
