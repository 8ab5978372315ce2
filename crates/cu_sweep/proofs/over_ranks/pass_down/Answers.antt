use Rattle.std.proofs.Common.{◌≡◌, ◌≤◌, ◌<◌, ◌+◌, ◌-◌, ◌∙◌, ◌++◌, ◌∷◌, [], ℕ, suc, List, None, refl, sym, ap, subst, arith, rules, inr, length, get_or, drop, reverse}
use Rattle.std.specs.List.{Contains}
use Rattle.cu_chordal.specs.declared.graph.Ends.{Ends}
use Rattle.cu_chordal.specs.Graphs.{ChordalValue, HasEdge}
use Rattle.cu_interval.specs.Hierarchies.{HierarchyValue}
use Rattle.cu_unpack.proofs.Edges.{edge_range}
use Rattle.cu_sweep.specs.Sweeps.{AddsAll, first_long}
use Rattle.cu_sweep.specs.Swept.{IsPassed}
use Rattle.cu_sweep.specs.Steps.Made.{Led, down_calls_of, down_made_to, sweep_of}
use Rattle.cu_sweep.specs.Steps.Sweeping.{IfSecond, IsDownOver, IsDownSwept, IsRankDown}
use Rattle.cu_chordal.proofs.Members.{none_in_nil}
use Rattle.cu_sweep.specs.Places.{second_at}
use Rattle.cu_sweep.proofs.Behind.{drop_all, drop_at, member_behind, member_here, turned_at, turned_cut, turned_member}
use Rattle.cu_sweep.proofs.Passes.{sweep_ends, sweep_more}
use Rattle.cu_sweep.proofs.PassedOver.{NoneSooner, none_sooner_more}
use Rattle.cu_sweep.proofs.Rows.{no_call, some_call}
use Rattle.cu_sweep.proofs.Telling.{adds_none, until_none}
use Rattle.cu_sweep.proofs.over_ranks.pass_down.Goals as goal

pub ranks-init : goal.ranks-init
ranks-init g c =
    let h = g.R.Relaxer.hierarchy c.args.relaxer.now in
    let path = c.args.path.now in
    let a = g.R.Relaxer.calls c.args.relaxer.now in
    let none : [] ≡ reverse (drop (length path) path) = sym (ap reverse (drop_all path)) in
    record {
      within = omega arith;
      ready = c.requires.ready;
      unturned = c.requires.unturned;
      stays = refl;
      soonest = λ y member. absurd (none_in_nil y (subst (λ (xs : List ℕ). Contains xs y) (drop_all path) member));
      swept = λ q same al sw.
          subst (λ (xs : List ℕ). IsDownSwept h q xs c.args.labels.now (g.K.Linking.links c.args.chain.now) × (first_long h (down_calls_of h q xs) ≡ None) × AddsAll a a (down_calls_of h q xs)) none
          (sw, refl, adds_none a);
    }

pub lead_to-long-requires-clause-soonest : goal.lead_to-long-requires-clause-soonest
lead_to-long-requires-clause-soonest g c =
    let h = g.R.Relaxer.hierarchy c.args.relaxer.now in
    let i = c.ranks.invariant in
    let path = c.args.path.now in
    let k = c.ranks.left - 1 in
    let next : c.ranks.left ≡ suc k = omega (arith, c.ranks-test.true) in
    let lt : k < length path = omega (arith, i.within, next) in
    let x = get_or path k 0 in
    let n = c.args.graph.now.ranks in
    let edges : c.args.graph.now.edges ≡ h.edges = ap (λ (v : ChordalValue). v.edges) c.requires.graph.0 in
    λ y e.
    let less = (edge_range h c.requires.graph.1 x y (subst (λ (es : List Ends). HasEdge es x y) edges e)).0 in
    let behind : Contains (drop (suc k) path) y = member_behind path k y c.requires.rising lt (c.requires.upwards x y (member_here path k lt) e) less in
    i.soonest y (subst (λ (left : ℕ). Contains (drop left path) y) (sym next) behind)

pub ranks-preserved : goal.ranks-preserved
ranks-preserved g c =
    let h = g.R.Relaxer.hierarchy c.args.relaxer.now in
    let allows = g.L.Limits.allows c.args.limits.now in
    let m = h.network.nodes in
    let i = c.ranks.invariant in
    let path = c.args.path.now in
    let k = c.ranks.left - 1 in
    let next : c.ranks.left ≡ suc k = omega (arith, c.ranks-test.true) in
    let lt : k < length path = omega (arith, i.within, next) in
    let x = get_or path k 0 in
    let ranks : c.args.graph.now.ranks ≡ m = ap (λ (v : ChordalValue). v.ranks) c.requires.graph.0 in
    let edges : c.args.graph.now.edges ≡ h.edges = ap (λ (v : ChordalValue). v.edges) c.requires.graph.0 in
    let within : x < m = subst (λ (n : ℕ). x < n) ranks (c.requires.path k 0 lt) in
    let done = reverse (drop (suc k) path) in
    let row = c.lead_to-long in
    let a = g.R.Relaxer.calls c.args.relaxer.now in
    let b = g.R.Relaxer.calls c.ranks.relaxer in
    let d = g.R.Relaxer.calls row.new.relaxer in
    let labels = c.ranks.labels in
    let higher : (y : ℕ) → HasEdge c.args.graph.now.edges x y → Contains done y = λ y e.
    let less = (edge_range h c.requires.graph.1 x y (subst (λ (es : List Ends). HasEdge es x y) edges e)).0 in
    turned_member (drop (suc k) path) y (member_behind path k y c.requires.rising lt (c.requires.upwards x y (member_here path k lt) e) less) in
    let none : row.result ≡ None = no_call row.result (search rules) in
    let turned : reverse (drop k path) ≡ done ++ (x ∷ []) = turned_at path k lt in
    record {
      within = omega (arith, lt);
      ready = row.ensures.ready;
      unturned = row.ensures.unturned;
      stays = row.ensures.stays ∙ i.stays;
      soonest =
          let n = c.args.graph.now.ranks in
          let soonest_before : NoneSooner n c.ranks.soonest labels (drop (suc k) path) = subst (λ (left : ℕ). NoneSooner n c.ranks.soonest labels (drop left path)) next i.soonest in
          let at : IfSecond (second_at row.new.labels (n + x)) (λ at. c.sooner_of-soonest.result ≤ at) = search rules in
          subst (λ (xs : List ℕ). NoneSooner n c.sooner_of-soonest.result row.new.labels xs) (sym (drop_at path k lt))
          (none_sooner_more n c.ranks.soonest c.sooner_of-soonest.result x labels row.new.labels (drop (suc k) path) soonest_before c.sooner_of-soonest.ensures.first at row.ensures.others);
      swept = λ q same al sw.
          let (swept0, quiet0, told0) = i.swept q same al sw in
          let swept : IsDownSwept h q done labels (g.K.Linking.links c.ranks.chain) = subst (λ (n : ℕ). IsDownSwept h q (reverse (drop n path)) labels (g.K.Linking.links c.ranks.chain)) next swept0 in
          let quiet : first_long h (down_calls_of h q done) ≡ None = subst (λ (n : ℕ). first_long h (down_calls_of h q (reverse (drop n path))) ≡ None) next quiet0 in
          let before_told : AddsAll a b (down_calls_of h q done) = subst (λ (n : ℕ). AddsAll a b (down_calls_of h q (reverse (drop n path)))) next told0 in
          let passed : IsPassed h (sweep_of q) x =
          (within, inr (subst (λ (xs : List ℕ). Contains xs x) same (member_here path k lt))) in
          let f = down_made_to h q in
          let over = subst (λ (v : HierarchyValue). (p : Led) (ds : List ℕ) → IsDownSwept v p ds labels (g.K.Linking.links c.ranks.chain) → IsPassed v (sweep_of p) x
          → ((y : ℕ) → HasEdge c.args.graph.now.edges x y → Contains ds y) → p.allows ≡ allows
          → IsRankDown v p x ds b d row.new.labels (g.K.Linking.links row.new.chain) row.result) i.stays row.ensures.over in
          let rank_done = over q done swept passed higher al in
          let more = sweep_more h f done x a b d quiet before_told (sym none ∙ rank_done.ended) rank_done.told in
          subst (λ (xs : List ℕ). IsDownSwept h q xs row.new.labels (g.K.Linking.links row.new.chain) × (first_long h (down_calls_of h q xs) ≡ None) × AddsAll a d (down_calls_of h q xs)) (sym turned)
          (rank_done.swept none, more.0, more.1);
    }

pub returns-then-is_some-clause-over : goal.returns-then-is_some-clause-over
returns-then-is_some-clause-over g c =
    let h = g.R.Relaxer.hierarchy c.args.relaxer.now in
    let allows = g.L.Limits.allows c.args.limits.now in
    let m = h.network.nodes in
    let i = c.ranks.invariant in
    let path = c.args.path.now in
    let k = c.ranks.left - 1 in
    let next : c.ranks.left ≡ suc k = omega (arith, c.ranks-test.true) in
    let lt : k < length path = omega (arith, i.within, next) in
    let x = get_or path k 0 in
    let ranks : c.args.graph.now.ranks ≡ m = ap (λ (v : ChordalValue). v.ranks) c.requires.graph.0 in
    let edges : c.args.graph.now.edges ≡ h.edges = ap (λ (v : ChordalValue). v.edges) c.requires.graph.0 in
    let within : x < m = subst (λ (n : ℕ). x < n) ranks (c.requires.path k 0 lt) in
    let done = reverse (drop (suc k) path) in
    let row = c.lead_to-long in
    let a = g.R.Relaxer.calls c.args.relaxer.now in
    let b = g.R.Relaxer.calls c.ranks.relaxer in
    let d = g.R.Relaxer.calls row.new.relaxer in
    let labels = c.ranks.labels in
    let higher : (y : ℕ) → HasEdge c.args.graph.now.edges x y → Contains done y = λ y e.
    let less = (edge_range h c.requires.graph.1 x y (subst (λ (es : List Ends). HasEdge es x y) edges e)).0 in
    turned_member (drop (suc k) path) y (member_behind path k y c.requires.rising lt (c.requires.upwards x y (member_here path k lt) e) less) in
    let (call, is) = some_call row.result (search rules) in
    let (rest, cut) = turned_cut path k lt in
    λ q same al sw.
    let (swept0, quiet0, told0) = i.swept q same al sw in
    let swept : IsDownSwept h q done labels (g.K.Linking.links c.ranks.chain) = subst (λ (n : ℕ). IsDownSwept h q (reverse (drop n path)) labels (g.K.Linking.links c.ranks.chain)) next swept0 in
    let quiet : first_long h (down_calls_of h q done) ≡ None = subst (λ (n : ℕ). first_long h (down_calls_of h q (reverse (drop n path))) ≡ None) next quiet0 in
    let before_told : AddsAll a b (down_calls_of h q done) = subst (λ (n : ℕ). AddsAll a b (down_calls_of h q (reverse (drop n path)))) next told0 in
    let passed : IsPassed h (sweep_of q) x =
    (within, inr (subst (λ (xs : List ℕ). Contains xs x) same (member_here path k lt))) in
    let f = down_made_to h q in
    let over = subst (λ (v : HierarchyValue). (p : Led) (ds : List ℕ) → IsDownSwept v p ds labels (g.K.Linking.links c.ranks.chain) → IsPassed v (sweep_of p) x
    → ((y : ℕ) → HasEdge c.args.graph.now.edges x y → Contains ds y) → p.allows ≡ allows
    → IsRankDown v p x ds b d row.new.labels (g.K.Linking.links row.new.chain) row.result) i.stays row.ensures.over in
    let rank_done = over q done swept passed higher al in
    let ends = sweep_ends h f done x rest (reverse path) call a b d cut quiet before_told (sym rank_done.ended ∙ is) rank_done.told in
    record { ended = is ∙ sym ends.0; told = ends.1; swept = λ none. absurd (cc (none, is)) }

pub returns-clause-over : goal.returns-clause-over
returns-clause-over g c =
    let h = g.R.Relaxer.hierarchy c.args.relaxer.now in
    let i = c.ranks.invariant in
    let path = c.args.path.now in
    let a = g.R.Relaxer.calls c.args.relaxer.now in
    let b = g.R.Relaxer.calls c.ranks.relaxer in
    let zero : c.ranks.left ≡ 0 = omega (arith, c.ranks-test.false) in
    λ q same al sw.
    subst (λ (n : ℕ). IsDownOver h q (reverse (drop n path)) a b c.ranks.labels (g.K.Linking.links c.ranks.chain) None) zero
    (let (swept, quiet, told) = i.swept q same al sw in
    record { ended = sym quiet; told = subst (AddsAll a b) (sym (until_none h (down_calls_of h q (reverse (drop c.ranks.left path))) quiet)) told; swept = λ e. swept })
