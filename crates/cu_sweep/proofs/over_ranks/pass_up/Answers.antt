use Rattle.std.proofs.Common.{Bool, ◌≡◌, ◌<◌, ◌∙◌, ◌++◌, ◌∷◌, [], ℕ, List, None, refl, sym, ap, subst, rules, inl}
use Rattle.std.specs.Prelude.{All}
use Rattle.std.specs.List.{AllPairs, Contains}
use Rattle.std.specs.Iterator.{Yields, YieldsFirst}
use Rattle.std.proofs.lemmas.List.{append-nil}
use Rattle.std.proofs.lemmas.List.Kept.{AllPairs-from_increasing}
use Rattle.cu_chordal.specs.Graphs.{ChordalValue}
use Rattle.cu_elimtree.specs.SweepArcs.{ancestors_in}
use Rattle.cu_elimtree.proofs.Climbing.{yielded_first}
use Rattle.cu_interval.specs.declared.relaxing.Call.{Call}
use Rattle.cu_interval.specs.Hierarchies.{HierarchyValue, IsHierarchyOf, graph_of}
use Rattle.cu_sweep.specs.Sweeps.{AddsAll, first_long, second_of, until_long}
use Rattle.cu_sweep.specs.Places.{second_at}
use Rattle.cu_sweep.specs.Swept.{IsPassed}
use Rattle.cu_sweep.specs.Steps.Ahead.{LeadsUp}
use Rattle.cu_sweep.specs.Steps.Made.{Led, made_up_after, rows_up, sweep_of, up_calls_of, up_made, up_made_from}
use Rattle.cu_sweep.specs.Steps.Sweeping.{IsUpOver, IsUpSwept}
use Rattle.cu_sweep.proofs.Rows.{no_call, some_call}
use Rattle.cu_sweep.proofs.Passes.{all_parts, member_inside, row_up_same, sweep_ends, sweep_more, up_final}
use Rattle.cu_sweep.proofs.Telling.{adds_none, until_none}
use Rattle.cu_sweep.proofs.over_ranks.pass_up.Goals as goal

pub ranks-init : goal.ranks-init
ranks-init g c = record {
  ready = c.requires.ready;
  unturned = c.requires.unturned;
  stays = refl;
  swept = λ q same al sw. (sw, refl, adds_none (g.R.Relaxer.calls c.args.relaxer.now));
}

pub lead_from-long-requires-clause-rank : goal.lead_from-long-requires-clause-rank
lead_from-long-requires-clause-rank g c =
    let h = g.R.Relaxer.hierarchy c.args.relaxer.now in
    let i = c.ranks.invariant in
    let x = c.in-Some.rank in
    let before = c.ranks.yielded in
    let behind = c.next.new.self in
    let left : c.ranks.rank-iterator ≡ x ∷ behind = c.in-Some.ensures.steps in
    let whole : c.args.ancestors ≡ before ++ c.ranks.rank-iterator =
    yielded_first (λ (left : List ℕ). left) c.args.ancestors before c.ranks.rank-iterator
    (subst (λ s. Yields (YieldsFirst (λ (left : List ℕ). left)) s before c.ranks.rank-iterator) c.into_iter-rank-iterator.ensures.into_iter_gives c.ranks.yielded_by) in
    let all : c.args.ancestors ≡ before ++ (x ∷ behind) = whole ∙ ap (λ (xs : List ℕ). before ++ xs) left in
    let rank : x < c.args.graph.now.ranks = all_parts (λ a. a < c.args.graph.now.ranks) before x behind (subst (All (λ a. a < c.args.graph.now.ranks)) all c.requires.ancestors) in
    rank

pub lead_from-long-requires-clause-leads : goal.lead_from-long-requires-clause-leads
lead_from-long-requires-clause-leads g c =
    let allows = g.L.Limits.allows c.args.limits.now in
    let i = c.ranks.invariant in
    let x = c.in-Some.rank in
    let before = c.ranks.yielded in
    let behind = c.next.new.self in
    let left : c.ranks.rank-iterator ≡ x ∷ behind = c.in-Some.ensures.steps in
    let whole : c.args.ancestors ≡ before ++ c.ranks.rank-iterator =
    yielded_first (λ (left : List ℕ). left) c.args.ancestors before c.ranks.rank-iterator
    (subst (λ s. Yields (YieldsFirst (λ (left : List ℕ). left)) s before c.ranks.rank-iterator) c.into_iter-rank-iterator.ensures.into_iter_gives c.ranks.yielded_by) in
    let all : c.args.ancestors ≡ before ++ (x ∷ behind) = whole ∙ ap (λ (xs : List ℕ). before ++ xs) left in
    let leads = LeadsUp (g.R.Relaxer.hierarchy c.args.relaxer.now) allows in
    let at : LeadsUp (g.R.Relaxer.hierarchy c.args.relaxer.now) allows x = all_parts leads before x behind (subst (All leads) all c.requires.leads) in
    subst (λ (v : HierarchyValue). LeadsUp v allows x) (sym i.stays) at

pub lead_from-long-requires-clause-graph : goal.lead_from-long-requires-clause-graph
lead_from-long-requires-clause-graph g c = subst (IsHierarchyOf c.args.graph.now) (sym c.ranks.invariant.stays) c.requires.graph

pub ranks-preserved : goal.ranks-preserved
ranks-preserved g c =
    let h = g.R.Relaxer.hierarchy c.args.relaxer.now in
    let allows = g.L.Limits.allows c.args.limits.now in
    let i = c.ranks.invariant in
    let x = c.in-Some.rank in
    let before = c.ranks.yielded in
    let behind = c.next.new.self in
    let left : c.ranks.rank-iterator ≡ x ∷ behind = c.in-Some.ensures.steps in
    let whole : c.args.ancestors ≡ before ++ c.ranks.rank-iterator =
    yielded_first (λ (left : List ℕ). left) c.args.ancestors before c.ranks.rank-iterator
    (subst (λ s. Yields (YieldsFirst (λ (left : List ℕ). left)) s before c.ranks.rank-iterator) c.into_iter-rank-iterator.ensures.into_iter_gives c.ranks.yielded_by) in
    let all : c.args.ancestors ≡ before ++ (x ∷ behind) = whole ∙ ap (λ (xs : List ℕ). before ++ xs) left in
    let rank : x < c.args.graph.now.ranks = all_parts (λ a. a < c.args.graph.now.ranks) before x behind (subst (All (λ a. a < c.args.graph.now.ranks)) all c.requires.ancestors) in
    let row = c.lead_from-long in
    let within : x < h.network.nodes = subst (λ (v : ChordalValue). x < v.ranks) c.requires.graph.0 rank in
    let rising : AllPairs (λ a b. a < b) (before ++ (x ∷ behind)) =
    subst (AllPairs (λ a b. a < b)) all (AllPairs-from_increasing c.args.ancestors c.requires.rising) in
    let long_eq : row.result ≡ first_long h (rows_up h allows x (second_at c.ranks.labels x) (second_at c.ranks.labels)) =
    subst (λ (v : HierarchyValue). row.result ≡ first_long v (rows_up v allows x (second_at c.ranks.labels x) (second_at c.ranks.labels))) i.stays row.ensures.long in
    let told : AddsAll (g.R.Relaxer.calls c.ranks.relaxer) (g.R.Relaxer.calls row.new.relaxer) (until_long h (rows_up h allows x (second_at c.ranks.labels x) (second_at c.ranks.labels))) =
    subst (λ (v : HierarchyValue). AddsAll (g.R.Relaxer.calls c.ranks.relaxer) (g.R.Relaxer.calls row.new.relaxer)
    (until_long v (rows_up v allows x (second_at c.ranks.labels x) (second_at c.ranks.labels)))) i.stays row.ensures.told in
    let none : row.result ≡ None = no_call row.result (search rules) in
    record {
      ready = row.ensures.ready;
      unturned = row.ensures.unturned;
      stays = row.ensures.stays ∙ i.stays;
      swept = λ q same al sw.
          let (swept, quiet, before_told) = i.swept q same al sw in
          let anc : ancestors_in (graph_of h) q.from ≡ before ++ (x ∷ behind) = ap (λ (v : ChordalValue). ancestors_in v q.from) (sym c.requires.graph.0) ∙ same ∙ all in
          let passed : IsPassed h (sweep_of q) x = (within, inl (subst (λ (xs : List ℕ). Contains xs x) (sym anc) (member_inside before x behind))) in
          let final = up_final h c.requires.graph.1 q before x behind anc rising in
          let second : second_at c.ranks.labels x ≡ second_of (up_made h q x) = (swept x passed).second ∙ ap second_of final in
          let f = up_made_from h q in
          let same_row : rows_up h allows x (second_at c.ranks.labels x) (second_at c.ranks.labels) ≡ f x =
          ap (λ (each : ℕ → ℕ → Bool). rows_up h each x (second_at c.ranks.labels x) (second_at c.ranks.labels)) (sym al)
          ∙ row_up_same h c.requires.graph.1 q before x behind c.ranks.labels (g.K.Linking.links c.ranks.chain) anc rising swept second in
          let told_row = subst (λ (cs : List Call). AddsAll (g.R.Relaxer.calls c.ranks.relaxer) (g.R.Relaxer.calls row.new.relaxer) (until_long h cs)) same_row told in
          let more = sweep_more h f before x (g.R.Relaxer.calls c.args.relaxer.now) (g.R.Relaxer.calls c.ranks.relaxer) (g.R.Relaxer.calls row.new.relaxer) quiet before_told
          (sym none ∙ long_eq ∙ ap (first_long h) same_row) told_row in
          let kept = subst (λ (v : HierarchyValue). (p : Led) (done : List ℕ) → IsUpSwept v p done c.ranks.labels (g.K.Linking.links c.ranks.chain) → IsPassed v (sweep_of p) x
          → made_up_after v p done x ≡ up_made v p x → p.allows ≡ allows → row.result ≡ None → IsUpSwept v p (done ++ (x ∷ [])) row.new.labels (g.K.Linking.links row.new.chain))
          i.stays row.ensures.swept in
          (kept q before swept passed final al none, more.0, more.1);
    }

pub returns-then-is_some-clause-over : goal.returns-then-is_some-clause-over
returns-then-is_some-clause-over g c =
    let h = g.R.Relaxer.hierarchy c.args.relaxer.now in
    let allows = g.L.Limits.allows c.args.limits.now in
    let i = c.ranks.invariant in
    let x = c.in-Some.rank in
    let before = c.ranks.yielded in
    let behind = c.next.new.self in
    let left : c.ranks.rank-iterator ≡ x ∷ behind = c.in-Some.ensures.steps in
    let whole : c.args.ancestors ≡ before ++ c.ranks.rank-iterator =
    yielded_first (λ (left : List ℕ). left) c.args.ancestors before c.ranks.rank-iterator
    (subst (λ s. Yields (YieldsFirst (λ (left : List ℕ). left)) s before c.ranks.rank-iterator) c.into_iter-rank-iterator.ensures.into_iter_gives c.ranks.yielded_by) in
    let all : c.args.ancestors ≡ before ++ (x ∷ behind) = whole ∙ ap (λ (xs : List ℕ). before ++ xs) left in
    let rank : x < c.args.graph.now.ranks = all_parts (λ a. a < c.args.graph.now.ranks) before x behind (subst (All (λ a. a < c.args.graph.now.ranks)) all c.requires.ancestors) in
    let row = c.lead_from-long in
    let within : x < h.network.nodes = subst (λ (v : ChordalValue). x < v.ranks) c.requires.graph.0 rank in
    let rising : AllPairs (λ a b. a < b) (before ++ (x ∷ behind)) =
    subst (AllPairs (λ a b. a < b)) all (AllPairs-from_increasing c.args.ancestors c.requires.rising) in
    let long_eq : row.result ≡ first_long h (rows_up h allows x (second_at c.ranks.labels x) (second_at c.ranks.labels)) =
    subst (λ (v : HierarchyValue). row.result ≡ first_long v (rows_up v allows x (second_at c.ranks.labels x) (second_at c.ranks.labels))) i.stays row.ensures.long in
    let told : AddsAll (g.R.Relaxer.calls c.ranks.relaxer) (g.R.Relaxer.calls row.new.relaxer) (until_long h (rows_up h allows x (second_at c.ranks.labels x) (second_at c.ranks.labels))) =
    subst (λ (v : HierarchyValue). AddsAll (g.R.Relaxer.calls c.ranks.relaxer) (g.R.Relaxer.calls row.new.relaxer)
    (until_long v (rows_up v allows x (second_at c.ranks.labels x) (second_at c.ranks.labels)))) i.stays row.ensures.told in
    let (call, is) = some_call row.result (search rules) in
    λ q same al sw.
    let (swept, quiet, before_told) = i.swept q same al sw in
    let anc : ancestors_in (graph_of h) q.from ≡ before ++ (x ∷ behind) = ap (λ (v : ChordalValue). ancestors_in v q.from) (sym c.requires.graph.0) ∙ same ∙ all in
    let passed : IsPassed h (sweep_of q) x = (within, inl (subst (λ (xs : List ℕ). Contains xs x) (sym anc) (member_inside before x behind))) in
    let final = up_final h c.requires.graph.1 q before x behind anc rising in
    let second : second_at c.ranks.labels x ≡ second_of (up_made h q x) = (swept x passed).second ∙ ap second_of final in
    let f = up_made_from h q in
    let same_row : rows_up h allows x (second_at c.ranks.labels x) (second_at c.ranks.labels) ≡ f x =
    ap (λ (each : ℕ → ℕ → Bool). rows_up h each x (second_at c.ranks.labels x) (second_at c.ranks.labels)) (sym al)
    ∙ row_up_same h c.requires.graph.1 q before x behind c.ranks.labels (g.K.Linking.links c.ranks.chain) anc rising swept second in
    let told_row = subst (λ (cs : List Call). AddsAll (g.R.Relaxer.calls c.ranks.relaxer) (g.R.Relaxer.calls row.new.relaxer) (until_long h cs)) same_row told in
    let ends = sweep_ends h f before x behind c.args.ancestors call (g.R.Relaxer.calls c.args.relaxer.now) (g.R.Relaxer.calls c.ranks.relaxer)
    (g.R.Relaxer.calls row.new.relaxer) all quiet before_told (ap (first_long h) (sym same_row) ∙ sym long_eq ∙ is) told_row in
    record { ended = is ∙ sym ends.0; told = ends.1; swept = λ none. absurd (cc (none, is)) }

pub returns-clause-over : goal.returns-clause-over
returns-clause-over g c =
    let h = g.R.Relaxer.hierarchy c.args.relaxer.now in
    let i = c.ranks.invariant in
    let before = c.ranks.yielded in
    let left : c.ranks.rank-iterator ≡ [] = c.in-None.ensures.steps.0 in
    let whole : c.args.ancestors ≡ before ++ c.ranks.rank-iterator =
    yielded_first (λ (left : List ℕ). left) c.args.ancestors before c.ranks.rank-iterator
    (subst (λ s. Yields (YieldsFirst (λ (left : List ℕ). left)) s before c.ranks.rank-iterator) c.into_iter-rank-iterator.ensures.into_iter_gives c.ranks.yielded_by) in
    let all : c.args.ancestors ≡ before = whole ∙ ap (λ (xs : List ℕ). before ++ xs) left ∙ append-nil before in
    λ q same al sw.
    let (swept, quiet, told) = i.swept q same al sw in
    subst (λ (xs : List ℕ). IsUpOver h q xs (g.R.Relaxer.calls c.args.relaxer.now) (g.R.Relaxer.calls c.ranks.relaxer) c.ranks.labels (g.K.Linking.links c.ranks.chain) None) (sym all)
    (record {
      ended = sym quiet;
      told = subst (AddsAll (g.R.Relaxer.calls c.args.relaxer.now) (g.R.Relaxer.calls c.ranks.relaxer))
          (sym (until_none h (up_calls_of h q before) quiet)) told;
      swept = λ e. swept;
    })
