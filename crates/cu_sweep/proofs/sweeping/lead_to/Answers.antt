use Rattle.std.proofs.Common.{Bool, ◌≡◌, ◌≢◌, ◌≤◌, ◌<◌, ◌+◌, ◌*◌, ◌^◌, ◌∙◌, ◌++◌, ℕ, List, [], ◌∷◌, Option, Some, None, refl, sym, ap, subst, arith, rules, length, take, get_or, get_or-set_other, false}
use Rattle.std.specs.Prelude.{slice_get, slice_set}
use Rattle.std.specs.List.{AllPairs, Contains}
use Rattle.std.proofs.lemmas.List.{take_more}
use Rattle.std.proofs.lemmas.Option.{slice_get-get_or}
use Rattle.cu_model.specs.declared.limits.TheConstants.{MAX_NODES}
use Rattle.cu_chordal.specs.declared.graph.TheConstants.{MAX_EDGES}
use Rattle.cu_chordal.specs.declared.graph.Ends.{Ends}
use Rattle.cu_chordal.specs.Graphs.{ChordalValue, HasEdge, first_edge_of, up_of}
use Rattle.cu_chordal.proofs.Members.{member_at}
use Rattle.cu_chordal.proofs.Tables.{edge_from_up_of, up_rising}
use Rattle.cu_links.specs.Chains.{IsOnChainTo}
use Rattle.cu_interval.specs.declared.ways.Dir.TheVariants.{Down}
use Rattle.cu_interval.specs.declared.relaxing.Call.{Call}
use Rattle.cu_interval.specs.declared.relaxing.Relaxed.{Relaxed}
use Rattle.cu_interval.specs.Calls.{IfAt}
use Rattle.cu_interval.specs.Hierarchies.{HierarchyValue, number_from}
use Rattle.cu_sweep.specs.Sweeps.{AddsAll, below, call_at, call_unless, first_long, second_of}
use Rattle.cu_sweep.specs.Places.{calls_of_some, second_at}
use Rattle.cu_sweep.specs.Steps.Ready.{IsReadyBy}
use Rattle.cu_sweep.specs.Steps.Made.{call_if, down_call, down_made, made_down_after}
use Rattle.cu_sweep.specs.Steps.Sweeping.{IfSecond, answer_in, begun_links, call_into, links_after, seconds_after}
use Rattle.cu_sweep.proofs.Readying.{apart, keeps_links, near_at, relaxed_ready, time_left, turn_down}
use Rattle.cu_sweep.proofs.Passing.{below_taken, cut_at, take_full}
use Rattle.cu_sweep.proofs.Rows.{IsRow, no_call, row_edge, row_ends, row_more, row_none, row_whole, some_call}
use Rattle.cu_sweep.proofs.Holding.{seconds_other}
use Rattle.cu_sweep.proofs.DownRows.{IsDownPart, down_begun, down_done, down_more}
use Rattle.cu_sweep.proofs.PassedOver.{down_passed_over, row_down_none}
use Rattle.cu_sweep.proofs.sweeping.lead_to.Goals as goal

pub returns-then-not-allow-clause-over : goal.returns-then-not-allow-clause-over
returns-then-not-allow-clause-over g c =
    let h = g.R.Relaxer.hierarchy c.args.relaxer.now in
    let allows = g.L.Limits.allows c.args.limits.now in
    let m = h.network.nodes in
    let x = c.args.below.rank in
    let soonest = c.args.below.soonest in
    let ranks : c.args.graph.now.ranks ≡ m = ap (λ (v : ChordalValue). v.ranks) c.requires.graph.0 in
    let nodes : c.ranks-nodes.result ≡ m = c.ranks-nodes.ensures.count ∙ ranks in
    let edges : c.args.graph.now.edges ≡ h.edges = ap (λ (v : ChordalValue). v.edges) c.requires.graph.0 in
    let labels = c.args.labels.now in
    let links = g.K.Linking.links c.args.chain.now in
    let begun = c.begin_down in
    let labels_eq : begun.new.labels ≡ slice_set labels (m + x) (second_at labels x) = subst (λ (n : ℕ). begun.new.labels ≡ slice_set labels (n + x) (second_at labels x)) nodes begun.ensures.labels in
    let links_eq : g.K.Linking.links begun.new.chain ≡ begun_links links x (m + x) (second_at labels x) =
    subst (λ (n : ℕ). (g.K.Linking.links begun.new.chain) ≡ begun_links links x (n + x) (second_at labels x)) nodes begun.ensures.links in
    let refused : allows (c.ranks-nodes.result + x) soonest ≡ false = search rules in
    let out : allows (m + x) soonest ≡ false = subst (λ (n : ℕ). allows (n + x) soonest ≡ false) nodes refused in
    let rank = c.requires.rank in
    let long = c.requires.ready.long in
    let places = c.requires.ready.places in
    let calls = g.R.Relaxer.calls c.args.relaxer.now in
    λ q done swept passed higher al.
    let late : (y : ℕ) → Contains (up_of h.edges x) y → IfSecond (second_of (down_made h q y)) (λ at. soonest ≤ at) = λ y member.
    let edge : HasEdge c.args.graph.now.edges x y = subst (λ (es : List Ends). HasEdge es x y) (sym edges) (edge_from_up_of h.edges x y member) in
    let at : second_at labels (c.args.graph.now.ranks + y) ≡ second_of (down_made h q y) =
    ap (λ (n : ℕ). second_at labels (n + y)) ranks ∙ (swept.down y (higher y edge)).second in
    subst (λ (o : Option ℕ). IfSecond o (λ at. soonest ≤ at)) at (c.requires.soonest y edge) in
    let part0 = down_begun h q done x labels links swept passed (omega (arith, rank, ranks, long))
    (λ kept. let all = places (keeps_links g.K.Linking.links c.args.chain.now kept) in omega (arith, rank, ranks, all)) in
    let part1 : IsDownPart h q done x [] begun.new.labels (g.K.Linking.links begun.new.chain) =
    subst (λ (ls : List (Option ℕ)). IsDownPart h q done x [] ls (g.K.Linking.links begun.new.chain)) (sym labels_eq)
    (subst (λ (ks : List (Option (ℕ × ℕ))). IsDownPart h q done x [] (slice_set labels (m + x) (second_at labels x)) ks) (sym links_eq) part0) in
    let part = down_passed_over h allows x soonest c.requires.falls out q al late done begun.new.labels (g.K.Linking.links begun.new.chain) part1 in
    let row = row_down_none h allows x soonest c.requires.falls out q al late calls in
    record {
      ended = sym row.short;
      told = row_whole h (λ y. down_call h q x y (number_from 0 h.edges x y)) (up_of h.edges x) calls calls row;
      swept = λ none. down_done h c.requires.graph.1 q done x begun.new.labels (g.K.Linking.links begun.new.chain) passed part;
    }

pub edges-init : goal.edges-init
edges-init g c =
    let h = g.R.Relaxer.hierarchy c.args.relaxer.now in
    let m = h.network.nodes in
    let x = c.args.below.rank in
    let ranks : c.args.graph.now.ranks ≡ m = ap (λ (v : ChordalValue). v.ranks) c.requires.graph.0 in
    let nodes : c.ranks-nodes.result ≡ m = c.ranks-nodes.ensures.count ∙ ranks in
    let same : c.args.graph.now.edges ≡ h.edges = ap (λ (v : ChordalValue). v.edges) c.requires.graph.0 in
    let labels = c.args.labels.now in
    let links = g.K.Linking.links c.args.chain.now in
    let begun = c.begin_down in
    let labels_eq : begun.new.labels ≡ slice_set labels (m + x) (second_at labels x) = subst (λ (n : ℕ). begun.new.labels ≡ slice_set labels (n + x) (second_at labels x)) nodes begun.ensures.labels in
    let links_eq : g.K.Linking.links begun.new.chain ≡ begun_links links x (m + x) (second_at labels x) =
    subst (λ (n : ℕ). (g.K.Linking.links begun.new.chain) ≡ begun_links links x (n + x) (second_at labels x)) nodes begun.ensures.links in
    let rank = c.requires.rank in
    let long = c.requires.ready.long in
    let places = c.requires.ready.places in
    record {
      ready = subst (λ (n : ℕ). IsReadyBy g.K.Linking.links g.K.Linking.turned n begun.new.labels begun.new.chain) nodes begun.ensures.ready;
      unturned = begun.ensures.unturned;
      stays = refl;
      highers = c.up-highers.ensures.exact ∙ ap (λ (es : List Ends). up_of es x) same;
      edge = let e = c.first_edge-edge.ensures.count ∙ ap (λ (es : List Ends). first_edge_of es x) same in omega (arith, e);
      nodes = nodes;
      source = λ y ne. ap (λ (ls : List (Option ℕ)). second_at ls (m + y)) labels_eq ∙ get_or-set_other labels (m + x) (m + y) (second_at labels x) None (λ e. ne (omega (arith, e)));
      swept = λ q done sw p all al. (
        subst (λ (ls : List (Option ℕ)). IsDownPart h q done x [] ls (g.K.Linking.links begun.new.chain)) (sym labels_eq)
            (subst (λ (ks : List (Option (ℕ × ℕ))). IsDownPart h q done x [] (slice_set labels (m + x) (second_at labels x)) ks) (sym links_eq)
            (down_begun h q done x labels links sw p (omega (arith, rank, ranks, long))
            (λ kept. let all = places (keeps_links g.K.Linking.links c.args.chain.now kept) in omega (arith, rank, ranks, all)))),
        row_none h (λ z. down_call h q x z (number_from 0 h.edges x z)) (g.R.Relaxer.calls c.args.relaxer.now),
      );
    }

pub overflow_add-leg : goal.overflow_add-leg
overflow_add-leg g c =
    let h = g.R.Relaxer.hierarchy c.args.relaxer.now in
    let m = h.network.nodes in
    let x = c.args.below.rank in
    let ranks : c.args.graph.now.ranks ≡ m = ap (λ (v : ChordalValue). v.ranks) c.requires.graph.0 in
    let nodes : c.ranks-nodes.result ≡ m = c.ranks-nodes.ensures.count ∙ ranks in
    let i = c.edges.invariant in
    let k = c.edges.higher-index in
    let highers = c.up-highers.result.now in
    let lt : k < length highers = omega arith in
    let y = get_or highers k 0 in
    let at : slice_get (up_of h.edges x) k ≡ Some y = subst (λ (xs : List ℕ). slice_get xs k ≡ Some y) i.highers (slice_get-get_or highers k 0 lt) in
    let facts = row_edge h c.requires.graph.1 x k y at in
    let up = facts.2 in
    let within = facts.3 in
    let labels = c.edges.labels in
    let links = g.K.Linking.links c.edges.chain in
    let edge = c.edges.edge in
    let number : number_from 0 h.edges x y ≡ Some edge = facts.0 ∙ ap (λ (j : ℕ). Some j) (sym i.edge) in
    let there_ : edge < length h.edges = subst (λ (j : ℕ). j < length h.edges) (sym i.edge) facts.1 in
    let few : m ≤ MAX_NODES = i.ready.few in
    omega (arith, few, within, nodes)

pub relax_into-long-requires-clause-edge : goal.relax_into-long-requires-clause-edge
relax_into-long-requires-clause-edge g c =
    let h = g.R.Relaxer.hierarchy c.args.relaxer.now in
    let m = h.network.nodes in
    let x = c.args.below.rank in
    let ranks : c.args.graph.now.ranks ≡ m = ap (λ (v : ChordalValue). v.ranks) c.requires.graph.0 in
    let nodes : c.ranks-nodes.result ≡ m = c.ranks-nodes.ensures.count ∙ ranks in
    let i = c.edges.invariant in
    let k = c.edges.higher-index in
    let highers = c.up-highers.result.now in
    let lt : k < length highers = omega arith in
    let y = get_or highers k 0 in
    let at : slice_get (up_of h.edges x) k ≡ Some y = subst (λ (xs : List ℕ). slice_get xs k ≡ Some y) i.highers (slice_get-get_or highers k 0 lt) in
    let facts = row_edge h c.requires.graph.1 x k y at in
    let up = facts.2 in
    let within = facts.3 in
    let labels = c.edges.labels in
    let links = g.K.Linking.links c.edges.chain in
    let edge = c.edges.edge in
    let number : number_from 0 h.edges x y ≡ Some edge = facts.0 ∙ ap (λ (j : ℕ). Some j) (sym i.edge) in
    let there_ : edge < length h.edges = subst (λ (j : ℕ). j < length h.edges) (sym i.edge) facts.1 in
    subst (λ (v : HierarchyValue). edge < length v.edges) (sym i.stays) there_

pub relax_into-long-requires-clause-from : goal.relax_into-long-requires-clause-from
relax_into-long-requires-clause-from g c =
    let h = g.R.Relaxer.hierarchy c.args.relaxer.now in
    let m = h.network.nodes in
    let x = c.args.below.rank in
    let ranks : c.args.graph.now.ranks ≡ m = ap (λ (v : ChordalValue). v.ranks) c.requires.graph.0 in
    let nodes : c.ranks-nodes.result ≡ m = c.ranks-nodes.ensures.count ∙ ranks in
    let i = c.edges.invariant in
    let k = c.edges.higher-index in
    let highers = c.up-highers.result.now in
    let lt : k < length highers = omega arith in
    let y = get_or highers k 0 in
    let at : slice_get (up_of h.edges x) k ≡ Some y = subst (λ (xs : List ℕ). slice_get xs k ≡ Some y) i.highers (slice_get-get_or highers k 0 lt) in
    let facts = row_edge h c.requires.graph.1 x k y at in
    let up = facts.2 in
    let within = facts.3 in
    let labels = c.edges.labels in
    let links = g.K.Linking.links c.edges.chain in
    let edge = c.edges.edge in
    let number : number_from 0 h.edges x y ≡ Some edge = facts.0 ∙ ap (λ (j : ℕ). Some j) (sym i.edge) in
    let there_ : edge < length h.edges = subst (λ (j : ℕ). j < length h.edges) (sym i.edge) facts.1 in
    let long = i.ready.long in
    omega (arith, within, nodes, long)

pub relax_into-long-requires-clause-apart : goal.relax_into-long-requires-clause-apart
relax_into-long-requires-clause-apart g c =
    let h = g.R.Relaxer.hierarchy c.args.relaxer.now in
    let m = h.network.nodes in
    let x = c.args.below.rank in
    let ranks : c.args.graph.now.ranks ≡ m = ap (λ (v : ChordalValue). v.ranks) c.requires.graph.0 in
    let nodes : c.ranks-nodes.result ≡ m = c.ranks-nodes.ensures.count ∙ ranks in
    let i = c.edges.invariant in
    let k = c.edges.higher-index in
    let highers = c.up-highers.result.now in
    let lt : k < length highers = omega arith in
    let y = get_or highers k 0 in
    let at : slice_get (up_of h.edges x) k ≡ Some y = subst (λ (xs : List ℕ). slice_get xs k ≡ Some y) i.highers (slice_get-get_or highers k 0 lt) in
    let facts = row_edge h c.requires.graph.1 x k y at in
    let up = facts.2 in
    let within = facts.3 in
    let labels = c.edges.labels in
    let links = g.K.Linking.links c.edges.chain in
    let edge = c.edges.edge in
    let number : number_from 0 h.edges x y ≡ Some edge = facts.0 ∙ ap (λ (j : ℕ). Some j) (sym i.edge) in
    let there_ : edge < length h.edges = subst (λ (j : ℕ). j < length h.edges) (sym i.edge) facts.1 in
    subst (λ (n : ℕ). IsOnChainTo links (n + x) (n + y) → ⊥) (sym nodes) (apart m links (m + y) (m + x) (i.ready.rises i.unturned) (turn_down m x y up within))

pub edges-preserved : goal.edges-preserved
edges-preserved g c =
    let h = g.R.Relaxer.hierarchy c.args.relaxer.now in
    let allows = g.L.Limits.allows c.args.limits.now in
    let m = h.network.nodes in
    let x = c.args.below.rank in
    let ranks : c.args.graph.now.ranks ≡ m = ap (λ (v : ChordalValue). v.ranks) c.requires.graph.0 in
    let nodes : c.ranks-nodes.result ≡ m = c.ranks-nodes.ensures.count ∙ ranks in
    let i = c.edges.invariant in
    let k = c.edges.higher-index in
    let highers = c.up-highers.result.now in
    let lt : k < length highers = omega arith in
    let y = get_or highers k 0 in
    let at : slice_get (up_of h.edges x) k ≡ Some y = subst (λ (xs : List ℕ). slice_get xs k ≡ Some y) i.highers (slice_get-get_or highers k 0 lt) in
    let facts = row_edge h c.requires.graph.1 x k y at in
    let up = facts.2 in
    let within = facts.3 in
    let labels = c.edges.labels in
    let links = g.K.Linking.links c.edges.chain in
    let edge = c.edges.edge in
    let number : number_from 0 h.edges x y ≡ Some edge = facts.0 ∙ ap (λ (j : ℕ). Some j) (sym i.edge) in
    let there_ : edge < length h.edges = subst (λ (j : ℕ). j < length h.edges) (sym i.edge) facts.1 in
    let call = c.relax_into-long in
    let ne : y ≢ x = λ same. absurd (omega (arith, same, up)) in
    let made = call_into (g.R.Relaxer.hierarchy c.edges.relaxer) allows labels (Some edge) Down (c.ranks-nodes.result + y) (c.ranks-nodes.result + x) in
    let own = call_into h allows labels (Some edge) Down (m + y) (m + x) in
    let same_call : made ≡ own =
    ap (λ (v : HierarchyValue). call_into v allows labels (Some edge) Down (c.ranks-nodes.result + y) (c.ranks-nodes.result + x)) i.stays
    ∙ ap (λ (n : ℕ). call_into h allows labels (Some edge) Down (n + y) (n + x)) nodes in
    let a = g.R.Relaxer.calls c.args.relaxer.now in
    let b = g.R.Relaxer.calls c.edges.relaxer in
    let d = g.R.Relaxer.calls call.new.relaxer in
    let told_own : AddsAll b d (calls_of_some own) = subst (λ (o : Option Call). AddsAll b d (calls_of_some o)) same_call call.ensures.told in
    let long_own : call.result ≡ first_long h (calls_of_some own) =
    subst (λ (v : HierarchyValue). call.result ≡ first_long v (calls_of_some made)) i.stays call.ensures.long
    ∙ ap (λ (o : Option Call). first_long h (calls_of_some o)) same_call in
    let rising : AllPairs (λ a b. a < b) highers = subst (AllPairs (λ a b. a < b)) (sym i.highers) (up_rising h.edges x c.requires.graph.1.graph.rising) in
    let lower : take k highers ≡ below y (up_of h.edges x) = below_taken highers k rising lt ∙ ap (below y) i.highers in
    let allowed = allows (m + x) in
    let answer = answer_in h allowed edge Down (second_at labels (m + y)) in
    let labels_eq : call.new.labels ≡ seconds_after labels (m + x) answer =
    subst (λ (n : ℕ). call.new.labels ≡ seconds_after labels (n + x) (answer_in h (allows (n + x)) edge Down (second_at labels (n + y)))) nodes
    (subst (λ (v : HierarchyValue). call.new.labels ≡ seconds_after labels (c.ranks-nodes.result + x)
    (answer_in v (allows (c.ranks-nodes.result + x)) edge Down (second_at labels (c.ranks-nodes.result + y)))) i.stays call.ensures.labels) in
    let links_eq : g.K.Linking.links call.new.chain ≡ links_after labels links (m + y) edge (m + x) answer =
    subst (λ (n : ℕ). (g.K.Linking.links call.new.chain) ≡ links_after labels links (n + y) edge (n + x) (answer_in h (allows (n + x)) edge Down (second_at labels (n + y)))) nodes
    (subst (λ (v : HierarchyValue). (g.K.Linking.links call.new.chain) ≡ links_after labels links (c.ranks-nodes.result + y) edge (c.ranks-nodes.result + x)
    (answer_in v (allows (c.ranks-nodes.result + x)) edge Down (second_at labels (c.ranks-nodes.result + y)))) i.stays call.ensures.links) in
    let none : call.result ≡ None = no_call call.result (search rules) in
    let near = subst (λ (n : ℕ). IfSecond (second_at labels (n + y)) (λ at. IfAt (answer_in h (allows (n + x)) edge Down (Some at)) (λ (arrival : ℕ). arrival ≤ at + 2 ^ 38))) nodes
    (subst (λ (v : HierarchyValue). IfSecond (second_at labels (c.ranks-nodes.result + y))
    (λ at. IfAt (answer_in v (allows (c.ranks-nodes.result + x)) edge Down (Some at)) (λ (arrival : ℕ). arrival ≤ at + 2 ^ 38))) i.stays call.ensures.near) in
    let from_m : m + y < 2 * m = omega (arith, within) in
    let into_m : m + x < 2 * m = omega (arith, up, within) in
    let few : length h.edges ≤ MAX_EDGES = c.requires.graph.1.graph.few_edges in
    let small : edge < MAX_EDGES = omega (arith, few, there_) in
    let ready = relaxed_ready m labels links (g.K.Linking.links call.new.chain) (g.K.Linking.turned c.edges.chain) (g.K.Linking.turned call.new.chain) i.ready
    (m + y) edge (m + x) answer i.unturned from_m into_m small (turn_down m x y up within)
    (near_at h allowed edge Down (second_at labels (m + y)) near) links_eq in
    let more : take (k + 1) highers ≡ take k highers ++ (y ∷ []) = take_more highers k 0 lt in
    let long_labels = i.ready.long in
    let long_links = i.ready.places in
    record {
      ready = subst (λ (ls : List (Option ℕ)). IsReadyBy g.K.Linking.links g.K.Linking.turned m ls call.new.chain) (sym labels_eq) ready;
      unturned = call.ensures.unturned;
      stays = call.ensures.stays ∙ i.stays;
      highers = i.highers;
      edge = let e = i.edge in omega (arith, e);
      nodes = nodes;
      source = λ z other.
          ap (λ (ls : List (Option ℕ)). second_at ls (m + z)) labels_eq ∙ seconds_other labels (m + x) (m + z) answer (λ e. other (omega (arith, e)))
          ∙ i.source z other;
      swept = λ q done sw p all al.
          let before = (i.swept q done sw p all al).0 in
          let row = (i.swept q done sw p all al).1 in
          let member = all y (edge_from_up_of h.edges x y (member_at (up_of h.edges x) y k at)) in
          let s_q : second_at labels (m + y) ≡ second_of (down_made h q y) = (before.down y member ne).second in
          let r_q : second_at labels (m + x) ≡ second_of (made_down_after h q (below y (up_of h.edges x)) x) =
          before.here.second ∙ ap (λ (part : List ℕ). second_of (made_down_after h q part x)) lower in
          let f = λ (z : ℕ). down_call h q x z (number_from 0 h.edges x z) in
          let o = down_call h q x y (Some edge) in
          let own_q : own ≡ o =
          ap (λ (each : ℕ → ℕ → Bool). call_into h each labels (Some edge) Down (m + y) (m + x)) (sym al)
          ∙ ap (λ (t : Option ℕ). call_unless h t (call_if h (q.allows (m + x)) (call_at (Some edge) Down (second_at labels (m + y))))) r_q
          ∙ ap (λ (t : Option ℕ). call_unless h (second_of (made_down_after h q (below y (up_of h.edges x)) x)) (call_if h (q.allows (m + x)) (call_at (Some edge) Down t))) s_q in
          let told : AddsAll b d (calls_of_some o) = subst (λ (w : Option Call). AddsAll b d (calls_of_some w)) own_q told_own in
          let long_q : call.result ≡ first_long h (calls_of_some o) =
          long_own ∙ ap (λ (w : Option Call). first_long h (calls_of_some w)) own_q in
          let at_y : f y ≡ o = ap (down_call h q x y) number in
          let same_answer : answer_in h (q.allows (m + x)) edge Down (second_at labels (m + y)) ≡ answer =
          ap (λ (each : ℕ → ℕ → Bool). answer_in h (each (m + x)) edge Down (second_at labels (m + y))) al in
          let part0 = down_more h q done x y edge (take k highers) labels links before (omega (arith, into_m, long_labels))
          (λ kept. let all = long_links (keeps_links g.K.Linking.links c.edges.chain kept) in omega (arith, into_m, all)) number there_
          s_q (time_left m labels (m + y) (second_at labels (m + y)) i.ready.few i.ready.near from_m refl) in
          let part = subst (λ (r : Relaxed). IsDownPart h q done x (take k highers ++ (y ∷ []))
          (seconds_after labels (m + x) r) (links_after labels links (m + y) edge (m + x) r)) same_answer part0 in
          let next = row_more h f (take k highers) a b d y o row at_y told (sym long_q ∙ none) in (
            subst (λ (xs : List ℕ). IsDownPart h q done x xs call.new.labels (g.K.Linking.links call.new.chain)) (sym more)
                (subst (λ (ls : List (Option ℕ)). IsDownPart h q done x (take k highers ++ (y ∷ [])) ls (g.K.Linking.links call.new.chain)) (sym labels_eq)
                (subst (λ (ks : List (Option (ℕ × ℕ))). IsDownPart h q done x (take k highers ++ (y ∷ [])) (seconds_after labels (m + x) answer) ks) (sym links_eq) part)),
            subst (λ (xs : List ℕ). IsRow h f xs a d) (sym more) next,
          );
    }

pub returns-then-is_some-clause-ready : goal.returns-then-is_some-clause-ready
returns-then-is_some-clause-ready g c =
    let h = g.R.Relaxer.hierarchy c.args.relaxer.now in
    let allows = g.L.Limits.allows c.args.limits.now in
    let m = h.network.nodes in
    let x = c.args.below.rank in
    let ranks : c.args.graph.now.ranks ≡ m = ap (λ (v : ChordalValue). v.ranks) c.requires.graph.0 in
    let nodes : c.ranks-nodes.result ≡ m = c.ranks-nodes.ensures.count ∙ ranks in
    let i = c.edges.invariant in
    let k = c.edges.higher-index in
    let highers = c.up-highers.result.now in
    let lt : k < length highers = omega arith in
    let y = get_or highers k 0 in
    let at : slice_get (up_of h.edges x) k ≡ Some y = subst (λ (xs : List ℕ). slice_get xs k ≡ Some y) i.highers (slice_get-get_or highers k 0 lt) in
    let facts = row_edge h c.requires.graph.1 x k y at in
    let up = facts.2 in
    let within = facts.3 in
    let labels = c.edges.labels in
    let links = g.K.Linking.links c.edges.chain in
    let edge = c.edges.edge in
    let there_ : edge < length h.edges = subst (λ (j : ℕ). j < length h.edges) (sym i.edge) facts.1 in
    let call = c.relax_into-long in
    let allowed = allows (m + x) in
    let answer = answer_in h allowed edge Down (second_at labels (m + y)) in
    let labels_eq : call.new.labels ≡ seconds_after labels (m + x) answer =
    subst (λ (n : ℕ). call.new.labels ≡ seconds_after labels (n + x) (answer_in h (allows (n + x)) edge Down (second_at labels (n + y)))) nodes
    (subst (λ (v : HierarchyValue). call.new.labels ≡ seconds_after labels (c.ranks-nodes.result + x)
    (answer_in v (allows (c.ranks-nodes.result + x)) edge Down (second_at labels (c.ranks-nodes.result + y)))) i.stays call.ensures.labels) in
    let links_eq : g.K.Linking.links call.new.chain ≡ links_after labels links (m + y) edge (m + x) answer =
    subst (λ (n : ℕ). (g.K.Linking.links call.new.chain) ≡ links_after labels links (n + y) edge (n + x) (answer_in h (allows (n + x)) edge Down (second_at labels (n + y)))) nodes
    (subst (λ (v : HierarchyValue). (g.K.Linking.links call.new.chain) ≡ links_after labels links (c.ranks-nodes.result + y) edge (c.ranks-nodes.result + x)
    (answer_in v (allows (c.ranks-nodes.result + x)) edge Down (second_at labels (c.ranks-nodes.result + y)))) i.stays call.ensures.links) in
    let near = subst (λ (n : ℕ). IfSecond (second_at labels (n + y)) (λ at. IfAt (answer_in h (allows (n + x)) edge Down (Some at)) (λ (arrival : ℕ). arrival ≤ at + 2 ^ 38))) nodes
    (subst (λ (v : HierarchyValue). IfSecond (second_at labels (c.ranks-nodes.result + y))
    (λ at. IfAt (answer_in v (allows (c.ranks-nodes.result + x)) edge Down (Some at)) (λ (arrival : ℕ). arrival ≤ at + 2 ^ 38))) i.stays call.ensures.near) in
    let from_m : m + y < 2 * m = omega (arith, within) in
    let into_m : m + x < 2 * m = omega (arith, up, within) in
    let few : length h.edges ≤ MAX_EDGES = c.requires.graph.1.graph.few_edges in
    let small : edge < MAX_EDGES = omega (arith, few, there_) in
    let ready = relaxed_ready m labels links (g.K.Linking.links call.new.chain) (g.K.Linking.turned c.edges.chain) (g.K.Linking.turned call.new.chain) i.ready
    (m + y) edge (m + x) answer i.unturned from_m into_m small (turn_down m x y up within)
    (near_at h allowed edge Down (second_at labels (m + y)) near) links_eq in
    subst (λ (n : ℕ). IsReadyBy g.K.Linking.links g.K.Linking.turned n call.new.labels call.new.chain) (sym ranks)
    (subst (λ (ls : List (Option ℕ)). IsReadyBy g.K.Linking.links g.K.Linking.turned m ls call.new.chain) (sym labels_eq) ready)

pub returns-then-is_some-clause-over : goal.returns-then-is_some-clause-over
returns-then-is_some-clause-over g c =
    let h = g.R.Relaxer.hierarchy c.args.relaxer.now in
    let allows = g.L.Limits.allows c.args.limits.now in
    let m = h.network.nodes in
    let x = c.args.below.rank in
    let ranks : c.args.graph.now.ranks ≡ m = ap (λ (v : ChordalValue). v.ranks) c.requires.graph.0 in
    let nodes : c.ranks-nodes.result ≡ m = c.ranks-nodes.ensures.count ∙ ranks in
    let i = c.edges.invariant in
    let k = c.edges.higher-index in
    let highers = c.up-highers.result.now in
    let lt : k < length highers = omega arith in
    let y = get_or highers k 0 in
    let at : slice_get (up_of h.edges x) k ≡ Some y = subst (λ (xs : List ℕ). slice_get xs k ≡ Some y) i.highers (slice_get-get_or highers k 0 lt) in
    let facts = row_edge h c.requires.graph.1 x k y at in
    let up = facts.2 in
    let within = facts.3 in
    let labels = c.edges.labels in
    let links = g.K.Linking.links c.edges.chain in
    let edge = c.edges.edge in
    let number : number_from 0 h.edges x y ≡ Some edge = facts.0 ∙ ap (λ (j : ℕ). Some j) (sym i.edge) in
    let there_ : edge < length h.edges = subst (λ (j : ℕ). j < length h.edges) (sym i.edge) facts.1 in
    let call = c.relax_into-long in
    let ne : y ≢ x = λ same. absurd (omega (arith, same, up)) in
    let made = call_into (g.R.Relaxer.hierarchy c.edges.relaxer) allows labels (Some edge) Down (c.ranks-nodes.result + y) (c.ranks-nodes.result + x) in
    let own = call_into h allows labels (Some edge) Down (m + y) (m + x) in
    let same_call : made ≡ own =
    ap (λ (v : HierarchyValue). call_into v allows labels (Some edge) Down (c.ranks-nodes.result + y) (c.ranks-nodes.result + x)) i.stays
    ∙ ap (λ (n : ℕ). call_into h allows labels (Some edge) Down (n + y) (n + x)) nodes in
    let a = g.R.Relaxer.calls c.args.relaxer.now in
    let b = g.R.Relaxer.calls c.edges.relaxer in
    let d = g.R.Relaxer.calls call.new.relaxer in
    let told_own : AddsAll b d (calls_of_some own) = subst (λ (o : Option Call). AddsAll b d (calls_of_some o)) same_call call.ensures.told in
    let long_own : call.result ≡ first_long h (calls_of_some own) =
    subst (λ (v : HierarchyValue). call.result ≡ first_long v (calls_of_some made)) i.stays call.ensures.long
    ∙ ap (λ (o : Option Call). first_long h (calls_of_some o)) same_call in
    let rising : AllPairs (λ a b. a < b) highers = subst (AllPairs (λ a b. a < b)) (sym i.highers) (up_rising h.edges x c.requires.graph.1.graph.rising) in
    let lower : take k highers ≡ below y (up_of h.edges x) = below_taken highers k rising lt ∙ ap (below y) i.highers in
    let same : c.args.graph.now.edges ≡ h.edges = ap (λ (v : ChordalValue). v.edges) c.requires.graph.0 in
    let (long, is) = some_call call.result (search rules) in
    let (rest, whole) = cut_at highers k lt in
    λ q done sw p higher al.
    let all = subst (λ (es : List Ends). (z : ℕ) → HasEdge es x z → Contains done z) same higher in
    let before = (i.swept q done sw p all al).0 in
    let row = (i.swept q done sw p all al).1 in
    let member = all y (edge_from_up_of h.edges x y (member_at (up_of h.edges x) y k at)) in
    let s_q : second_at labels (m + y) ≡ second_of (down_made h q y) = (before.down y member ne).second in
    let r_q : second_at labels (m + x) ≡ second_of (made_down_after h q (below y (up_of h.edges x)) x) =
    before.here.second ∙ ap (λ (part : List ℕ). second_of (made_down_after h q part x)) lower in
    let f = λ (z : ℕ). down_call h q x z (number_from 0 h.edges x z) in
    let o = down_call h q x y (Some edge) in
    let own_q : own ≡ o =
    ap (λ (each : ℕ → ℕ → Bool). call_into h each labels (Some edge) Down (m + y) (m + x)) (sym al)
    ∙ ap (λ (t : Option ℕ). call_unless h t (call_if h (q.allows (m + x)) (call_at (Some edge) Down (second_at labels (m + y))))) r_q
    ∙ ap (λ (t : Option ℕ). call_unless h (second_of (made_down_after h q (below y (up_of h.edges x)) x)) (call_if h (q.allows (m + x)) (call_at (Some edge) Down t))) s_q in
    let told : AddsAll b d (calls_of_some o) = subst (λ (w : Option Call). AddsAll b d (calls_of_some w)) own_q told_own in
    let long_q : call.result ≡ first_long h (calls_of_some o) =
    long_own ∙ ap (λ (w : Option Call). first_long h (calls_of_some w)) own_q in
    let at_y : f y ≡ o = ap (down_call h q x y) number in
    let ends = row_ends h f (take k highers) a b d y o long rest (up_of h.edges x) row at_y told (sym long_q ∙ is) (sym i.highers ∙ whole) in
    record { ended = is ∙ sym ends.0; told = ends.1; swept = λ none. absurd (cc (none, is)) }

pub returns-clause-over : goal.returns-clause-over
returns-clause-over g c =
    let h = g.R.Relaxer.hierarchy c.args.relaxer.now in
    let x = c.args.below.rank in
    let i = c.edges.invariant in
    let same : c.args.graph.now.edges ≡ h.edges = ap (λ (v : ChordalValue). v.edges) c.requires.graph.0 in
    let whole : take c.edges.higher-index c.up-highers.result.now ≡ up_of h.edges x = take_full c.up-highers.result.now c.edges.higher-index (omega arith) ∙ i.highers in
    let a = g.R.Relaxer.calls c.args.relaxer.now in
    let b = g.R.Relaxer.calls c.edges.relaxer in
    λ q done sw p higher al.
    let (part0, row0) = i.swept q done sw p (subst (λ (es : List Ends). (y : ℕ) → HasEdge es x y → Contains done y) same higher) al in
    let f = λ (z : ℕ). down_call h q x z (number_from 0 h.edges x z) in
    let part = subst (λ (xs : List ℕ). IsDownPart h q done x xs c.edges.labels (g.K.Linking.links c.edges.chain)) whole part0 in
    let row = subst (λ (xs : List ℕ). IsRow h f xs a b) whole row0 in
    record {
      ended = sym row.short;
      told = row_whole h f (up_of h.edges x) a b row;
      swept = λ none. down_done h c.requires.graph.1 q done x c.edges.labels (g.K.Linking.links c.edges.chain) p part;
    }
