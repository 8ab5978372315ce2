use Rattle.std.proofs.Common.{Bool, ◌≡◌, ◌≢◌, ◌≤◌, ◌<◌, ◌+◌, ◌*◌, ◌^◌, ◌∙◌, ◌++◌, ℕ, List, [], ◌∷◌, Option, Some, None, refl, sym, ap, subst, arith, rules, length, take, get_or, false}
use Rattle.std.specs.Prelude.{slice_get}
use Rattle.std.specs.List.{AllPairs, Contains}
use Rattle.std.proofs.lemmas.List.{take_more}
use Rattle.std.proofs.lemmas.Option.{slice_get-get_or}
use Rattle.cu_chordal.specs.declared.graph.TheConstants.{MAX_EDGES}
use Rattle.cu_chordal.specs.Graphs.{ChordalValue, first_edge_of, up_of}
use Rattle.cu_chordal.proofs.Tables.{up_rising}
use Rattle.cu_interval.specs.declared.ways.Dir.TheVariants.{Up}
use Rattle.cu_interval.specs.declared.relaxing.Call.{Call}
use Rattle.cu_interval.specs.declared.relaxing.Relaxed.{Relaxed}
use Rattle.cu_interval.specs.Calls.{IfAt}
use Rattle.cu_interval.specs.Hierarchies.{HierarchyValue, number_from}
use Rattle.cu_sweep.specs.Sweeps.{AddsAll, call_at, call_unless, first_long, second_of}
use Rattle.cu_sweep.specs.Places.{calls_of_some, second_at}
use Rattle.cu_sweep.specs.Steps.Ready.{IsReadyBy}
use Rattle.cu_sweep.specs.Steps.Made.{call_if}
use Rattle.cu_sweep.specs.Steps.Sweeping.{IfSecond, answer_in, call_into, links_after, seconds_after}
use Rattle.cu_sweep.proofs.Readying.{apart, keeps_links, near_at, relaxed_ready, time_left, turn_up}
use Rattle.cu_sweep.proofs.Passing.{cut_at, not_yet, take_full}
use Rattle.cu_sweep.proofs.Rows.{IsRow, row_edge, row_ends, row_more, row_none, row_whole, some_call, no_call}
use Rattle.cu_sweep.proofs.Holding.{seconds_other}
use Rattle.cu_sweep.proofs.UpRows.{IsUpPart, member_before, member_last, up_begun, up_done, up_more}
use Rattle.cu_sweep.proofs.PassedOver.{row_up_none, up_passed_over}
use Rattle.cu_sweep.proofs.sweeping.lead_from.Goals as goal

pub returns-then-not-leads_on-clause-long : goal.returns-then-not-leads_on-clause-long
returns-then-not-leads_on-clause-long g c =
    let h = g.R.Relaxer.hierarchy c.args.relaxer.now in
    let allows = g.L.Limits.allows c.args.limits.now in
    let labels = c.args.labels.now in
    let late : IfSecond (second_at labels c.args.rank) (λ at. allows c.args.rank at ≡ false) = search rules in
    let row = row_up_none h allows c.args.rank c.requires.leads (second_at labels c.args.rank) (second_at labels) (g.R.Relaxer.calls c.args.relaxer.now) late in
    sym row.short

pub returns-then-not-leads_on-clause-told : goal.returns-then-not-leads_on-clause-told
returns-then-not-leads_on-clause-told g c =
    let h = g.R.Relaxer.hierarchy c.args.relaxer.now in
    let allows = g.L.Limits.allows c.args.limits.now in
    let labels = c.args.labels.now in
    let calls = g.R.Relaxer.calls c.args.relaxer.now in
    let x = c.args.rank in
    let late : IfSecond (second_at labels x) (λ at. allows x at ≡ false) = search rules in
    let row = row_up_none h allows x c.requires.leads (second_at labels x) (second_at labels) calls late in
    row_whole h (λ y. call_into h allows labels (number_from 0 h.edges x y) Up x y) (up_of h.edges x) calls calls row

pub returns-then-not-leads_on-clause-swept : goal.returns-then-not-leads_on-clause-swept
returns-then-not-leads_on-clause-swept g c =
    let h = g.R.Relaxer.hierarchy c.args.relaxer.now in
    let allows = g.L.Limits.allows c.args.limits.now in
    let labels = c.args.labels.now in
    let late : IfSecond (second_at labels c.args.rank) (λ at. allows c.args.rank at ≡ false) = search rules in
    λ q done swept passed final al none.
    up_passed_over h allows c.args.rank c.requires.leads q done labels (g.K.Linking.links c.args.chain.now) al swept passed final late

pub edges-init : goal.edges-init
edges-init g c =
    let h = g.R.Relaxer.hierarchy c.args.relaxer.now in
    let allows = g.L.Limits.allows c.args.limits.now in
    let same : c.args.graph.now.edges ≡ h.edges = ap (λ (k : ChordalValue). k.edges) c.requires.graph.0 in
    record {
      ready = c.requires.ready;
      unturned = c.requires.unturned;
      stays = refl;
      highers = c.up-highers.ensures.exact ∙ ap (λ es. up_of es c.args.rank) same;
      edge = let e = c.first_edge-edge.ensures.count ∙ ap (λ es. first_edge_of es c.args.rank) same in omega (arith, e);
      source = refl;
      rest = λ z none. refl;
      row = row_none h (λ y. call_into h allows c.args.labels.now (number_from 0 h.edges c.args.rank y) Up c.args.rank y) (g.R.Relaxer.calls c.args.relaxer.now);
      swept = λ q done f p e al. up_begun h q done c.args.rank c.args.labels.now (g.K.Linking.links c.args.chain.now) f;
    }

pub relax_into-long-requires-clause-apart : goal.relax_into-long-requires-clause-apart
relax_into-long-requires-clause-apart g c =
    let h = g.R.Relaxer.hierarchy c.args.relaxer.now in
    let i = c.edges.invariant in
    let k = c.edges.higher-index in
    let highers = c.up-highers.result.now in
    let lt : k < length highers = omega arith in
    let y = get_or highers k 0 in
    let at : slice_get (up_of h.edges c.args.rank) k ≡ Some y = subst (λ (xs : List ℕ). slice_get xs k ≡ Some y) i.highers (slice_get-get_or highers k 0 lt) in
    let facts = row_edge h c.requires.graph.1 c.args.rank k y at in
    let nodes : c.args.graph.now.ranks ≡ h.network.nodes = ap (λ (v : ChordalValue). v.ranks) c.requires.graph.0 in
    let up = facts.2 in
    let within = facts.3 in
    apart c.args.graph.now.ranks (g.K.Linking.links c.edges.chain) c.args.rank y (i.ready.rises i.unturned) (turn_up c.args.graph.now.ranks c.args.rank y up (omega (arith, within, nodes)))

pub edges-preserved : goal.edges-preserved
edges-preserved g c =
    let h = g.R.Relaxer.hierarchy c.args.relaxer.now in
    let allows = g.L.Limits.allows c.args.limits.now in
    let i = c.edges.invariant in
    let k = c.edges.higher-index in
    let x = c.args.rank in
    let highers = c.up-highers.result.now in
    let lt : k < length highers = omega arith in
    let y = get_or highers k 0 in
    let at : slice_get (up_of h.edges x) k ≡ Some y = subst (λ (xs : List ℕ). slice_get xs k ≡ Some y) i.highers (slice_get-get_or highers k 0 lt) in
    let facts = row_edge h c.requires.graph.1 x k y at in
    let n = c.args.graph.now.ranks in
    let nodes : n ≡ h.network.nodes = ap (λ (v : ChordalValue). v.ranks) c.requires.graph.0 in
    let up = facts.2 in
    let within = facts.3 in
    let within_n : y < n = omega (arith, within, nodes) in
    let x_n : x < 2 * n = omega (arith, up, within_n) in
    let edge = c.edges.edge in
    let labels = c.edges.labels in
    let links = g.K.Linking.links c.edges.chain in
    let number : number_from 0 h.edges x y ≡ Some edge = facts.0 ∙ ap (λ (m : ℕ). Some m) (sym i.edge) in
    let there_ : edge < length h.edges = subst (λ (m : ℕ). m < length h.edges) (sym i.edge) facts.1 in
    let call = c.relax_into-long in
    let allowed = allows y in
    let answer = answer_in h allowed edge Up (second_at labels x) in
    let labels_eq : call.new.labels ≡ seconds_after labels y answer =
    subst (λ (v : HierarchyValue). call.new.labels ≡ seconds_after labels y (answer_in v allowed edge Up (second_at labels x))) i.stays call.ensures.labels in
    let links_eq : g.K.Linking.links call.new.chain ≡ links_after labels links x edge y answer =
    subst (λ (v : HierarchyValue). (g.K.Linking.links call.new.chain) ≡ links_after labels links x edge y (answer_in v allowed edge Up (second_at labels x))) i.stays call.ensures.links in
    let none : call.result ≡ None = no_call call.result (search rules) in
    let near = subst (λ (v : HierarchyValue). IfSecond (second_at labels x) (λ at. IfAt (answer_in v allowed edge Up (Some at)) (λ (arrival : ℕ). arrival ≤ at + 2 ^ 38))) i.stays call.ensures.near in
    let few : length h.edges ≤ MAX_EDGES = c.requires.graph.1.graph.few_edges in
    let small : edge < MAX_EDGES = omega (arith, few, there_) in
    let ready = relaxed_ready n labels links (g.K.Linking.links call.new.chain) (g.K.Linking.turned c.edges.chain) (g.K.Linking.turned call.new.chain) i.ready
    x edge y answer i.unturned x_n (omega (arith, within_n)) small (turn_up n x y up within_n)
    (near_at h allowed edge Up (second_at labels x) near) links_eq in
    let apart_ : x ≢ y = λ same. absurd (omega (arith, same, up)) in
    let s = second_at c.args.labels.now x in
    let f = λ (z : ℕ). call_into h allows c.args.labels.now (number_from 0 h.edges x z) Up x z in
    let o = call_into h allows c.args.labels.now (Some edge) Up x y in
    let new = not_yet highers k (subst (AllPairs (λ a b. a < b)) (sym i.highers) (up_rising h.edges x c.requires.graph.1.graph.rising)) lt in
    let labels_now = c.edges.labels in
    let made = call_into (g.R.Relaxer.hierarchy c.edges.relaxer) allows labels_now (Some edge) Up x y in
    let same_call : made ≡ o =
    ap (λ (v : HierarchyValue). call_into v allows labels_now (Some edge) Up x y) i.stays
    ∙ ap (λ (t : Option ℕ). call_unless h (second_at labels_now y) (call_if h (allows y) (call_at (Some edge) Up t))) i.source
    ∙ ap (λ (t : Option ℕ). call_unless h t (call_if h (allows y) (call_at (Some edge) Up s))) (i.rest y new) in
    let told : AddsAll (g.R.Relaxer.calls c.edges.relaxer) (g.R.Relaxer.calls call.new.relaxer) (calls_of_some o) =
    subst (λ (w : Option Call). AddsAll (g.R.Relaxer.calls c.edges.relaxer) (g.R.Relaxer.calls call.new.relaxer) (calls_of_some w)) same_call call.ensures.told in
    let long_eq : call.result ≡ first_long h (calls_of_some o) =
    subst (λ (v : HierarchyValue). call.result ≡ first_long v (calls_of_some made)) i.stays call.ensures.long
    ∙ ap (λ (w : Option Call). first_long h (calls_of_some w)) same_call in
    let quiet : first_long h (calls_of_some o) ≡ None = sym long_eq ∙ none in
    let row = row_more h f (take k highers) (g.R.Relaxer.calls c.args.relaxer.now) (g.R.Relaxer.calls c.edges.relaxer) (g.R.Relaxer.calls call.new.relaxer) y o i.row
    (ap (λ (m : Option ℕ). call_into h allows c.args.labels.now m Up x y) number) told quiet in
    let more : take (k + 1) highers ≡ take k highers ++ (y ∷ []) = take_more highers k 0 lt in
    let long_labels = i.ready.long in
    let long_links = i.ready.places in
    record {
      ready = subst (λ (ls : List (Option ℕ)). IsReadyBy g.K.Linking.links g.K.Linking.turned n ls call.new.chain) (sym labels_eq) ready;
      unturned = call.ensures.unturned;
      stays = call.ensures.stays ∙ i.stays;
      highers = i.highers;
      edge = let e = i.edge in omega (arith, e);
      source = ap (λ (ls : List (Option ℕ)). second_at ls x) labels_eq ∙ seconds_other labels y x answer apart_ ∙ i.source;
      rest = λ z none.
          let apart_z : z ≢ y = λ same.
          none (subst (λ (xs : List ℕ). Contains xs z) (sym more) (subst (Contains (take k highers ++ (y ∷ []))) (sym same) (member_last (take k highers) y))) in
          ap (λ (ls : List (Option ℕ)). second_at ls z) labels_eq ∙ seconds_other labels y z answer apart_z
          ∙ i.rest z (λ m. none (subst (λ (xs : List ℕ). Contains xs z) (sym more) (member_before (take k highers) y z m)));
      row = subst (λ (part : List ℕ). IsRow h f part (g.R.Relaxer.calls c.args.relaxer.now) (g.R.Relaxer.calls call.new.relaxer)) (sym more) row;
      swept = λ q done sw p fin al.
          let same_answer : answer_in h (q.allows y) edge Up (second_at labels x) ≡ answer = ap (λ (each : ℕ → ℕ → Bool). answer_in h (each y) edge Up (second_at labels x)) al in
          let part0 = up_more h q done x y edge (take k highers) labels links (i.swept q done sw p fin al) new up within (omega (arith, within_n, long_labels))
          (λ kept. let all = long_links (keeps_links g.K.Linking.links c.edges.chain kept) in omega (arith, within_n, all)) number there_
          (i.source ∙ (sw x p).second ∙ ap second_of fin) (time_left n labels x (second_at labels x) i.ready.few i.ready.near x_n refl) p in
          let part = subst (λ (r : Relaxed). IsUpPart h q done x (take k highers ++ (y ∷ [])) (seconds_after labels y r) (links_after labels links x edge y r)) same_answer part0 in
          subst (λ (xs : List ℕ). IsUpPart h q done x xs call.new.labels (g.K.Linking.links call.new.chain)) (sym more)
          (subst (λ (ls : List (Option ℕ)). IsUpPart h q done x (take k highers ++ (y ∷ [])) ls (g.K.Linking.links call.new.chain)) (sym labels_eq)
          (subst (λ (ks : List (Option (ℕ × ℕ))). IsUpPart h q done x (take k highers ++ (y ∷ [])) (seconds_after labels y answer) ks) (sym links_eq) part));
    }

pub returns-clause-told : goal.returns-clause-told
returns-clause-told g c =
    let h = g.R.Relaxer.hierarchy c.args.relaxer.now in
    let allows = g.L.Limits.allows c.args.limits.now in
    let i = c.edges.invariant in
    let f = λ (z : ℕ). call_into h allows c.args.labels.now (number_from 0 h.edges c.args.rank z) Up c.args.rank z in
    let all : take c.edges.higher-index c.up-highers.result.now ≡ up_of h.edges c.args.rank = take_full c.up-highers.result.now c.edges.higher-index (omega arith) ∙ i.highers in
    row_whole h f (up_of h.edges c.args.rank) (g.R.Relaxer.calls c.args.relaxer.now) (g.R.Relaxer.calls c.edges.relaxer)
    (subst (λ (part : List ℕ). IsRow h f part (g.R.Relaxer.calls c.args.relaxer.now) (g.R.Relaxer.calls c.edges.relaxer)) all i.row)

pub returns-clause-swept : goal.returns-clause-swept
returns-clause-swept g c =
    let h = g.R.Relaxer.hierarchy c.args.relaxer.now in
    let i = c.edges.invariant in
    let all : take c.edges.higher-index c.up-highers.result.now ≡ up_of h.edges c.args.rank = take_full c.up-highers.result.now c.edges.higher-index (omega arith) ∙ i.highers in
    λ q done sw p fin al none.
    up_done h c.requires.graph.1 q done c.args.rank c.edges.labels (g.K.Linking.links c.edges.chain)
    (subst (λ (part : List ℕ). IsUpPart h q done c.args.rank part c.edges.labels (g.K.Linking.links c.edges.chain)) all (i.swept q done sw p fin al))

pub returns-then-is_some-clause-long : goal.returns-then-is_some-clause-long
returns-then-is_some-clause-long g c =
    let h = g.R.Relaxer.hierarchy c.args.relaxer.now in
    let allows = g.L.Limits.allows c.args.limits.now in
    let i = c.edges.invariant in
    let k = c.edges.higher-index in
    let x = c.args.rank in
    let highers = c.up-highers.result.now in
    let lt : k < length highers = omega arith in
    let y = get_or highers k 0 in
    let at : slice_get (up_of h.edges x) k ≡ Some y = subst (λ (xs : List ℕ). slice_get xs k ≡ Some y) i.highers (slice_get-get_or highers k 0 lt) in
    let facts = row_edge h c.requires.graph.1 x k y at in
    let edge = c.edges.edge in
    let number : number_from 0 h.edges x y ≡ Some edge = facts.0 ∙ ap (λ (m : ℕ). Some m) (sym i.edge) in
    let call = c.relax_into-long in
    let s = second_at c.args.labels.now x in
    let f = λ (z : ℕ). call_into h allows c.args.labels.now (number_from 0 h.edges x z) Up x z in
    let o = call_into h allows c.args.labels.now (Some edge) Up x y in
    let new = not_yet highers k (subst (AllPairs (λ a b. a < b)) (sym i.highers) (up_rising h.edges x c.requires.graph.1.graph.rising)) lt in
    let labels_now = c.edges.labels in
    let made = call_into (g.R.Relaxer.hierarchy c.edges.relaxer) allows labels_now (Some edge) Up x y in
    let same_call : made ≡ o =
    ap (λ (v : HierarchyValue). call_into v allows labels_now (Some edge) Up x y) i.stays
    ∙ ap (λ (t : Option ℕ). call_unless h (second_at labels_now y) (call_if h (allows y) (call_at (Some edge) Up t))) i.source
    ∙ ap (λ (t : Option ℕ). call_unless h t (call_if h (allows y) (call_at (Some edge) Up s))) (i.rest y new) in
    let (long, is) = some_call call.result (search rules) in
    let told : AddsAll (g.R.Relaxer.calls c.edges.relaxer) (g.R.Relaxer.calls call.new.relaxer) (calls_of_some o) =
    subst (λ (w : Option Call). AddsAll (g.R.Relaxer.calls c.edges.relaxer) (g.R.Relaxer.calls call.new.relaxer) (calls_of_some w)) same_call call.ensures.told in
    let long_eq : call.result ≡ first_long h (calls_of_some o) =
    subst (λ (v : HierarchyValue). call.result ≡ first_long v (calls_of_some made)) i.stays call.ensures.long
    ∙ ap (λ (w : Option Call). first_long h (calls_of_some w)) same_call in
    let first : first_long h (calls_of_some o) ≡ Some long = sym long_eq ∙ is in
    let (rest, whole) = cut_at highers k lt in
    let ends = row_ends h f (take k highers) (g.R.Relaxer.calls c.args.relaxer.now) (g.R.Relaxer.calls c.edges.relaxer) (g.R.Relaxer.calls call.new.relaxer) y o long rest (up_of h.edges x) i.row
    (ap (λ (m : Option ℕ). call_into h allows c.args.labels.now m Up x y) number) told first (sym i.highers ∙ whole) in
    is ∙ sym ends.0

pub returns-then-is_some-clause-told : goal.returns-then-is_some-clause-told
returns-then-is_some-clause-told g c =
    let h = g.R.Relaxer.hierarchy c.args.relaxer.now in
    let allows = g.L.Limits.allows c.args.limits.now in
    let i = c.edges.invariant in
    let k = c.edges.higher-index in
    let x = c.args.rank in
    let highers = c.up-highers.result.now in
    let lt : k < length highers = omega arith in
    let y = get_or highers k 0 in
    let at : slice_get (up_of h.edges x) k ≡ Some y = subst (λ (xs : List ℕ). slice_get xs k ≡ Some y) i.highers (slice_get-get_or highers k 0 lt) in
    let facts = row_edge h c.requires.graph.1 x k y at in
    let edge = c.edges.edge in
    let number : number_from 0 h.edges x y ≡ Some edge = facts.0 ∙ ap (λ (m : ℕ). Some m) (sym i.edge) in
    let call = c.relax_into-long in
    let s = second_at c.args.labels.now x in
    let f = λ (z : ℕ). call_into h allows c.args.labels.now (number_from 0 h.edges x z) Up x z in
    let o = call_into h allows c.args.labels.now (Some edge) Up x y in
    let new = not_yet highers k (subst (AllPairs (λ a b. a < b)) (sym i.highers) (up_rising h.edges x c.requires.graph.1.graph.rising)) lt in
    let labels_now = c.edges.labels in
    let made = call_into (g.R.Relaxer.hierarchy c.edges.relaxer) allows labels_now (Some edge) Up x y in
    let same_call : made ≡ o =
    ap (λ (v : HierarchyValue). call_into v allows labels_now (Some edge) Up x y) i.stays
    ∙ ap (λ (t : Option ℕ). call_unless h (second_at labels_now y) (call_if h (allows y) (call_at (Some edge) Up t))) i.source
    ∙ ap (λ (t : Option ℕ). call_unless h t (call_if h (allows y) (call_at (Some edge) Up s))) (i.rest y new) in
    let (long, is) = some_call call.result (search rules) in
    let told : AddsAll (g.R.Relaxer.calls c.edges.relaxer) (g.R.Relaxer.calls call.new.relaxer) (calls_of_some o) =
    subst (λ (w : Option Call). AddsAll (g.R.Relaxer.calls c.edges.relaxer) (g.R.Relaxer.calls call.new.relaxer) (calls_of_some w)) same_call call.ensures.told in
    let long_eq : call.result ≡ first_long h (calls_of_some o) =
    subst (λ (v : HierarchyValue). call.result ≡ first_long v (calls_of_some made)) i.stays call.ensures.long
    ∙ ap (λ (w : Option Call). first_long h (calls_of_some w)) same_call in
    let first : first_long h (calls_of_some o) ≡ Some long = sym long_eq ∙ is in
    let (rest, whole) = cut_at highers k lt in
    let ends = row_ends h f (take k highers) (g.R.Relaxer.calls c.args.relaxer.now) (g.R.Relaxer.calls c.edges.relaxer) (g.R.Relaxer.calls call.new.relaxer) y o long rest (up_of h.edges x) i.row
    (ap (λ (m : Option ℕ). call_into h allows c.args.labels.now m Up x y) number) told first (sym i.highers ∙ whole) in
    ends.1

pub returns-then-is_some-clause-ready : goal.returns-then-is_some-clause-ready
returns-then-is_some-clause-ready g c =
    let h = g.R.Relaxer.hierarchy c.args.relaxer.now in
    let allows = g.L.Limits.allows c.args.limits.now in
    let i = c.edges.invariant in
    let k = c.edges.higher-index in
    let x = c.args.rank in
    let highers = c.up-highers.result.now in
    let lt : k < length highers = omega arith in
    let y = get_or highers k 0 in
    let at : slice_get (up_of h.edges x) k ≡ Some y = subst (λ (xs : List ℕ). slice_get xs k ≡ Some y) i.highers (slice_get-get_or highers k 0 lt) in
    let facts = row_edge h c.requires.graph.1 x k y at in
    let n = c.args.graph.now.ranks in
    let nodes : n ≡ h.network.nodes = ap (λ (v : ChordalValue). v.ranks) c.requires.graph.0 in
    let up = facts.2 in
    let within = facts.3 in
    let within_n : y < n = omega (arith, within, nodes) in
    let x_n : x < 2 * n = omega (arith, up, within_n) in
    let edge = c.edges.edge in
    let labels = c.edges.labels in
    let links = g.K.Linking.links c.edges.chain in
    let number : number_from 0 h.edges x y ≡ Some edge = facts.0 ∙ ap (λ (m : ℕ). Some m) (sym i.edge) in
    let there_ : edge < length h.edges = subst (λ (m : ℕ). m < length h.edges) (sym i.edge) facts.1 in
    let call = c.relax_into-long in
    let allowed = allows y in
    let answer = answer_in h allowed edge Up (second_at labels x) in
    let labels_eq : call.new.labels ≡ seconds_after labels y answer =
    subst (λ (v : HierarchyValue). call.new.labels ≡ seconds_after labels y (answer_in v allowed edge Up (second_at labels x))) i.stays call.ensures.labels in
    let links_eq : g.K.Linking.links call.new.chain ≡ links_after labels links x edge y answer =
    subst (λ (v : HierarchyValue). (g.K.Linking.links call.new.chain) ≡ links_after labels links x edge y (answer_in v allowed edge Up (second_at labels x))) i.stays call.ensures.links in
    let near = subst (λ (v : HierarchyValue). IfSecond (second_at labels x) (λ at. IfAt (answer_in v allowed edge Up (Some at)) (λ (arrival : ℕ). arrival ≤ at + 2 ^ 38))) i.stays call.ensures.near in
    let few : length h.edges ≤ MAX_EDGES = c.requires.graph.1.graph.few_edges in
    let small : edge < MAX_EDGES = omega (arith, few, there_) in
    let ready = relaxed_ready n labels links (g.K.Linking.links call.new.chain) (g.K.Linking.turned c.edges.chain) (g.K.Linking.turned call.new.chain) i.ready
    x edge y answer i.unturned x_n (omega (arith, within_n)) small (turn_up n x y up within_n)
    (near_at h allowed edge Up (second_at labels x) near) links_eq in
    subst (λ (ls : List (Option ℕ)). IsReadyBy g.K.Linking.links g.K.Linking.turned n ls call.new.chain) (sym labels_eq) ready
