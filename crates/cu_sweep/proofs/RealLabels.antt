-- Each label of the sweeps is the arrival of a real walk: the roads of its calls, in their order.
use Rattle.std.proofs.Common.{◌≡◌, ◌≢◌, ◌∙◌, ◌⊎◌, refl, sym, ap, subst, arith, inl, inr}
use Rattle.std.proofs.Common.{ℕ, zero, suc, min, Bool, true, false, eqb, ltb, if◌then◌else◌, List, [], ◌∷◌, ◌++◌, Option, Some, None, length, map}
use Rattle.std.specs.Prelude.{slice_get}
use Rattle.std.proofs.lemmas.Bool.{cases_Bool, eqb-true}
use Rattle.std.proofs.lemmas.Grind.{flat_map-append}
use Rattle.std.proofs.lemmas.List.{append-nil}
use Rattle.std.proofs.lemmas.Option.{same_Some}
use Rattle.cu_model.specs.Roads.{drive}
use Rattle.cu_model.proofs.RoadLaws.{drive-append}
use Rattle.cu_chordal.specs.declared.graph.Ends.{Ends}
use Rattle.cu_chordal.specs.Graphs.{up_of}
use Rattle.cu_elimtree.specs.SweepArcs.{ancestors_in}
use Rattle.cu_interval.specs.declared.ways.Dir.{Dir}
use Rattle.cu_interval.specs.declared.ways.Dir.TheVariants.{Up, Down}
use Rattle.cu_interval.specs.declared.ways.Entry.{Entry}
use Rattle.cu_interval.specs.declared.relaxing.Call.{Call}
use Rattle.cu_interval.specs.declared.relaxing.Relaxed.{Relaxed}
use Rattle.cu_interval.specs.declared.relaxing.Relaxed.TheVariants.{At, NoWay, Long}
use Rattle.cu_interval.specs.Hierarchies.{HierarchyValue, IsHierarchy, start_of, end_of, graph_of, list_from, number_from}
use Rattle.cu_interval.specs.Unpacking.{answer_by, relaxed, relaxed_ends, unpacked_walk}
use Rattle.cu_interval.proofs.Lookups.{number_found}
use Rattle.cu_interval.proofs.Unpacked.{unpacked-low}
use Rattle.cu_unpack.specs.Answers.{walk_between, walk_over}
use Rattle.cu_sweep.specs.Labels.{Label, call_from, down_label, down_label_by, earlier_of, earliest}
use Rattle.cu_sweep.specs.Labels.{label_by, label_over, start_label, up_label, up_label_by}
use Rattle.cu_sweep.specs.Desks.{AreChained, roads_of}
use Rattle.cu_sweep.proofs.LabelLaws.{number_below}
use Rattle.cu_sweep.proofs.Peaks.{IsRankWalk}
use Rattle.cu_sweep.proofs.RankWalks.{below_walk, ranks_append}

-- the roads of a label's calls lead from the start to a rank, and arrive at the label's second; each call is asked when those before it arrive
abbrev pub LeadsTo : HierarchyValue → ℕ → ℕ → ℕ → Label → Type 0
LeadsTo h from second rank label =
    IsRankWalk h.network h.order from (roads_of h label.calls) rank × (drive h.network (roads_of h label.calls) second ≡ label.second)
    × AreChained h second label.calls

abbrev pub LeadsToIf : HierarchyValue → ℕ → ℕ → ℕ → Option Label → Type 0
LeadsToIf h from second rank o = (label : Label) → o ≡ Some label → LeadsTo h from second rank label

-- the edge that is found by its ends
pub edge_numbered : (h : HierarchyValue) (x y edge : ℕ) → number_from 0 h.edges x y ≡ Some edge
    → slice_get h.edges edge ≡ Some (record { low = x; high = y })
edge_numbered h x y edge e =
    let (j, is, at) = number_found 0 h.edges x y edge e in
    let same : j ≡ edge = omega (arith, is) in
    subst (λ (k : ℕ). slice_get h.edges k ≡ Some (record { low = x; high = y })) same at

same_second : (a b : ℕ) → At a ≡ At b → a ≡ b
same_second a b e = cc e

-- an answer that arrives is that of a walk
answer_walk : (h : HierarchyValue) (entries : List Entry) (walk : List ℕ) (t s : ℕ)
    → answer_by h entries walk t ≡ At s → (entries ≢ []) × (drive h.network walk t ≡ s)
answer_walk h [] walk t s e = absurd (cc e)
answer_walk h (entry ∷ entries) walk t s e =
    elim (cases_Bool (ltb (length walk) h.network.nodes)) [
      | inl short ↦ ((λ none. absurd (cc none)), same_second (drive h.network walk t) s (rw short at e))
      | inr long ↦ let other : Long ≡ At s = rw long at e in absurd (cc other)
    ]

-- an edge in a direction leads from u to v
record IsEdgeFrom (h : HierarchyValue) (edge : ℕ) (dir : Dir) (u v : ℕ) : Type 0 where
  apart : u ≢ v
  ends : Ends
  at : slice_get h.edges edge ≡ Some ends
  start : start_of ends dir ≡ u
  stop : end_of ends dir ≡ v

-- the walk of a call that arrives
record IsCallWalk (h : HierarchyValue) (u v edge : ℕ) (dir : Dir) (t s : ℕ) : Type 0 where
  walk : IsRankWalk h.network h.order u (walk_over h edge dir t) v
  arrives : drive h.network (walk_over h edge dir t) t ≡ s

call_walk : (h : HierarchyValue) → IsHierarchy h → (u v edge : ℕ) (dir : Dir) (t s : ℕ) → IsEdgeFrom h edge dir u v
    → relaxed h edge dir t ≡ At s → IsCallWalk h u v edge dir t s
call_walk h f u v edge dir t s j e =
    let ends = j.ends in
    let last = end_of ends dir in
    let walk : walk_over h edge dir t ≡ unpacked_walk h u v t =
    ap (λ (o : Option Ends). walk_between h o dir t) j.at ∙ ap (λ (x : ℕ). unpacked_walk h x last t) j.start
    ∙ ap (λ (y : ℕ). unpacked_walk h u y t) j.stop in
    let answer : answer_by h (list_from h u v) (unpacked_walk h u v t) t ≡ At s =
    subst (λ (y : ℕ). answer_by h (list_from h u y) (unpacked_walk h u y t) t ≡ At s) j.stop
    (subst (λ (x : ℕ). answer_by h (list_from h x last) (unpacked_walk h x last t) t ≡ At s) j.start
    (sym (ap (λ (o : Option Ends). relaxed_ends h o dir t) j.at) ∙ e)) in
    let (some, arrives) = answer_walk h (list_from h u v) (unpacked_walk h u v t) t s answer in
    let low = unpacked-low h f u v t j.apart some in
    let on = below_walk h.network h.order (min u v) u (unpacked_walk h u v t) v low.1 in
    record {
      walk = subst (λ (w : List ℕ). IsRankWalk h.network h.order u w v) (sym walk) on;
      arrives = ap (λ (w : List ℕ). drive h.network w t) walk ∙ arrives;
    }

-- the roads of one call more come behind
roads_more : (h : HierarchyValue) (calls : List Call) (edge : ℕ) (dir : Dir) (t : ℕ)
    → roads_of h (calls ++ (call_from edge dir t ∷ [])) ≡ roads_of h calls ++ walk_over h edge dir t
roads_more h calls edge dir t =
    let walk : Call → List ℕ = λ call. walk_over h call.edge call.dir call.second in
    flat_map-append walk calls (call_from edge dir t ∷ [])
    ∙ ap (λ (roads : List ℕ). roads_of h calls ++ roads) (append-nil (walk_over h edge dir t))

-- a call that is asked when those before it arrive
chained_more : (h : HierarchyValue) (calls : List Call) (call : Call) (t : ℕ) → AreChained h t calls → call.second ≡ drive h.network (roads_of h calls) t
    → AreChained h t (calls ++ (call ∷ []))
chained_more h [] call t chained is = (is, tt)
chained_more h (other ∷ calls) call t (same, more) is =
    let g = h.network in
    let walk = walk_over h other.edge other.dir other.second in
    (same, chained_more h calls call (drive g walk t) more (is ∙ drive-append g walk (roads_of h calls) t))

-- one call more
called : (h : HierarchyValue) (from second u v edge : ℕ) (dir : Dir) (before : Label) → LeadsTo h from second u before → (s : ℕ)
    → IsCallWalk h u v edge dir before.second s
    → LeadsTo h from second v (record { second = s; calls = before.calls ++ (call_from edge dir before.second ∷ []) })
called h from second u v edge dir before b s c =
    let g = h.network in
    let first = roads_of h before.calls in
    let on = walk_over h edge dir before.second in
    let roads = roads_more h before.calls edge dir before.second in (
      subst (λ (w : List ℕ). IsRankWalk g h.order from w v) (sym roads) (ranks_append g h.order from u v first on b.0 c.walk),
      ap (λ (w : List ℕ). drive g w second) roads ∙ drive-append g first on second ∙ ap (drive g on) b.1 ∙ c.arrives,
      chained_more h before.calls (call_from edge dir before.second) second b.2 (sym b.1),
    )

by_answer : (h : HierarchyValue) (from second v : ℕ) (r : Relaxed) (calls : List Call)
    → ((s : ℕ) → r ≡ At s → LeadsTo h from second v (record { second = s; calls = calls }))
    → LeadsToIf h from second v (label_by r calls)
by_answer h from second v (At s) calls each label e =
    subst (LeadsTo h from second v) (same_Some (record { second = s; calls = calls }) label e) (each s refl)
by_answer h from second v NoWay calls each label e = absurd (cc e)
by_answer h from second v Long calls each label e = absurd (cc e)

module _ (h : HierarchyValue) (f : IsHierarchy h) where
  -- the label that a call gives leads to where its edge leads
  over_leads : (from second u v edge : ℕ) (dir : Dir) → IsEdgeFrom h edge dir u v
      → (o : Option Label) → LeadsToIf h from second u o → LeadsToIf h from second v (label_over h (Some edge) dir o)
  over_leads from second u v edge dir j None b = λ label e. absurd (cc e)
  over_leads from second u v edge dir j (Some before) b =
      by_answer h from second v (relaxed h edge dir before.second) (before.calls ++ (call_from edge dir before.second ∷ []))
      (λ s is. called h from second u v edge dir before (b before refl) s (call_walk h f u v edge dir before.second s j is))

  up_leads : (from second x y : ℕ) (o : Option Label) → LeadsToIf h from second x o
      → (n : Option ℕ) → number_from 0 h.edges x y ≡ n → LeadsToIf h from second y (label_over h n Up o)
  up_leads from second x y o b None e = λ label is. absurd (cc is)
  up_leads from second x y o b (Some edge) e =
      let lt = number_below h f x y edge e in
      let joins : IsEdgeFrom h edge Up x y = record {
        apart = λ same. absurd (omega (arith, lt, same));
        ends = record { low = x; high = y };
        at = edge_numbered h x y edge e;
        start = refl;
        stop = refl;
      } in
      over_leads from second x y edge Up joins o b

  down_leads : (from second x y : ℕ) (o : Option Label) → LeadsToIf h from second y o
      → (n : Option ℕ) → number_from 0 h.edges x y ≡ n → LeadsToIf h from second x (label_over h n Down o)
  down_leads from second x y o b None e = λ label is. absurd (cc is)
  down_leads from second x y o b (Some edge) e =
      let lt = number_below h f x y edge e in
      let joins : IsEdgeFrom h edge Down y x = record {
        apart = λ same. absurd (omega (arith, lt, same));
        ends = record { low = x; high = y };
        at = edge_numbered h x y edge e;
        start = refl;
        stop = refl;
      } in
      over_leads from second y x edge Down joins o b

start_leads_if : (h : HierarchyValue) (from second y : ℕ) (b : Bool) → (b ≡ true → from ≡ y)
    → LeadsToIf h from second y (if b then Some (record { second = second; calls = [] }) else None)
start_leads_if h from second y true same label e =
    subst (LeadsTo h from second y) (same_Some (record { second = second; calls = [] }) label e) (same refl, refl, tt)
start_leads_if h from second y false same label e = absurd (cc e)

-- the start's own label leads there with no road
start_leads : (h : HierarchyValue) (from second y : ℕ) → LeadsToIf h from second y (start_label from second y)
start_leads h from second y = start_leads_if h from second y (eqb y from) (λ e. sym (eqb-true y from e))

earlier_one : (a b : Option Label) (label : Label) → earlier_of a b ≡ Some label → (a ≡ Some label) ⊎ (b ≡ Some label)
earlier_one None b label e = inr e
earlier_one (Some a) None label e = inl e
earlier_one (Some a) (Some b) label e =
    elim (cases_Bool (ltb b.second a.second)) [
      | inl soon ↦ inr (rw soon at e)
      | inr late ↦ inl (rw late at e)
    ]

-- the earliest label is one of them
earliest_leads : (h : HierarchyValue) (from second rank : ℕ) (f : ℕ → Option Label) (xs : List ℕ)
    → ((x : ℕ) → LeadsToIf h from second rank (f x)) → LeadsToIf h from second rank (earliest (map f xs))
earliest_leads h from second rank f [] each label e = absurd (cc e)
earliest_leads h from second rank f (x ∷ xs) each label e =
    elim (earlier_one (f x) (earliest (map f xs)) label e) [
      | inl first ↦ each x label first
      | inr later ↦ earliest_leads h from second rank f xs each label later
    ]

after_leads : (h : HierarchyValue) (from second rank : ℕ) (first : Option Label) (f : ℕ → Option Label) (xs : List ℕ)
    → LeadsToIf h from second rank first → ((x : ℕ) → LeadsToIf h from second rank (f x))
    → LeadsToIf h from second rank (earliest (first ∷ map f xs))
after_leads h from second rank first f xs start each label e =
    elim (earlier_one first (earliest (map f xs)) label e) [
      | inl is ↦ start label is
      | inr later ↦ earliest_leads h from second rank f xs each label later
    ]

module _ (h : HierarchyValue) (f : IsHierarchy h) where
  up_label-leads_by : (from second fuel y : ℕ)
      → LeadsToIf h from second y (up_label_by h from second fuel y)
  up_label-leads_by from second zero y = λ label e. absurd (cc e)
  up_label-leads_by from second (suc fuel) y =
      let before : ℕ → Option Label = up_label_by h from second fuel in
      after_leads h from second y (start_label from second y) (λ x. label_over h (number_from 0 h.edges x y) Up (before x))
      (ancestors_in (graph_of h) from) (start_leads h from second y)
      (λ x. up_leads h f from second x y (before x) (up_label-leads_by from second fuel x) (number_from 0 h.edges x y) refl)

  -- an upward label leads to its rank
  pub up_label-leads : (from second y : ℕ)
      → LeadsToIf h from second y (up_label h from second y)
  up_label-leads from second y = up_label-leads_by from second (suc y) y

  down_label-leads_by : (from second fuel x : ℕ)
      → LeadsToIf h from second x (down_label_by h from second fuel x)
  down_label-leads_by from second zero x = λ label e. absurd (cc e)
  down_label-leads_by from second (suc fuel) x =
      let before : ℕ → Option Label = down_label_by h from second fuel in
      after_leads h from second x (up_label h from second x) (λ y. label_over h (number_from 0 h.edges x y) Down (before y))
      (up_of h.edges x) (up_label-leads from second x)
      (λ y. down_leads h f from second x y (before y) (down_label-leads_by from second fuel y) (number_from 0 h.edges x y) refl)

  -- and so does a downward label
  pub down_label-leads : (from second x : ℕ)
      → LeadsToIf h from second x (down_label h from second x)
  down_label-leads from second x = down_label-leads_by from second h.network.nodes x
