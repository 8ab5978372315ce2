-- Once all lists are built they make a built hierarchy.
use Rattle.std.proofs.Common.{◌≡◌, ◌≢◌, ◌<◌, ◌+◌, ◌*◌, ◌∙◌, ℕ, suc, List, [], Option, Some, refl, sym, ap, subst, arith, inl, inr, length, get_or, min, ltb, true, false}
use Rattle.std.specs.Prelude.{All, slice_get}
use Rattle.std.specs.Option.{option_map}
use Rattle.std.proofs.lemmas.Bool.{cases_lt}
use Rattle.std.proofs.lemmas.Option.{slice_get-get_or, slice_get_within}
use Rattle.cu_model.specs.Networks.{NetworkValue, IsNetwork}
use Rattle.cu_model.specs.Orders.{OrderValue, IsOrder}
use Rattle.cu_model.proofs.Begun.{begun_until}
use Rattle.cu_arrival.specs.declared.runs.Run.{Run}
use Rattle.cu_chordal.specs.declared.graph.Ends.{Ends}
use Rattle.cu_chordal.specs.Edges.{IsClosureOf}
use Rattle.cu_chordal.specs.Graphs.{ChordalValue, HasEdge, IsChordal}
use Rattle.cu_chordal.proofs.Members.{place_of}
use Rattle.cu_interval.specs.declared.ways.Dir.{Dir}
use Rattle.cu_interval.specs.declared.ways.Dir.TheVariants.{Up, Down}
use Rattle.cu_interval.specs.declared.ways.Entry.{Entry}
use Rattle.cu_interval.specs.declared.ways.Way.{Way}
use Rattle.cu_interval.specs.declared.ways.Way.TheVariants.{Road, Via}
use Rattle.cu_interval.specs.FirstWays.{IsBuiltList, IsCandidate}
use Rattle.cu_interval.specs.Hierarchies.{HierarchyValue, IsBuilt, IsHierarchyOf, IsWellFormed, end_of, entries_or_none, graph_of, list_from, list_number, list_of, number_from, start_of}
use Rattle.cu_interval.specs.Low.{HasLowWalk}
use Rattle.cu_interval.specs.WayLists.{IsWayList, way_in}
use Rattle.cu_interval.proofs.Lookups.{number_at}
use Rattle.cu_interval.proofs.Spelled.{entries_rise}
use Rattle.cu_interval.proofs.EndsLaws.{number_edge, number_within}
use Rattle.cu_interval.proofs.LowLists.{HasLeastBelow, built_some, low_edge, low_edge_back}
use Rattle.cu_runs.specs.Layers.{value_kept}
use Rattle.cu_customize.specs.Steps.Kept.{IsBuiltTo}
use Rattle.cu_customize.proofs.Keeping.{list_there}
use Rattle.cu_customize.proofs.LowFunctions.{least_low}

-- each entry is in force at its own second
own_second : (entries : List Entry) → IsWayList entries → (k : ℕ) (d : Entry) → k < length entries → way_in entries (get_or entries k d).from ≡ Some (get_or entries k d).way
own_second entries list k d inside =
    let found = begun_until (λ (e : Entry). e.from) entries (entries_rise entries list) d k (get_or entries k d).from inside (omega arith)
    (λ more.
    let sum : k + 1 ≡ suc k = omega arith in
    let step = entries_rise entries list k d (omega (arith, more)) in
    subst (λ (n : ℕ). (get_or entries k d).from < (get_or entries n d).from) sum step) in
    ap (option_map (λ (e : Entry). e.way)) found

-- so each of its ways is a candidate
built_candidates : (g : NetworkValue) (o : OrderValue) (u v : ℕ) (entries : List Entry) → IsBuiltList g o u v entries → All (λ (e : Entry). IsCandidate g o u v e.way) entries
built_candidates g o u v entries built k d inside =
    (built.first (get_or entries k d).from (get_or entries k d).way (built.spelled.within k d inside) (own_second entries built.spelled k d inside)).candidate

module _ (g : NetworkValue) (o : OrderValue) (graph : ChordalValue) (functions : List (Option (List Run))) (lists : List (List Entry)) (n : IsNetwork g)
    (order : IsOrder o) (same : length o.node_at ≡ g.nodes)
    (chordal : IsChordal graph) (closed : IsClosureOf g o graph) (is : IsBuiltTo g o graph.edges (2 * length graph.edges) functions lists) where
  abbrev made : HierarchyValue
  made = record { network = g; order = o; edges = graph.edges; lists = lists }

  -- wherever a low walk joins two ranks there is a least one
  all_least : (m : ℕ) → HasLeastBelow g o m
  all_least m x y t w lt l =
      elim (cases_lt x y) [
        | inl less ↦
            let (j, there) = place_of graph.edges (record { low = x; high = y }) (low_edge g o graph.edges closed.edges x y (w, l) less) in
            least_low g o x y t (value_kept (slice_get functions (list_number j Up)))
            (is.low j Up (record { low = x; high = y }) there
            (number_within j (length graph.edges) Up (slice_get_within graph.edges j (record { low = x; high = y }) there))) (w, l)
        | inr more ↦
            let apart = l.0 in
            let less : y < x = omega (arith, more, apart) in
            let (j, there) = place_of graph.edges (record { low = y; high = x }) (low_edge_back g o graph.edges closed.edges x y (w, l) less) in
            least_low g o x y t (value_kept (slice_get functions (list_number j Down)))
            (is.low j Down (record { low = y; high = x }) there
            (number_within j (length graph.edges) Down (slice_get_within graph.edges j (record { low = y; high = x }) there))) (w, l)
      ]

  list_built : (edge : ℕ) (dir : Dir) (ends : Ends) → slice_get graph.edges edge ≡ Some ends → IsBuiltList g o (start_of ends dir) (end_of ends dir) (list_of made edge dir)
  list_built edge dir ends at =
      let inside = slice_get_within graph.edges edge ends at in
      let (list, there) = list_there graph.edges lists edge dir inside is.lists_long in
      let built = is.built edge dir ends list at (number_within edge (length graph.edges) dir inside) there in
      subst (λ (es : List Entry). IsBuiltList g o (start_of ends dir) (end_of ends dir) es) (sym (ap entries_or_none there)) built

  down_some : (u m : ℕ) → m < u → HasLowWalk g o u m → HasEdge graph.edges m u → list_from made u m ≢ []
  down_some u m lt walk edge =
      let (j, at) = place_of graph.edges (record { low = m; high = u }) edge in
      let sum : 0 + j ≡ j = omega arith in
      let number : number_from 0 graph.edges m u ≡ Some j = number_at 0 graph.edges j m u closed.edges.sorted at ∙ ap (λ (x : ℕ). Some x) sum in
      let test : ltb u m ≡ false = grind (arith, lt) in
      let some = built_some g o n u m (all_least (min u m)) (list_of made j Down) (list_built j Down (record { low = m; high = u }) at) walk in
      let is_list : list_from made u m ≡ list_of made j Down = rw (test, number) refl in
      subst (λ (es : List Entry). es ≢ []) (sym is_list) some

  up_some : (m v : ℕ) → m < v → HasLowWalk g o m v → HasEdge graph.edges m v → list_from made m v ≢ []
  up_some m v lt walk edge =
      let (j, at) = place_of graph.edges (record { low = m; high = v }) edge in
      let sum : 0 + j ≡ j = omega arith in
      let number : number_from 0 graph.edges m v ≡ Some j = number_at 0 graph.edges j m v closed.edges.sorted at ∙ ap (λ (x : ℕ). Some x) sum in
      let test : ltb m v ≡ true = grind (arith, lt) in
      let some = built_some g o n m v (all_least (min m v)) (list_of made j Up) (list_built j Up (record { low = m; high = v }) at) walk in
      let is_list : list_from made m v ≡ list_of made j Up = rw (test, number) refl in
      subst (λ (es : List Entry). es ≢ []) (sym is_list) some

  -- a candidate is a well-formed way
  formed : (u v : ℕ) (way : Way) → IsCandidate g o u v way → IsWellFormed made u v way
  formed u v (Road a) leads = leads
  formed u v (Via m) (mu, mv, one, two) =
      let first = low_edge_back g o graph.edges closed.edges u m one mu in
      let second = low_edge g o graph.edges closed.edges m v two mv in
      (mu, mv, first, second, down_some u m mu one first, up_some m v mv two second)

  pub made_hierarchy : IsHierarchyOf graph made
  made_hierarchy =
      let same_graph : graph ≡ graph_of made = ap (λ (r : ℕ). record { ranks = r; edges = graph.edges }) closed.ranks in (
        same_graph,
        record {
          network = n;
          order = order;
          same = same;
          graph = subst (λ (x : ChordalValue). IsChordal x) same_graph chordal;
          edges = closed.edges;
          lists = is.lists_long;
          spelled = λ k d h.
              let long = is.lists_long in
              let (edge, dir, ends, number, at) = number_edge graph.edges k (omega (arith, h, long)) in
              let there : slice_get lists (list_number edge dir) ≡ Some (get_or lists k d) = subst (λ (i : ℕ). slice_get lists i ≡ Some (get_or lists k d)) number (slice_get-get_or lists k d h) in
              (is.built edge dir ends (get_or lists k d) at (omega (arith, h, long, number)) there).spelled;
          formed = λ edge dir ends at k d h.
              formed (start_of ends dir) (end_of ends dir) _ (built_candidates g o (start_of ends dir) (end_of ends dir) (list_of made edge dir) (list_built edge dir ends at) k d h);
        },
      )

  pub made_built : IsBuilt made
  made_built = record { sound = made_hierarchy.1; built = list_built }
