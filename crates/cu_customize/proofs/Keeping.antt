-- Functions that are kept: they are those of the network and order, and all halves of the next edge are among them.
use Rattle.std.proofs.Common.{◌≡◌, ◌≢◌, ◌<◌, ◌+◌, ◌*◌, ◌∙◌, ◌++◌, ℕ, Bool, true, false, List, [], ◌∷◌, Option, Some, refl, sym, ap, subst, arith, inl, inr, length, get_or, ltb, min}
use Rattle.std.specs.Prelude.{All, slice_get}
use Rattle.std.specs.Option.{option_map}
use Rattle.std.proofs.lemmas.Bool.{cases_lt, ltb-true}
use Rattle.std.proofs.lemmas.List.{get_or_append_left, length_push}
use Rattle.std.proofs.Math.Seq.{get_or-append_seam}
use Rattle.std.proofs.lemmas.Option.{slice_get-get_or}
use Rattle.cu_model.specs.Networks.{NetworkValue, IsNetwork}
use Rattle.cu_model.specs.Orders.{OrderValue, IsOrder}
use Rattle.cu_model.specs.Roads.{is_closed_arc}
use Rattle.cu_model.proofs.RoadLaws.{all_at, links_within}
use Rattle.cu_model.proofs.ListLaws.{item_there}
use Rattle.cu_arrival.specs.declared.runs.Run.{Run}
use Rattle.cu_arrival.specs.Runs.{arrival_value}
use Rattle.cu_chordal.specs.declared.graph.Ends.{Ends}
use Rattle.cu_chordal.specs.Edges.{IsClosureOf, ListsEdges}
use Rattle.cu_chordal.specs.Graphs.{ChordalValue, IsChordal}
use Rattle.cu_chordal.proofs.Members.{all_from_members, place_of}
use Rattle.cu_interval.specs.declared.ways.Dir.{Dir}
use Rattle.cu_interval.specs.declared.ways.Dir.TheVariants.{Up, Down}
use Rattle.cu_interval.specs.declared.ways.Entry.{Entry}
use Rattle.cu_interval.specs.EdgeArcs.{AreEdgeArcs}
use Rattle.cu_interval.specs.FirstWays.{IsBuiltList}
use Rattle.cu_interval.specs.Hierarchies.{end_of, list_number, number_from, start_of}
use Rattle.cu_interval.proofs.Lookups.{number_found}
use Rattle.cu_interval.proofs.EndsLaws.{below_low, number_below, number_edge, number_parts, number_within}
use Rattle.cu_interval.proofs.LowLists.{HasLeastBelow, low_edge, low_edge_back}
use Rattle.cu_customize.specs.Functions.{AreFunctionsOf, IsLowFunction, IsRoadFunction, kept_state, road_if}
use Rattle.cu_runs.specs.Layers.{value_kept}
use Rattle.cu_customize.specs.Settling.{IsSettledList, KnowsHalves}
use Rattle.cu_customize.specs.Steps.Kept.{IsBuiltTo}
use Rattle.cu_customize.proofs.Lows.{IsDailyValueOf, settled_low}
use Rattle.cu_customize.proofs.LowFunctions.{least_low, settled_built}
use Rattle.cu_customize.proofs.Settles.{setting_at}

road_is : (g : NetworkValue) (a : ℕ) (b : Bool) → is_closed_arc g a ≡ b → IsRoadFunction g a (road_if b g a)
road_is g a true e = e
road_is g a false e = (e, λ t. refl)

pub kept_are : (g : NetworkValue) (o : OrderValue) (edges : List Ends) (count : ℕ) (functions : List (Option (List Run))) (lists : List (List Entry)) → IsBuiltTo g o edges count functions lists
    → AreFunctionsOf g o edges (kept_state g functions)
kept_are g o edges count functions lists is = record {
  arcs = refl;
  roads = λ a lt. road_is g a (is_closed_arc g a) refl;
  shortcuts = λ edge dir ends at known.
      let lt : list_number edge dir < length functions = ltb-true (list_number edge dir) (length functions) known in
      let long = is.functions_long in
      is.low edge dir ends at (omega (arith, lt, long));
}

number_in : (edge j : ℕ) (dir other : Dir) → j < edge → list_number j other < list_number edge dir
number_in edge j Up Up lt = omega (arith, lt)
number_in edge j Up Down lt = omega (arith, lt)
number_in edge j Down Up lt = omega (arith, lt)
number_in edge j Down Down lt = omega (arith, lt)

-- both halves of each lower triangle are kept
pub kept_halves : (g : NetworkValue) (graph : ChordalValue) → IsChordal graph → (functions : List (Option (List Run))) (edge : ℕ) (dir : Dir) (ends : Ends) → slice_get graph.edges edge ≡ Some ends
    → length functions ≡ list_number edge dir → KnowsHalves graph.edges (kept_state g functions) (start_of ends dir) (end_of ends dir)
kept_halves g graph is functions edge dir ends at long m mu mv one two =
    let known : (other : Dir) (y e : ℕ) → number_from 0 graph.edges m y ≡ Some e → ltb (list_number e other) (length functions) ≡ true = λ other y e found.
    let (j, same, there) = number_found 0 graph.edges m y e found in
    let before = number_below graph.edges is.rising j edge (record { low = m; high = y }) ends there at (below_low ends dir m mu mv) in
    let number = number_in edge e dir other (omega (arith, before, same)) in
    let inside : list_number e other < length functions = omega (arith, number, long) in
    grind (arith, inside) in
    (known Down (start_of ends dir), known Up (end_of ends dir))

-- below the lower end of the next edge there is a least walk wherever there is one
pub kept_least : (g : NetworkValue) (o : OrderValue) (edges : List Ends) (functions : List (Option (List Run))) (lists : List (List Entry)) (edge : ℕ) (dir : Dir) (ends : Ends) → ListsEdges g o edges
    → IsBuiltTo g o edges (list_number edge dir) functions lists → slice_get edges edge ≡ Some ends → HasLeastBelow g o ends.low
kept_least g o edges functions lists edge dir ends listed is at x y t w lt l =
    elim (cases_lt x y) [
      | inl less ↦
          let (j, there) = place_of edges (record { low = x; high = y }) (low_edge g o edges listed x y (w, l) less) in
          let before = number_below edges listed.sorted j edge (record { low = x; high = y }) ends there at (omega (arith, lt, less)) in
          least_low g o x y t (value_kept (slice_get functions (list_number j Up))) (is.low j Up (record { low = x; high = y }) there (number_in edge j dir Up before)) (w, l)
      | inr more ↦
          let apart = l.0 in
          let less : y < x = omega (arith, more, apart) in
          let (j, there) = place_of edges (record { low = y; high = x }) (low_edge_back g o edges listed x y (w, l) less) in
          let before = number_below edges listed.sorted j edge (record { low = y; high = x }) ends there at (omega (arith, lt, less)) in
          least_low g o x y t (value_kept (slice_get functions (list_number j Down))) (is.low j Down (record { low = y; high = x }) there (number_in edge j dir Down before)) (w, l)
    ]

-- the roads of each edge are roads
pub arcs_in : (g : NetworkValue) (o : OrderValue) (edges : List Ends) (lists : List (List ℕ)) → AreEdgeArcs g o edges lists → All (λ (list : List ℕ). All (λ (a : ℕ). a < length g.arcs) list) lists
arcs_in g o edges lists f k d h =
    let long = f.long in
    let (edge, dir, ends, is, at) = number_edge edges k (omega (arith, h, long)) in
    let there : slice_get lists (list_number edge dir) ≡ Some (get_or lists k d) = subst (λ (n : ℕ). slice_get lists n ≡ Some (get_or lists k d)) is (slice_get-get_or lists k d h) in
    let from = f.each edge dir ends (get_or lists k d) at there in
    all_from_members (λ (a : ℕ). a < length g.arcs) (get_or lists k d) (λ a held. let l = (from.exact a).0 held in links_within g a l.0 l.1 l.2)

pub push_last : {A : Type 0} (xs : List A) (x : A) (n : ℕ) → n ≡ length xs → slice_get (xs ++ x ∷ []) n ≡ Some x
push_last {A} xs x n is =
    let size = length_push xs x in
    let inside : n < length (xs ++ x ∷ []) = omega (arith, size, is) in
    slice_get-get_or (xs ++ x ∷ []) n x inside ∙ ap Some (subst (λ (i : ℕ). get_or (xs ++ x ∷ []) i x ≡ x) (sym is) (get_or-append_seam xs x [] x))

pub push_before : {A : Type 0} (xs : List A) (x : A) (n : ℕ) → n < length xs → slice_get (xs ++ x ∷ []) n ≡ slice_get xs n
push_before {A} xs x n lt =
    let size = length_push xs x in
    let inside : n < length (xs ++ x ∷ []) = omega (arith, size, lt) in
    slice_get-get_or (xs ++ x ∷ []) n x inside ∙ ap Some (get_or_append_left xs (x ∷ []) x n lt) ∙ sym (slice_get-get_or xs n x lt)

-- one list and one function more
pub built_step : (g : NetworkValue) (o : OrderValue) (edges : List Ends) (functions : List (Option (List Run))) (lists : List (List Entry)) (edge : ℕ) (dir : Dir) (ends : Ends)
    (function : Option (List Run)) (ways : List Entry) → slice_get edges edge ≡ Some ends → IsBuiltTo g o edges (list_number edge dir) functions lists
    → IsLowFunction g o (start_of ends dir) (end_of ends dir) (option_map arrival_value function) → IsBuiltList g o (start_of ends dir) (end_of ends dir) ways
    → IsBuiltTo g o edges (list_number edge dir + 1) (functions ++ function ∷ []) (lists ++ ways ∷ [])
built_step g o edges functions lists edge dir ends function ways at is low built =
    let long = is.functions_long in
    let lists_long = is.lists_long in
    let size = length_push functions function in
    let lists_size = length_push lists ways in
    record {
      functions_long = omega (arith, size, long);
      lists_long = omega (arith, lists_size, lists_long);
      low = λ e d other there lt.
          elim (cases_lt (list_number e d) (list_number edge dir)) [
            | inl less ↦
                subst (λ (x : Option (Option (List Run))). IsLowFunction g o (start_of other d) (end_of other d) (value_kept x))
                (sym (push_before functions function (list_number e d) (omega (arith, less, long)))) (is.low e d other there less)
            | inr more ↦
                let (same, same_dir) = number_parts edge e dir d (omega (arith, more, lt)) in
                let same_ends : ends ≡ other = let here = subst (λ (x : ℕ). slice_get edges x ≡ Some ends) same at in cc (here, there) in
                let last = push_last functions function (list_number e d) (omega (arith, more, lt, long)) in
                subst (λ (x : Option (Option (List Run))). IsLowFunction g o (start_of other d) (end_of other d) (value_kept x)) (sym last)
                (subst (λ (x : Dir). IsLowFunction g o (start_of other x) (end_of other x) (option_map arrival_value function)) same_dir
                (subst (λ (x : Ends). IsLowFunction g o (start_of x dir) (end_of x dir) (option_map arrival_value function)) same_ends low))
          ];
      built = λ e d other entries there lt found.
          elim (cases_lt (list_number e d) (list_number edge dir)) [
            | inl less ↦ is.built e d other entries there less (sym (push_before lists ways (list_number e d) (omega (arith, less, lists_long))) ∙ found)
            | inr more ↦
                let (same, same_dir) = number_parts edge e dir d (omega (arith, more, lt)) in
                let same_ends : ends ≡ other = let here = subst (λ (x : ℕ). slice_get edges x ≡ Some ends) same at in cc (here, there) in
                let last = push_last lists ways (list_number e d) (omega (arith, more, lt, lists_long)) in
                let same_ways : ways ≡ entries = cc (last, found) in
                subst (λ (x : List Entry). IsBuiltList g o (start_of other d) (end_of other d) x) same_ways
                (subst (λ (x : Dir). IsBuiltList g o (start_of other x) (end_of other x) ways) same_dir (subst (λ (x : Ends). IsBuiltList g o (start_of x dir) (end_of x dir) ways) same_ends built))
          ];
    }

pub nothing_built : (g : NetworkValue) (o : OrderValue) (edges : List Ends) → IsBuiltTo g o edges 0 [] []
nothing_built g o edges = record {
  functions_long = refl;
  lists_long = refl;
  low = λ e d ends at lt. absurd (omega (arith, lt));
  built = λ e d ends entries at lt. absurd (omega (arith, lt));
}

lower_end : (ends : Ends) (dir : Dir) → ends.low < ends.high → (min (start_of ends dir) (end_of ends dir) ≡ ends.low) × (start_of ends dir ≢ end_of ends dir)
lower_end ends Up lt = (omega (arith, lt), λ e. absurd (omega (arith, lt, e)))
lower_end ends Down lt = (omega (arith, lt), λ e. absurd (omega (arith, lt, e)))

-- what settling the next list by the functions that are kept gives
pub next_built : (g : NetworkValue) (o : OrderValue) (graph : ChordalValue) (arcs : List (List ℕ)) (list : List ℕ) (functions : List (Option (List Run)))
    (lists : List (List Entry)) (edge : ℕ) (dir : Dir) (ends : Ends)
    (function : Option (List Run)) (ways : List Entry) → IsChordal graph → IsNetwork g → IsOrder o → IsClosureOf g o graph → AreEdgeArcs g o graph.edges arcs
    → slice_get graph.edges edge ≡ Some ends → slice_get arcs (list_number edge dir) ≡ Some list → IsBuiltTo g o graph.edges (list_number edge dir) functions lists
    → IsSettledList graph.edges list (kept_state g functions) (start_of ends dir) (end_of ends dir) ways
    → IsDailyValueOf graph.edges (kept_state g functions) (start_of ends dir) (end_of ends dir) ways function
    → IsBuiltTo g o graph.edges (list_number edge dir + 1) (functions ++ function ∷ []) (lists ++ ways ∷ [])
next_built g o graph arcs list functions lists edge dir ends function ways chordal n k closed are at listed is settled value =
    let state = kept_state g functions in
    let u = start_of ends dir in
    let v = end_of ends dir in
    let range = all_at (λ (e : Ends). (e.low < e.high) × (e.high < graph.ranks)) graph.edges edge ends chordal.in_range at in
    let (lower, apart) = lower_end ends dir range.0 in
    let setting = setting_at g o graph edge ends dir arcs list state n k closed are (kept_are g o graph.edges (list_number edge dir) functions lists is) at listed
    (kept_halves g graph chordal functions edge dir ends at is.functions_long) in
    let has = subst (λ (m : ℕ). HasLeastBelow g o m) (sym lower) (kept_least g o graph.edges functions lists edge dir ends closed.edges is at) in
    built_step g o graph.edges functions lists edge dir ends function ways at is (settled_low g o graph.edges list state u v setting apart has ways function settled value)
    (settled_built g o graph.edges list state u v setting ways settled)

pub list_there : {A : Type 0} (edges : List Ends) (lists : List A) (edge : ℕ) (dir : Dir) → edge < length edges → length lists ≡ 2 * length edges
    → (list : A) × (slice_get lists (list_number edge dir) ≡ Some list)
list_there edges lists edge dir lt long =
    let inside = number_within edge (length edges) dir lt in
    item_there lists (list_number edge dir) (omega (arith, inside, long))
