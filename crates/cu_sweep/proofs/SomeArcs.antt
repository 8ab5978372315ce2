-- Some of the arcs of a sweep, in their order.
use Rattle.std.proofs.Common.{◌≡◌, ◌≢◌, ◌<◌, ◌+◌, ◌∙◌, ℕ, suc, Bool, true, false, if◌then◌else◌, List, [], ◌∷◌, ◌++◌, Option, Some, None, refl, sym, ap, subst, arith, inl, inr, length, map, get_or, reverse}
use Rattle.std.specs.Prelude.{All, slice_get}
use Rattle.std.specs.List.{AllPairs, Contains, filter_map, flat_map, range_with_len}
use Rattle.std.proofs.lemmas.List.Elements.{All-cons, All-head, All-tail, Contains-append_cases}
use Rattle.std.proofs.lemmas.List.FromFn.{get_or-map-range_with_len, length-map-range_with_len}
use Rattle.std.proofs.lemmas.List.Kept.{AllPairs-cons}
use Rattle.std.proofs.lemmas.List.{map-append}
use Rattle.std.proofs.lemmas.Option.{slice_get-get_or}
use Rattle.cu_chordal.specs.declared.graph.Ends.{Ends}
use Rattle.cu_chordal.specs.Graphs.{first_edge_of, up_of}
use Rattle.cu_chordal.proofs.Members.{all_from_members, here, member_at, none_in_nil, pairs_append, pairs_head, pairs_tail, there}
use Rattle.cu_chordal.proofs.Tables.{numbered}
use Rattle.cu_elimtree.specs.SweepArcs.{ancestors_in}
use Rattle.cu_interval.specs.declared.ways.Dir.{Dir}
use Rattle.cu_interval.specs.declared.ways.Dir.TheVariants.{Up, Down}
use Rattle.cu_interval.specs.declared.relaxing.Call.{Call}
use Rattle.cu_interval.specs.declared.relaxing.Relaxed.{Relaxed}
use Rattle.cu_interval.specs.declared.relaxing.Relaxed.TheVariants.{At, NoWay, Long}
use Rattle.cu_interval.specs.declared.shortcuts.Shortcut.{Shortcut}
use Rattle.cu_interval.specs.Hierarchies.{HierarchyValue, IsHierarchy, end_of, graph_of, number_from, start_of}
use Rattle.cu_interval.specs.LeastBounds.{least_bound}
use Rattle.cu_sweep.specs.LedCalls.{AreArcsOnce, AreSomeOf, IsLegOf, arc_by, arc_of, arcs_down, arcs_of_rank, arcs_of_ranks, arcs_up}
use Rattle.cu_sweep.specs.Sweeps.{answered, below, call_at, call_unless, ended_by, is_by, second_of, until_long}
use Rattle.cu_sweep.specs.Steps.Made.{Led, call_if, down_calls_of, down_made, down_made_to, made_down_after, made_up_after, up_calls_of, up_made, up_made_from}
use Rattle.cu_sweep.proofs.ArcsOnce.{ancestors_apart, turned_apart}
use Rattle.cu_sweep.proofs.Behind.{turned_back}
use Rattle.cu_sweep.proofs.Rows.{row_edge}

-- some of a list
pub some_none : (arcs : List Shortcut) → AreSomeOf arcs []
some_none [] = refl
some_none (arc ∷ arcs) = inl (some_none arcs)

pub some_append : (all bs xs ys : List Shortcut) → AreSomeOf all xs → AreSomeOf bs ys → AreSomeOf (all ++ bs) (xs ++ ys)
some_append [] bs xs ys f g = subst (λ (zs : List Shortcut). AreSomeOf bs (zs ++ ys)) (sym f) g
some_append (a ∷ all) bs xs ys (inl f) g = inl (some_append all bs xs ys f g)
some_append (a ∷ all) bs xs ys (inr (rest, is, f)) g = inr (rest ++ ys, ap (λ (zs : List Shortcut). zs ++ ys) is, some_append all bs rest ys f g)

some_front : (all xs ys : List Shortcut) → AreSomeOf all (xs ++ ys) → AreSomeOf all xs
some_front all [] ys f = some_none all
some_front [] (x ∷ xs) ys f = absurd (cc f)
some_front (a ∷ all) (x ∷ xs) ys (inl f) = inl (some_front all (x ∷ xs) ys f)
some_front (a ∷ all) (x ∷ xs) ys (inr (rest, is, f)) =
    let same : x ≡ a = cc is in
    let behind : rest ≡ xs ++ ys = cc is in
    inr (xs, ap (λ (b : Shortcut). b ∷ xs) same, some_front all xs ys (subst (AreSomeOf all) behind f))

some_all : (P : Shortcut → Type 0) (all xs : List Shortcut) → AreSomeOf all xs → All P all → All P xs
some_all P [] xs f each = subst (All P) (sym f) each
some_all P (a ∷ all) xs (inl f) each = some_all P all xs f (All-tail P a all each)
some_all P (a ∷ all) xs (inr (rest, is, f)) each =
    subst (All P) (sym is) (All-cons P a rest (All-head P a all each) (some_all P all rest f (All-tail P a all each)))

some_pairs : (R : Shortcut → Shortcut → Type 0) (all xs : List Shortcut) → AreSomeOf all xs → AllPairs R all → AllPairs R xs
some_pairs R [] xs f pairs = subst (AllPairs R) (sym f) pairs
some_pairs R (a ∷ all) xs (inl f) pairs = some_pairs R all xs f (pairs_tail R a all pairs)
some_pairs R (a ∷ all) xs (inr (rest, is, f)) pairs =
    subst (AllPairs R) (sym is)
    (AllPairs-cons R a rest (some_all (R a) all rest f (pairs_head R a all pairs)) (some_pairs R all rest f (pairs_tail R a all pairs)))

-- calls over the edges of a rank that follow a number
part_one : (dir : Dir) (g : ℕ → Option Call) (n y : ℕ) (ys : List ℕ) (o : Option Call) → g y ≡ o → ((call : Call) → o ≡ Some call → arc_of call ≡ arc_by dir n)
    → AreSomeOf (map (arc_by dir) (range_with_len (n + 1) (length ys))) (map arc_of (filter_map g ys))
    → AreSomeOf (map (arc_by dir) (range_with_len n (length (y ∷ ys)))) (map arc_of (filter_map g (y ∷ ys)))
part_one dir g n y ys None e first rest = rw e (inl rest)
part_one dir g n y ys (Some call) e first rest =
    rw e (inr (map arc_of (filter_map g ys), ap (λ (a : Shortcut). a ∷ map arc_of (filter_map g ys)) (first call refl), rest))

part_some : (dir : Dir) (g : ℕ → Option Call) (n : ℕ) (ys : List ℕ)
    → ((i y : ℕ) (call : Call) → slice_get ys i ≡ Some y → g y ≡ Some call → arc_of call ≡ arc_by dir (n + i))
    → AreSomeOf (map (arc_by dir) (range_with_len n (length ys))) (map arc_of (filter_map g ys))
part_some dir g n [] each = refl
part_some dir g n (y ∷ ys) each =
    part_one dir g n y ys (g y) refl
    (λ call e. subst (λ (k : ℕ). arc_of call ≡ arc_by dir k) (let same : n + 0 ≡ n = omega arith in same) (each 0 y call refl e))
    (part_some dir g (n + 1) ys (λ i z call at is.
    let next : n + suc i ≡ (n + 1) + i = omega arith in
    subst (λ (k : ℕ). arc_of call ≡ arc_by dir k) next (each (suc i) z call at is)))

if_some : (b : Bool) (o : Option Call) (call : Call) → (if b then o else None) ≡ Some call → o ≡ Some call
if_some true o call e = e
if_some false o call e = absurd (cc e)

unless_some : (b : Bool) (o : Option Call) (call : Call) → (if b then None else o) ≡ Some call → o ≡ Some call
unless_some true o call e = absurd (cc e)
unless_some false o call e = e

made_some : (h : HierarchyValue) (reached : Option ℕ) (allowed : ℕ → Bool) (o : Option Call) (call : Call) → call_unless h reached (call_if h allowed o) ≡ Some call → o ≡ Some call
made_some h reached allowed None call e = absurd (cc e)
made_some h reached allowed (Some first) call e = allows (allowed (first.second + least_bound h first.edge first.dir)) e
  where
    allows : (b : Bool) → call_unless h reached (if b then Some first else None) ≡ Some call → Some first ≡ Some call
    allows true is = unless_some (is_by reached (first.second + least_bound h first.edge first.dir)) (Some first) call is
    allows false is = absurd (cc is)

at_arc : (dir : Dir) (n second : Option ℕ) (call : Call) (edge : ℕ) → n ≡ Some edge → call_at n dir second ≡ Some call → arc_of call ≡ arc_by dir edge
at_arc dir None second call edge n e = absurd (cc e)
at_arc dir (Some k) None call edge n e = absurd (cc e)
at_arc dir (Some k) (Some at) call edge n e = let same : k ≡ edge = cc n in subst (λ (c : Call). arc_of c ≡ arc_by dir edge) (let is : record { edge = k; dir = dir; second = at } ≡ call = cc in is) (ap (arc_by dir) same)

row_some : (h : HierarchyValue) → IsHierarchy h → (dir : Dir) (x : ℕ) (g : ℕ → Option Call)
    → ((y : ℕ) (call : Call) → g y ≡ Some call → (second : Option ℕ) × (call_at (number_from 0 h.edges x y) dir second ≡ Some call))
    → AreSomeOf (arcs_of_rank h dir x) (map arc_of (filter_map g (up_of h.edges x)))
row_some h f dir x g each =
    part_some dir g (first_edge_of h.edges x) (up_of h.edges x) (λ i y call at is.
    let (second, made) = each y call is in
    at_arc dir (number_from 0 h.edges x y) second call (first_edge_of h.edges x + i) (row_edge h f x i y at).0 made)

rows_some : (h : HierarchyValue) (dir : Dir) (calls : ℕ → List Call) (xs : List ℕ) → ((x : ℕ) → AreSomeOf (arcs_of_rank h dir x) (map arc_of (calls x)))
    → AreSomeOf (arcs_of_ranks h dir xs) (map arc_of (flat_map calls xs))
rows_some h dir calls [] each = refl
rows_some h dir calls (x ∷ xs) each =
    subst (AreSomeOf (arcs_of_ranks h dir (x ∷ xs))) (sym (map-append arc_of (calls x) (flat_map calls xs)))
    (some_append (arcs_of_rank h dir x) (arcs_of_ranks h dir xs) (map arc_of (calls x)) (map arc_of (flat_map calls xs)) (each x) (rows_some h dir calls xs each))

-- the calls that are made of a sweep
pub up_some : (h : HierarchyValue) → IsHierarchy h → (q : Led) (xs : List ℕ) → AreSomeOf (arcs_of_ranks h Up xs) (map arc_of (up_calls_of h q xs))
up_some h f q xs =
    let before = λ (x y : ℕ). second_of (made_up_after h q (below x (ancestors_in (graph_of h) q.from)) y) in
    rows_some h Up (up_made_from h q) xs (λ x.
    let second = second_of (up_made h q x) in
    row_some h f Up x
    (λ y. call_unless h (before x y) (call_if h (q.allows y) (call_at (number_from 0 h.edges x y) Up second)))
    (λ y call e. (second, made_some h (before x y) (q.allows y) (call_at (number_from 0 h.edges x y) Up second) call e)))

pub down_some : (h : HierarchyValue) → IsHierarchy h → (q : Led) (xs : List ℕ) → AreSomeOf (arcs_of_ranks h Down xs) (map arc_of (down_calls_of h q xs))
down_some h f q xs =
    let before = λ (x y : ℕ). second_of (made_down_after h q (below y (up_of h.edges x)) x) in
    let second = λ (y : ℕ). second_of (down_made h q y) in
    rows_some h Down (down_made_to h q) xs (λ x.
    row_some h f Down x
    (λ y. call_unless h (before x y) (call_if h (q.allows (h.network.nodes + x)) (call_at (number_from 0 h.edges x y) Down (second y))))
    (λ y call e. (second y, made_some h (before x y) (q.allows (h.network.nodes + x)) (call_at (number_from 0 h.edges x y) Down (second y)) call e)))

-- of calls up to the first whose walk is too long the arcs are some of all
ended_front : (r : Relaxed) (call : Call) (calls more rest : List Call) → calls ≡ more ++ rest → (behind : List Call) × (call ∷ calls ≡ ended_by r call more ++ behind)
ended_front (At t) call calls more rest e = (rest, ap (λ (cs : List Call). call ∷ cs) e)
ended_front NoWay call calls more rest e = (rest, ap (λ (cs : List Call). call ∷ cs) e)
ended_front Long call calls more rest e = (calls, refl)

until_front : (h : HierarchyValue) (calls : List Call) → (rest : List Call) × (calls ≡ until_long h calls ++ rest)
until_front h [] = ([], refl)
until_front h (call ∷ calls) = let (rest, is) = until_front h calls in ended_front (answered h call) call calls (until_long h calls) rest is

pub until_some : (h : HierarchyValue) (arcs : List Shortcut) (calls : List Call) → AreSomeOf arcs (map arc_of calls) → AreSomeOf arcs (map arc_of (until_long h calls))
until_some h arcs calls f =
    let (rest, is) = until_front h calls in
    some_front arcs (map arc_of (until_long h calls)) (map arc_of rest)
    (subst (AreSomeOf arcs) (ap (map arc_of) is ∙ map-append arc_of (until_long h calls) rest) f)

-- an arc between a rank and a higher neighbour
pub record IsRankArc (h : HierarchyValue) (dir : Dir) (x : ℕ) (arc : Shortcut) : Type 0 where
  pub high : ℕ
  pub same : arc.dir ≡ dir
  pub at : slice_get h.edges arc.edge ≡ Some (record { low = x; high = high })

rank_arc : (h : HierarchyValue) → IsHierarchy h → (dir : Dir) (x : ℕ) (arc : Shortcut) → Contains (arcs_of_rank h dir x) arc → IsRankArc h dir x arc
rank_arc h f dir x arc (k, lt, at) =
    let first = first_edge_of h.edges x in
    let ups = up_of h.edges x in
    let within : k < length ups = let long = length-map-range_with_len (arc_by dir) first (length ups) in omega (arith, lt, long) in
    let is : arc_by dir (first + k) ≡ arc = sym (get_or-map-range_with_len (arc_by dir) first (length ups) k (first + k) arc within refl) ∙ at in
    let there_ = numbered h.edges x k (get_or ups k 0) f.graph.rising (slice_get-get_or ups k 0 within) in
    record {
      high = get_or ups k 0;
      same = sym (ap (λ (a : Shortcut). a.dir) is);
      at = subst (λ (n : ℕ). slice_get h.edges n ≡ Some (record { low = x; high = get_or ups k 0 })) (ap (λ (a : Shortcut). a.edge) is) there_;
    }

pub ranks_arc : (h : HierarchyValue) → IsHierarchy h → (dir : Dir) (ranks : List ℕ) (arc : Shortcut) → Contains (arcs_of_ranks h dir ranks) arc
    → (x : ℕ) × Contains ranks x × IsRankArc h dir x arc
ranks_arc h f dir [] arc m = absurd (none_in_nil arc m)
ranks_arc h f dir (x ∷ ranks) arc m =
    elim (Contains-append_cases (arcs_of_rank h dir x) (arcs_of_ranks h dir ranks) arc m) [
      | inl first ↦ (x, here x ranks, rank_arc h f dir x arc first)
      | inr rest ↦ let (y, member, is) = ranks_arc h f dir ranks arc rest in (y, there x ranks y member, is)
    ]

-- no two of them are over one edge
once_of_rank : (h : HierarchyValue) (dir : Dir) (x : ℕ) → AllPairs (λ (a b : Shortcut). a.edge ≢ b.edge) (arcs_of_rank h dir x)
once_of_rank h dir x i j d less lt same =
    let first = first_edge_of h.edges x in
    let n = length (up_of h.edges x) in
    let within : j < n = let long = length-map-range_with_len (arc_by dir) first n in omega (arith, lt, long) in
    let a = ap (λ (c : Shortcut). c.edge) (get_or-map-range_with_len (arc_by dir) first n i (first + i) d (omega (arith, less, within)) refl) in
    let b = ap (λ (c : Shortcut). c.edge) (get_or-map-range_with_len (arc_by dir) first n j (first + j) d within refl) in
    omega (arith, a, b, same, less)

low_of : (a b : Ends) → Some a ≡ Some b → a.low ≡ b.low
low_of a b e = let is : a ≡ b = cc e in ap (λ (x : Ends). x.low) is

pub once_of_ranks : (h : HierarchyValue) → IsHierarchy h → (dir : Dir) (ranks : List ℕ) → AllPairs (λ a b. a ≢ b) ranks
    → AllPairs (λ (a b : Shortcut). a.edge ≢ b.edge) (arcs_of_ranks h dir ranks)
once_of_ranks h f dir [] apart = λ i j d less lt. absurd (omega (arith, lt))
once_of_ranks h f dir (x ∷ ranks) apart =
    pairs_append (λ (a b : Shortcut). a.edge ≢ b.edge) (arcs_of_rank h dir x) (arcs_of_ranks h dir ranks) (once_of_rank h dir x)
    (once_of_ranks h f dir ranks (pairs_tail (λ a b. a ≢ b) x ranks apart)) (λ a b m n same.
    let e = rank_arc h f dir x a m in
    let (y, place, k) = ranks_arc h f dir ranks b n in
    let low = low_of (record { low = x; high = e.high }) (record { low = y; high = k.high }) (sym e.at ∙ ap (slice_get h.edges) same ∙ k.at) in
    let differs = pairs_head (λ a b. a ≢ b) x ranks apart place.0 y place.1 in
    differs (low ∙ sym place.2))

-- a leg of a rank, by the ends of its arc
leg_of_arc : (h : HierarchyValue) (rank : ℕ) (dir : Dir) (x : ℕ) (arc : Shortcut) → Contains (ancestors_in (graph_of h) rank) x → IsRankArc h dir x arc
    → (from to : ℕ) × IsLegOf h rank dir arc from to
leg_of_arc h rank dir x arc above is =
    let ends : Ends = record { low = x; high = is.high } in (
      start_of ends dir,
      end_of ends dir,
      record {
        ends = ends;
        at = is.at;
        along = is.same;
        start = refl;
        end = refl;
        swept = (above, member_at h.edges ends arc.edge is.at);
      },
    )

ranks_once : (h : HierarchyValue) → IsHierarchy h → (rank : ℕ) (dir : Dir) (ranks : List ℕ) → AllPairs (λ a b. a ≢ b) ranks
    → ((x : ℕ) → Contains ranks x → Contains (ancestors_in (graph_of h) rank) x)
    → (arcs : List Shortcut) → AreSomeOf (arcs_of_ranks h dir ranks) arcs → AreArcsOnce h rank dir arcs
ranks_once h f rank dir ranks apart above arcs some =
    let P : Shortcut → Type 0 = λ arc. (from to : ℕ) × IsLegOf h rank dir arc from to in
    let all = arcs_of_ranks h dir ranks in
    record {
      each = some_all P all arcs some (all_from_members P all (λ arc m.
          let (x, member, is) = ranks_arc h f dir ranks arc m in
          leg_of_arc h rank dir x arc (above x member) is));
      once = some_pairs (λ (a b : Shortcut). a.edge ≢ b.edge) all arcs some (once_of_ranks h f dir ranks apart);
    }

pub some_up_once : (h : HierarchyValue) (from : ℕ) (arcs : List Shortcut) → IsHierarchy h → AreSomeOf (arcs_up h from) arcs → AreArcsOnce h from Up arcs
some_up_once h from arcs f some =
    ranks_once h f from Up (ancestors_in (graph_of h) from) (ancestors_apart h f from) (λ x c. c) arcs some

pub some_down_once : (h : HierarchyValue) (to : ℕ) (arcs : List Shortcut) → IsHierarchy h → AreSomeOf (arcs_down h to) arcs → AreArcsOnce h to Down arcs
some_down_once h to arcs f some =
    let ancestors = ancestors_in (graph_of h) to in
    ranks_once h f to Down (reverse ancestors) (turned_apart ancestors (ancestors_apart h f to)) (λ x c. turned_back ancestors x c) arcs some
