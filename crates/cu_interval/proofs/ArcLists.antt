-- The roads of each edge, gathered one after another.
use Rattle.std.proofs.Common.{◌≡◌, ◌≢◌, ◌≤◌, ◌<◌, ◌+◌, ◌*◌, ◌/◌, ◌%◌, ◌∙◌, ℕ, true, false, List, [], ◌∷◌, ◌++◌, Option, Some, None, cond, eqb, get_or, length, refl, sym, ap, subst}
use Rattle.std.proofs.Common.{arith, inl, inr, ◌⊎◌}
use Rattle.std.specs.Prelude.{All, slice_get}
use Rattle.std.specs.List.{Contains}
use Rattle.std.specs.List.Sorted.{IsStrictlyIncreasing}
use Rattle.std.proofs.lemmas.Bool.{cases_eq, cases_lt}
use Rattle.std.proofs.lemmas.List.{append-nil, get_or_append_left, get_or_default, get_or_push, length_push}
use Rattle.std.proofs.lemmas.List.Elements.{All-push, Contains-append_left, Contains-append_right, Contains-append_cases}
use Rattle.std.proofs.lemmas.Option.{get_or_from_slice_get, slice_get_cases, slice_get-get_or, slice_get_within}
use Rattle.cu_model.specs.Networks.{NetworkValue}
use Rattle.cu_model.specs.Orders.{OrderValue}
use Rattle.cu_model.proofs.RoadLaws.{all_at, links_within}
use Rattle.cu_chordal.specs.declared.graph.Ends.{Ends}
use Rattle.cu_chordal.specs.Edges.{IsClosureOf, LinksRanks}
use Rattle.cu_chordal.specs.Graphs.{ChordalValue, FindsEdge, HasEdge, IsChordal}
use Rattle.cu_chordal.specs.declared.graph.TheConstants.{MAX_EDGES}
use Rattle.cu_chordal.specs.Groups.{AreGroups, group_of}
use Rattle.cu_chordal.proofs.Grouping.{at_le, length_group}
use Rattle.cu_chordal.proofs.Members.{here, member_cases, none_in_nil}
use Rattle.cu_chordal.proofs.Tables.{kept_append, same_ends}
use Rattle.cu_interval.specs.declared.ways.Dir.{Dir}
use Rattle.cu_interval.specs.declared.ways.Dir.TheVariants.{Up, Down}
use Rattle.cu_interval.specs.EdgeArcs.{AreArcsFrom, AreEdgeArcs}
use Rattle.cu_interval.specs.Hierarchies.{end_of, list_number, start_of}
use Rattle.cu_interval.specs.Steps.ArcLists.{AreArcsUntil, AreListed, IsListOf}
use Rattle.cu_interval.proofs.EndsLaws.{ends_apart, number_parts}
use Rattle.cu_interval.proofs.Lookups.{one_number}

-- a road has one pair of ends
pub links_same : (g : NetworkValue) (o : OrderValue) (a x y p q : ℕ) → LinksRanks g o a x y → LinksRanks g o a p q → (x ≡ p) × (y ≡ q)
links_same g o a x y p q l k =
    let (u, v, (arc, e, t, h), r, s) = l in
    let (u2, v2, (arc2, e2, t2, h2), r2, s2) = k in
    let same : arc ≡ arc2 = cc (e, e2) in
    let tails : u ≡ u2 = cc (same, t, t2) in
    let heads : v ≡ v2 = cc (same, h, h2) in
    (cc (tails, r, r2), cc (heads, s, s2))

-- the ends of an edge rise
rising_ends : (graph : ChordalValue) → IsChordal graph → (edge : ℕ) (ends : Ends) → slice_get graph.edges edge ≡ Some ends → ends.low < ends.high
rising_ends graph f edge ends e = (all_at (λ (x : Ends). (x.low < x.high) × (x.high < graph.ranks)) graph.edges edge ends f.in_range e).0

ends_by : (xs : List Ends) (e : ℕ) (ends : Ends) (low high : ℕ) → slice_get xs e ≡ Some ends → ends.low ≡ low → ends.high ≡ high → slice_get xs e ≡ Some (record { low = low; high = high })
ends_by xs e ends low high at l h = at ∙ ap Some (same_ends ends low high l h)

-- two lists with the same ends are one
same_list_number : (graph : ChordalValue) → IsChordal graph → (e f : ℕ) (d k : Dir) (x y : Ends) → slice_get graph.edges e ≡ Some x
    → slice_get graph.edges f ≡ Some y → start_of x d ≡ start_of y k → end_of x d ≡ end_of y k → list_number e d ≡ list_number f k
same_list_number graph c e f Up Up x y p q s t = let n = one_number graph.edges c.rising e f y.low y.high (ends_by graph.edges e x y.low y.high p s t) q in omega (arith, n)
same_list_number graph c e f Down Down x y p q s t = let n = one_number graph.edges c.rising e f y.low y.high (ends_by graph.edges e x y.low y.high p t s) q in omega (arith, n)
same_list_number graph c e f Up Down x y p q s t = let l = rising_ends graph c e x p in let m = rising_ends graph c f y q in absurd (omega (arith, l, m, s, t))
same_list_number graph c e f Down Up x y p q s t = let l = rising_ends graph c e x p in let m = rising_ends graph c f y q in absurd (omega (arith, l, m, s, t))

number_below : (edges : List Ends) (edge : ℕ) (dir : Dir) (ends : Ends) → slice_get edges edge ≡ Some ends → list_number edge dir < 2 * length edges
number_below edges edge Up ends e = let lt = slice_get_within edges edge ends e in omega (arith, lt)
number_below edges edge Down ends e = let lt = slice_get_within edges edge ends e in omega (arith, lt)

-- the ends of a list differ
apart : (graph : ChordalValue) → IsChordal graph → (edge : ℕ) (dir : Dir) (ends : Ends) → slice_get graph.edges edge ≡ Some ends → start_of ends dir ≢ end_of ends dir
apart graph f edge dir ends e = ends_apart ends dir (rising_ends graph f edge ends e)

-- one more value in its group
group_push : (keys values : List ℕ) (k v key : ℕ) → length keys ≡ length values
    → group_of (keys ++ (k ∷ [])) (values ++ (v ∷ [])) key ≡ group_of keys values key ++ cond (eqb k key) (v ∷ []) []
group_push [] [] k v key e = refl
group_push [] (y ∷ ys) k v key e = absurd (omega (arith, e))
group_push (x ∷ xs) [] k v key e = absurd (omega (arith, e))
group_push (x ∷ xs) (y ∷ ys) k v key e = kept_append (eqb x key) y _ _ _ (group_push xs ys k v key (omega (arith, e)))

-- a higher number at the end keeps a list rising
rising_push : (xs : List ℕ) (a : ℕ) → IsStrictlyIncreasing xs → ((x : ℕ) → Contains xs x → x < a) → IsStrictlyIncreasing (xs ++ (a ∷ []))
rising_push xs a rising below k h =
    let long = length_push xs a in
    let inside : k < length xs = omega (arith, h, long) in
    let left = get_or_append_left xs (a ∷ []) 0 k inside in
    elim (cases_lt (k + 1) (length xs)) [
      | inl lt ↦
          let right = get_or_append_left xs (a ∷ []) 0 (k + 1) lt in
          let step = rising k lt in
          omega (arith, left, right, step)
      | inr ge ↦
          let last : length xs ≡ k + 1 = omega (arith, ge, inside) in
          let right = get_or_push xs a 0 (k + 1) last in
          let lt = below (get_or xs k 0) (k, inside, get_or_default xs k (get_or xs k 0) 0 inside) in
          omega (arith, left, right, lt)
    ]

module _ (g : NetworkValue) (o : OrderValue) where
  -- a road that doesn't lead there changes nothing
  until_skip : (u v a : ℕ) (arcs : List ℕ) → AreArcsUntil g o u v a arcs → (LinksRanks g o a u v → ⊥) → AreArcsUntil g o u v (a + 1) arcs
  until_skip u v a arcs f not_this = record {
    rising = f.rising;
    exact = λ b. (
      (λ c. let p = (f.exact b).0 c in (let lt = p.0 in omega (arith, lt), p.1)),
      λ p. elim (cases_lt b a) [
        | inl lt ↦ (f.exact b).1 (lt, p.1)
        | inr ge ↦ let same : b ≡ a = let lt = p.0 in omega (arith, lt, ge) in absurd (not_this (subst (λ (n : ℕ). LinksRanks g o n u v) same p.1))
      ],
    );
  }

  -- a road that leads there comes last
  until_more : (u v a : ℕ) (arcs : List ℕ) → AreArcsUntil g o u v a arcs → LinksRanks g o a u v → AreArcsUntil g o u v (a + 1) (arcs ++ (a ∷ []))
  until_more u v a arcs f this = record {
    rising = rising_push arcs a f.rising (λ x c. ((f.exact x).0 c).0);
    exact = λ b. (
      (λ c. elim (Contains-append_cases arcs (a ∷ []) b c) [
        | inl old ↦ let p = (f.exact b).0 old in (let lt = p.0 in omega (arith, lt), p.1)
        | inr new ↦ elim (member_cases a [] b new) [
          | inl same ↦ (omega (arith, same), subst (λ (n : ℕ). LinksRanks g o n u v) same this)
          | inr none ↦ absurd (none_in_nil b none)
        ]
      ]),
      λ p. elim (cases_lt b a) [
        | inl lt ↦ Contains-append_left arcs (a ∷ []) b ((f.exact b).1 (lt, p.1))
        | inr ge ↦
            let same : a ≡ b = let lt = p.0 in omega (arith, lt, ge) in
            Contains-append_right arcs (a ∷ []) b (subst (λ (n : ℕ). Contains (a ∷ []) n) same (here a []))
      ],
    );
  }

  -- before the first road nothing is gathered
  pub listed_none : (edges : List Ends) → AreListed g o edges 0 [] []
  listed_none edges = record {
    pairs = refl;
    few = omega arith;
    range = λ k d h. absurd (omega (arith, h));
    each = λ edge dir ends e. record {
      rising = λ k h. absurd (omega (arith, h));
      exact = λ a. ((λ c. absurd (none_in_nil a c)), λ p. absurd (let lt = p.0 in omega (arith, lt)));
    };
  }

  -- a loop is left out
  pub listed_skip : (graph : ChordalValue) → IsChordal graph → (a : ℕ) (numbers arcs : List ℕ) → AreListed g o graph.edges a numbers arcs → IsListOf g o graph.edges a None
      → AreListed g o graph.edges (a + 1) numbers arcs
  listed_skip graph c a numbers arcs f loop = record {
    pairs = f.pairs;
    few = let few = f.few in omega (arith, few);
    range = f.range;
    each = λ edge dir ends e. until_skip (start_of ends dir) (end_of ends dir) a (group_of numbers arcs (list_number edge dir)) (f.each edge dir ends e)
        (λ l. apart graph c edge dir ends e (loop (start_of ends dir) (end_of ends dir) l));
  }

  in_group : (graph : ChordalValue) → IsChordal graph → (a number : ℕ) (group : List ℕ) → IsListOf g o graph.edges a (Some number) → (edge : ℕ) (dir : Dir) (ends : Ends)
      → slice_get graph.edges edge ≡ Some ends → AreArcsUntil g o (start_of ends dir) (end_of ends dir) a group
      → AreArcsUntil g o (start_of ends dir) (end_of ends dir) (a + 1) (group ++ cond (eqb number (list_number edge dir)) (a ∷ []) [])
  in_group graph c a number group (edge2, dir2, ends2, is, at, links) edge dir ends e f =
      let u = start_of ends dir in
      let v = end_of ends dir in
      elim (cases_eq number (list_number edge dir)) [
        | inl same ↦
            let (edges_same, dirs_same) = number_parts edge2 edge dir2 dir (sym is ∙ same) in
            let at2 : slice_get graph.edges edge ≡ Some ends2 = subst (λ (n : ℕ). slice_get graph.edges n ≡ Some ends2) edges_same at in
            let ends_same : ends2 ≡ ends = cc (at2, e) in
            let here1 : LinksRanks g o a (start_of ends2 dir) (end_of ends2 dir) = subst (λ (d : Dir). LinksRanks g o a (start_of ends2 d) (end_of ends2 d)) dirs_same links in
            let here2 : LinksRanks g o a u v = subst (λ (x : Ends). LinksRanks g o a (start_of x dir) (end_of x dir)) ends_same here1 in
            let yes : eqb number (list_number edge dir) ≡ true = grind (arith, same) in
            rw yes (until_more u v a group f here2)
        | inr other ↦
            let no : eqb number (list_number edge dir) ≡ false = grind (arith, other) in
            let none : LinksRanks g o a u v → ⊥ = λ l.
            let (s, t) = links_same g o a (start_of ends2 dir2) (end_of ends2 dir2) u v links l in
            absurd (other (is ∙ same_list_number graph c edge2 edge dir2 dir ends2 ends at e s t)) in
            rw (no, append-nil group) (until_skip u v a group f none)
      ]

  -- any other road joins its list
  pub listed_more : (graph : ChordalValue) → IsChordal graph → (a number : ℕ) (numbers arcs : List ℕ) → AreListed g o graph.edges a numbers arcs
      → IsListOf g o graph.edges a (Some number) → AreListed g o graph.edges (a + 1) (numbers ++ (number ∷ [])) (arcs ++ (a ∷ []))
  listed_more graph c a number numbers arcs f list =
      let (edge2, dir2, ends2, is, at, links) = list in
      let long1 = length_push numbers number in
      let long2 = length_push arcs a in
      record {
        pairs = let same = f.pairs in omega (arith, long1, long2, same);
        few = let few = f.few in omega (arith, long1, few);
        range = All-push (λ (n : ℕ). n < 2 * length graph.edges) numbers number f.range (let lt = number_below graph.edges edge2 dir2 ends2 at in omega (arith, lt, is));
        each = λ edge dir ends e.
            let pushed = group_push numbers arcs number a (list_number edge dir) f.pairs in
            let more = in_group graph c a number (group_of numbers arcs (list_number edge dir)) list edge dir ends e (f.each edge dir ends e) in
            subst (λ (xs : List ℕ). AreArcsUntil g o (start_of ends dir) (end_of ends dir) (a + 1) xs) (sym pushed) more;
      }

  -- once all roads are gathered, the groups are the lists
  pub listed_all : (edges : List Ends) (numbers arcs : List ℕ) (lists : List (List ℕ)) → AreListed g o edges (length g.arcs) numbers arcs
      → AreGroups numbers arcs (2 * length edges) lists → AreEdgeArcs g o edges lists
  listed_all edges numbers arcs lists f groups = record {
    long = groups.long;
    each = λ edge dir ends some e at.
        let key = list_number edge dir in
        let u = start_of ends dir in
        let v = end_of ends dir in
        let is = groups.each key (number_below edges edge dir ends e) in
        let same : group_of numbers arcs key ≡ some = cc (is, at) in
        let until = f.each edge dir ends e in
        let from : AreArcsFrom g o u v (group_of numbers arcs key) = record {
          rising = until.rising;
          exact = λ a. ((λ c. ((until.exact a).0 c).1), λ l. (until.exact a).1 (links_within g a l.0 l.1 l.2, l));
        } in
        subst (λ (xs : List ℕ). AreArcsFrom g o u v xs) same from;
  }

  -- each of the lists rises
  pub lists_rise : (edges : List Ends) (lists : List (List ℕ)) → AreEdgeArcs g o edges lists → All IsStrictlyIncreasing lists
  lists_rise edges lists f k d h =
      let long = f.long in
      let edge = k / 2 in
      elim (slice_get_cases edges edge).1 [
        | inl (ends, inside, at, same) ↦
            let there = slice_get-get_or lists k d h in
            elim (cases_eq (k % 2) 0) [
              | inl even ↦
                  let is : k ≡ list_number edge Up = omega (arith, even) in
                  (f.each edge Up ends (get_or lists k d) at (subst (λ (n : ℕ). slice_get lists n ≡ Some (get_or lists k d)) is there)).rising
              | inr odd ↦
                  let is : k ≡ list_number edge Down = omega (arith, odd) in
                  (f.each edge Down ends (get_or lists k d) at (subst (λ (n : ℕ). slice_get lists n ≡ Some (get_or lists k d)) is there)).rising
            ]
        | inr past ↦ absurd (let over = past.0 in omega (arith, over, h, long))
      ]

-- no list is longer than the roads are many
pub groups_short : (keys values : List ℕ) (count most : ℕ) (lists : List (List ℕ)) → length keys ≡ length values → length keys ≤ most → AreGroups keys values count lists
    → All (λ list. length list ≤ most) lists
groups_short keys values count most lists pairs few f k d h =
    let long = f.long in
    let is : get_or lists k d ≡ group_of keys values k = get_or_from_slice_get lists k (group_of keys values k) d (f.each k (omega (arith, h, long))) in
    let same = ap length is ∙ length_group keys values k pairs in
    let within = at_le keys k in
    omega (arith, same, within, few)

finds_none : (edges : List Ends) (low high : ℕ) (o : Option ℕ) → FindsEdge edges low high o → o ≡ None → HasEdge edges low high → ⊥
finds_none edges low high None f e = f
finds_none edges low high (Some edge) f e = absurd (cc e)

finds_some : (edges : List Ends) (low high edge : ℕ) (o : Option ℕ) → FindsEdge edges low high o → o ≡ Some edge → slice_get edges edge ≡ Some (record { low = low; high = high })
finds_some edges low high edge None f e = absurd (cc e)
finds_some edges low high edge (Some found) f e = let same : found ≡ edge = cc e in subst (λ (n : ℕ). slice_get edges n ≡ Some (record { low = low; high = high })) same f

-- an edge that is found is one of few
pub finds_few : (graph : ChordalValue) → IsChordal graph → (low high edge : ℕ) (o : Option ℕ) → FindsEdge graph.edges low high o → o ≡ Some edge → edge < MAX_EDGES
finds_few graph c low high edge o f e =
    let lt = slice_get_within graph.edges edge (record { low = low; high = high }) (finds_some graph.edges low high edge o f e) in
    let few = c.few_edges in
    omega (arith, lt, few)

module _ (g : NetworkValue) (o : OrderValue) (graph : ChordalValue) (f : IsClosureOf g o graph) where
  -- a road joins the ends of an edge
  linked_edge : (a x y : ℕ) → LinksRanks g o a x y ⊎ LinksRanks g o a y x → x < y → HasEdge graph.edges x y
  linked_edge a x y l lt = (f.edges.exact x y).1 (lt, ((λ e. absurd (omega (arith, e, lt))), ([], (a, l))))

  -- a road upwards has an edge
  pub up_none : (a x y : ℕ) → LinksRanks g o a x y → x < y → (found : Option ℕ) → FindsEdge graph.edges x y found → found ≡ None → IsListOf g o graph.edges a None
  up_none a x y l lt found finds e = absurd (finds_none graph.edges x y found finds e (linked_edge a x y (inl l) lt))

  -- a road downwards that has none is a loop
  pub down_none : (a x y : ℕ) → LinksRanks g o a x y → y ≤ x → (found : Option ℕ) → FindsEdge graph.edges y x found → found ≡ None → IsListOf g o graph.edges a None
  down_none a x y l le found finds e =
      elim (cases_eq x y) [
        | inl same ↦ λ p q k. let (s, t) = links_same g o a x y p q l k in sym s ∙ same ∙ t
        | inr other ↦ absurd (finds_none graph.edges y x found finds e (linked_edge a y x (inr l) (omega (arith, le, other))))
      ]
