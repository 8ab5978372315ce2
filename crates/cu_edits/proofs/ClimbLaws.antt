-- Rank after rank the edges are found that one edge leads to.
use Rattle.std.proofs.Common.{◌≡◌, ◌≢◌, ◌≤◌, ◌<◌, ◌+◌, ◌∙◌, ◌⊎◌, ℕ, Bool, true, false, List, [], ◌∷◌, ◌++◌, Option, None, Some, refl, ap, sym, subst, arith, inl, inr, length, get_or}
use Rattle.std.specs.Prelude.{◌↔◌, ◌==◌, All, cond, max, min, slice_get}
use Rattle.std.specs.List.{AllPairs, Contains}
use Rattle.std.proofs.lemmas.Bool.{cases_eq, cases_lt, eqb-true}
use Rattle.std.proofs.lemmas.Bool.Decides.{eqb_tells}
use Rattle.std.proofs.lemmas.List.{get_or_default}
use Rattle.std.proofs.lemmas.List.Elements.{All-contains, All-head, All-tail, Contains-get_or, Contains-append_cases, Contains-append_left, Contains-append_right}
use Rattle.std.proofs.lemmas.List.Kept.{AllPairs-cons}
use Rattle.std.proofs.lemmas.Option.{get_or_from_slice_get, slice_get_within}
use Rattle.cu_chordal.specs.declared.graph.Ends.{Ends}
use Rattle.cu_chordal.specs.Graphs.{ChordalValue, ComesBefore, FindsEdge, HasEdge, IsChordal, IsRising, up_of}
use Rattle.cu_chordal.proofs.Members.{all_from_members, here, member_at, member_cases, none_in_nil, pairs_append, pairs_head, pairs_tail, place_of, there}
use Rattle.cu_chordal.proofs.Tables.{edge_from_up_of, edge_within, same_ends, up_of_from_edge, up_rising}
use Rattle.cu_interval.proofs.Lookups.{one_number}
use Rattle.cu_interval.specs.Hierarchies.{HierarchyValue, IsHierarchy}
use Rattle.cu_interval.proofs.ArcLists.{links_same}
use Rattle.cu_chordal.specs.Edges.{LinksRanks}
use Rattle.cu_edits.specs.Steps.Climbing.{ArePlanned, HasMarked, IsClimbed, IsEdgeOf, IsHead, IsMarked, IsTo, LeadToMarked, heads_behind}
use Rattle.cu_edits.specs.Steps.Found.{AddsFound, AreTouchedFrom, IsReached, LeadsTo, Reaches, joined_to, onward, start}
use Rattle.cu_edits.specs.Steps.Spreading.{IsBetween, IsOfRoad}
use Rattle.cu_edits.specs.declared.finding.Planned.{Planned}
use Rattle.cu_edits.proofs.FoundLaws.{OfFirst, found_as, stays_found}
use Rattle.cu_edits.proofs.Reached.{found_few, joined_all, joined_lowest, touched_rising}
use Rattle.cu_edits.proofs.Spreading.{between_down, between_up}

-- an edge that comes before another has a lower number
comes_less : (edges : List Ends) → IsRising edges → (j k : ℕ) (a b : Ends) → slice_get edges j ≡ Some a → slice_get edges k ≡ Some b → ComesBefore a b → j < k
comes_less edges rising j k a b at on comes =
    elim (cases_lt j k) [
      | inl less ↦ less
      | inr more ↦
          let one : get_or edges j a ≡ a = get_or_from_slice_get edges j a a at in
          let two : get_or edges k a ≡ b = get_or_from_slice_get edges k b a on in
          elim (cases_eq j k) [
            | inl same ↦
                let equal : a ≡ b = sym one ∙ ap (λ (i : ℕ). get_or edges i a) same ∙ two in
                absurd (not_itself a b equal comes)
            | inr apart ↦
                let before : ComesBefore (get_or edges k a) (get_or edges j a) = rising k j a (omega (arith, more, apart)) (slice_get_within edges j a at) in
                let is : ComesBefore b a = subst (λ (x : Ends). ComesBefore x a) two (subst (λ (x : Ends). ComesBefore (get_or edges k a) x) one before) in
                absurd (not_both a b comes is)
          ]
    ]
  where
    not_both : (a b : Ends) → ComesBefore a b → ComesBefore b a → ⊥
    not_both a b (inl x) (inl y) = omega (arith, x, y)
    not_both a b (inl x) (inr y) = let e = y.0 in omega (arith, x, e)
    not_both a b (inr x) (inl y) = let e = x.0 in omega (arith, y, e)
    not_both a b (inr x) (inr y) = let f = x.1 in let g = y.1 in omega (arith, f, g)

    not_itself : (a b : Ends) → a ≡ b → ComesBefore a b → ⊥
    not_itself a b same (inl x) = let low : a.low ≡ b.low = ap (λ (e : Ends). e.low) same in omega (arith, low, x)
    not_itself a b same (inr x) = let high : a.high ≡ b.high = ap (λ (e : Ends). e.high) same in let f = x.1 in omega (arith, high, f)

-- the edges from a rank to its heads, by rising number
pub record AreOwn (edges : List Ends) (rank : ℕ) (heads own : List ℕ) : Type 0 where
  pub pairs : AllPairs (λ x y. x < y) own
  pub exact : (e : ℕ) → Contains own e ↔ IsHead edges rank heads e
  pub long : length own ≡ length heads

pub own_of : (edges : List Ends) → IsRising edges → (rank : ℕ) (heads : List ℕ) → AllPairs (λ x y. x < y) heads → All (λ x. HasEdge edges rank x) heads
    → (own : List ℕ) × AreOwn edges rank heads own
own_of edges rising rank [] pairs all = (
  [],
  record {
    pairs = λ i j d lt h. absurd (omega (arith, h));
    exact = λ e. ((λ c. absurd (none_in_nil e c)), λ head. absurd (none_in_nil head.0 head.1));
    long = refl;
  },
)
own_of edges rising rank (x ∷ xs) pairs all =
    let (e, at) = place_of edges (record { low = rank; high = x }) (All-head (λ (y : ℕ). HasEdge edges rank y) x xs all) in
    let (rest, own) = own_of edges rising rank xs (pairs_tail (λ (y z : ℕ). y < z) x xs pairs) (All-tail (λ (y : ℕ). HasEdge edges rank y) x xs all) in
    let above : All (λ y. x < y) xs = pairs_head (λ (y z : ℕ). y < z) x xs pairs in (
      e ∷ rest,
      record {
        pairs = AllPairs-cons (λ (y z : ℕ). y < z) e rest
            (all_from_members (λ f. e < f) rest (λ f c.
            let (y, among, on) = (own.exact f).0 c in
            comes_less edges rising e f (record { low = rank; high = x }) (record { low = rank; high = y }) at on (inr (refl, All-contains (λ (z : ℕ). x < z) xs y above among))))
            own.pairs;
        exact = λ f. (
          (λ c. elim (member_cases e rest f c) [
            | inl same ↦ (x, here x xs, subst (λ (k : ℕ). slice_get edges k ≡ Some (record { low = rank; high = x })) same at)
            | inr past ↦ let (y, among, on) = (own.exact f).0 past in (y, there x xs y among, on)
          ]),
          λ head. let (y, among, on) = head in elim (member_cases x xs y among) [
            | inl same ↦
                let is : e ≡ f = one_number edges rising e f rank x at (subst (λ (z : ℕ). slice_get edges f ≡ Some (record { low = rank; high = z })) (sym same) on) in
                subst (Contains (e ∷ rest)) is (here e rest)
            | inr past ↦ there e rest f ((own.exact f).1 (y, past, on))
          ],
        );
        long = let l = own.long in omega (arith, l);
      },
    )

-- what is known before the edges from a rank to its heads are found: of those found so far, and of some of them
pub record AreClimbing (graph : ChordalValue) (first : ℕ) (marks : List Bool) (rank : ℕ) (heads found some : List ℕ) (is_known : Bool) : Type 0 where
  pub pairs : AllPairs (λ x y. x < y) found
  pub below : (e : ℕ) → Contains found e → (ends : Ends) × (slice_get graph.edges e ≡ Some ends) × (ends.low < rank)
  pub rise : AllPairs (λ x y. x < y) heads
  pub sides : All (λ x. HasEdge graph.edges rank x) heads
  pub begun : Contains found first ⊎ IsHead graph.edges rank heads first
  pub each : (e : ℕ) → Contains found e ⊎ IsHead graph.edges rank heads e → IsReached graph.edges (first ∷ []) e
  pub near : (e next : ℕ) → Contains found e → LeadsTo graph.edges e next → Contains found next ⊎ IsHead graph.edges rank heads next
  pub of : (e : ℕ) → Contains some e → Contains found e
  pub marked : LeadToMarked graph.edges marks → (e : ℕ) → Contains found e → Contains some e ⊎ IsMarked marks e
  pub known : LeadToMarked graph.edges marks → is_known ≡ true → (e : ℕ) → IsHead graph.edges rank heads e → IsMarked marks e

-- at first the edge itself is the only one
pub climbing_none : (graph : ChordalValue) → IsChordal graph → (first : ℕ) (marks : List Bool) (low high : ℕ) → slice_get graph.edges first ≡ Some (record { low = low; high = high })
    → AreClimbing graph first marks low (high ∷ []) [] [] false
climbing_none graph sound first marks low high at = record {
  pairs = λ i j d lt h. absurd (omega (arith, h));
  below = λ e c. absurd (none_in_nil e c);
  rise = λ i j d lt h. absurd (omega (arith, lt, h));
  sides = all_from_members (λ x. HasEdge graph.edges low x) (high ∷ []) (λ x c. elim (member_cases high [] x c) [
    | inl same ↦ subst (λ (y : ℕ). HasEdge graph.edges low y) same (member_at graph.edges (record { low = low; high = high }) first at)
    | inr past ↦ absurd (none_in_nil x past)
  ]);
  begun = inr (high, here high [], at);
  each = λ e is. elim is [
    | inl c ↦ absurd (none_in_nil e c)
    | inr head ↦
        let (x, among, on) = head in
        elim (member_cases high [] x among) [
          | inl same ↦
              let one : first ≡ e = one_number graph.edges sound.rising first e low high at (subst (λ (y : ℕ). slice_get graph.edges e ≡ Some (record { low = low; high = y })) (sym same) on) in
              start e (subst (Contains (first ∷ [])) one (here first []))
          | inr past ↦ absurd (none_in_nil x past)
        ]
  ];
  near = λ e next c. absurd (none_in_nil e c);
  of = λ e c. absurd (none_in_nil e c);
  marked = λ leads e c. absurd (none_in_nil e c);
  known = λ leads is_set. absurd (cc is_set);
}

-- the edges from the next rank to its heads are those that the edges from a rank to its heads lead to
module _ (graph : ChordalValue) (sound : IsChordal graph) (rank lowest : ℕ) (others : List ℕ) (first : ℕ) (rest : List ℕ)
    (ups : lowest ∷ others ≡ up_of graph.edges rank)
    (rise : AllPairs (λ x y. x < y) (first ∷ rest)) (sides : All (λ x. HasEdge graph.edges rank x) (first ∷ rest)) where
  up_pairs : AllPairs (λ x y. x < y) (lowest ∷ others)
  up_pairs = subst (AllPairs (λ x y. x < y)) (sym ups) (up_rising graph.edges rank sound.rising)

  up_there : (x : ℕ) → HasEdge graph.edges rank x → Contains (lowest ∷ others) x
  up_there x has = subst (λ (us : List ℕ). Contains us x) (sym ups) (up_of_from_edge graph.edges rank x has)

  up_edge : (x : ℕ) → Contains (lowest ∷ others) x → HasEdge graph.edges rank x
  up_edge x c = edge_from_up_of graph.edges rank x (subst (λ (us : List ℕ). Contains us x) ups c)

  head_edge : (x : ℕ) → Contains (first ∷ rest) x → HasEdge graph.edges rank x
  head_edge x c = All-contains (λ (y : ℕ). HasEdge graph.edges rank y) (first ∷ rest) x sides c

  pub lowest_edge : HasEdge graph.edges rank lowest
  lowest_edge = up_edge lowest (here lowest others)

  least : (x : ℕ) → HasEdge graph.edges rank x → lowest ≤ x
  least x has = elim (member_cases lowest others x (up_there x has)) [
    | inl same ↦ omega (arith, same)
    | inr past ↦ let lt = All-contains (λ (y : ℕ). lowest < y) others x (pairs_head (λ (y z : ℕ). y < z) lowest others up_pairs) past in omega (arith, lt)
  ]

  first_least : (x : ℕ) → Contains (first ∷ rest) x → first ≤ x
  first_least x c = elim (member_cases first rest x c) [
    | inl same ↦ omega (arith, same)
    | inr past ↦ let lt = All-contains (λ (y : ℕ). first < y) rest x (pairs_head (λ (y z : ℕ). y < z) first rest rise) past in omega (arith, lt)
  ]

  now_others : lowest ≡ first → (heads_behind (lowest ∷ others) (first ∷ rest)) ≡ others
  now_others same = elim (eqb_tells lowest first) [
    | inl at ↦ ap (λ b. cond b others (first ∷ rest)) at.0
    | inr off ↦ absurd (off.1 same)
  ]

  now_same : lowest ≢ first → (heads_behind (lowest ∷ others) (first ∷ rest)) ≡ first ∷ rest
  now_same apart = elim (eqb_tells lowest first) [
    | inl at ↦ absurd (apart at.1)
    | inr off ↦ ap (λ b. cond b others (first ∷ rest)) off.0
  ]

  -- each is a higher neighbour of the rank above its lowest
  now_above : (x : ℕ) → Contains (heads_behind (lowest ∷ others) (first ∷ rest)) x → HasEdge graph.edges rank x × (lowest < x)
  now_above x c = elim (cases_eq lowest first) [
    | inl same ↦
        let past : Contains others x = subst (λ (xs : List ℕ). Contains xs x) (now_others same) c in
        (up_edge x (there lowest others x past), All-contains (λ (y : ℕ). lowest < y) others x (pairs_head (λ (y z : ℕ). y < z) lowest others up_pairs) past)
    | inr apart ↦
        let among : Contains (first ∷ rest) x = subst (λ (xs : List ℕ). Contains xs x) (now_same apart) c in
        let least_first = least first (head_edge first (here first rest)) in
        let from_first = first_least x among in
        (head_edge x among, omega (arith, least_first, from_first, apart))
  ]

  pub now_sides : All (λ x. HasEdge graph.edges lowest x) (heads_behind (lowest ∷ others) (first ∷ rest))
  now_sides = all_from_members (λ x. HasEdge graph.edges lowest x) (heads_behind (lowest ∷ others) (first ∷ rest)) (λ x c.
      let both = now_above x c in
      sound.chordal rank lowest x lowest_edge both.0 both.1)

  pub now_rise : AllPairs (λ x y. x < y) (heads_behind (lowest ∷ others) (first ∷ rest))
  now_rise = elim (cases_eq lowest first) [
    | inl same ↦ subst (AllPairs (λ x y. x < y)) (sym (now_others same)) (pairs_tail (λ (y z : ℕ). y < z) lowest others up_pairs)
    | inr apart ↦ subst (AllPairs (λ x y. x < y)) (sym (now_same apart)) rise
  ]

  -- where the lowest neighbour is a head, the edge to it leads to all of them
  lowest_leads : lowest ≡ first → (from e : ℕ) → slice_get graph.edges from ≡ Some (record { low = rank; high = lowest }) → IsHead graph.edges lowest (heads_behind (lowest ∷ others) (first ∷ rest)) e → LeadsTo graph.edges from e
  lowest_leads same from e at (y, among, on) =
      let past : Contains others y = subst (λ (xs : List ℕ). Contains xs y) (now_others same) among in
      let above = (now_above y among).1 in (
        record { low = rank; high = lowest },
        y,
        at,
        subst (λ (us : List ℕ). Contains (joined_to us lowest) y) ups (joined_all lowest others lowest y refl (there lowest others y past)),
        between_down graph.edges lowest y e above on,
      )

  pub led : (e : ℕ) → IsHead graph.edges lowest (heads_behind (lowest ∷ others) (first ∷ rest)) e → (from : ℕ) × IsHead graph.edges rank (first ∷ rest) from × LeadsTo graph.edges from e
  led e (y, among, on) = elim (cases_eq lowest first) [
    | inl same ↦
        let (from, at) = place_of graph.edges (record { low = rank; high = lowest }) lowest_edge in
        (from, (lowest, subst (Contains (first ∷ rest)) (sym same) (here first rest), at), lowest_leads same from e at (y, among, on))
    | inr apart ↦
        let (has, above) = now_above y among in
        let own : Contains (first ∷ rest) y = subst (λ (xs : List ℕ). Contains xs y) (now_same apart) among in
        let (from, at) = place_of graph.edges (record { low = rank; high = y }) has in (
          from,
          (y, own, at),
          (
            record { low = rank; high = y },
            lowest,
            at,
            subst (λ (us : List ℕ). Contains (joined_to us y) lowest) ups (joined_lowest lowest others y),
            between_up graph.edges lowest y e above on,
          ),
        )
  ]

  -- from a marked edge to the lowest neighbour, a head, all of them are marked
  pub marked_led : (marks : List Bool) → LeadToMarked graph.edges marks → HasMarked graph.edges rank first marks → (e : ℕ) → IsHead graph.edges lowest (heads_behind (lowest ∷ others) (first ∷ rest)) e → IsMarked marks e
  marked_led marks leads (from, at, parent, marked) e head =
      let read : slice_get (lowest ∷ others) 0 ≡ Some first = subst (λ (us : List ℕ). slice_get us 0 ≡ Some first) (sym ups) parent in
      let same : lowest ≡ first = cc read in
      leads from e marked (lowest_leads same from e (subst (λ (x : ℕ). slice_get graph.edges from ≡ Some (record { low = rank; high = x })) (sym same) at) head)

  -- and what they lead to is among these
  pub led_now : (e next : ℕ) → IsHead graph.edges rank (first ∷ rest) e → LeadsTo graph.edges e next → IsHead graph.edges lowest (heads_behind (lowest ∷ others) (first ∷ rest)) next
  led_now e next (x, among, at) (ends, k, there_at, joined, between) =
      let is : ends ≡ record { low = rank; high = x } = cc (at, there_at) in
      let own : Contains (joined_to (up_of graph.edges rank) x) k = subst (λ (n : Ends). Contains (joined_to (up_of graph.edges n.low) n.high) k) is joined in
      let to_k : Contains (joined_to (lowest ∷ others) x) k = subst (λ (us : List ℕ). Contains (joined_to us x) k) (sym ups) own in
      let on : IsBetween graph.edges k x next = subst (λ (n : Ends). IsBetween graph.edges k n.high next) is between in
      let apart = (edge_within graph sound (min k x) (max k x) (member_at graph.edges (record { low = min k x; high = max k x }) next on)).0 in
      let has = head_edge x among in
      let least_x = least x has in
      elim (eqb_tells lowest x) [
        | inl same ↦
            let all : Contains (lowest ∷ others) k = subst (λ b. Contains (cond b (lowest ∷ others) (lowest ∷ [])) k) same.0 to_k in
            let past : Contains others k = elim (member_cases lowest others k all) [
              | inl own ↦ absurd (let s = same.1 in omega (arith, own, s, apart))
              | inr past ↦ past
            ] in
            let first_x = first_least x among in
            let least_first = least first (head_edge first (here first rest)) in
            let heads : lowest ≡ first = let s = same.1 in omega (arith, s, first_x, least_first) in
            let above : lowest < k = All-contains (λ (y : ℕ). lowest < y) others k (pairs_head (λ (y z : ℕ). y < z) lowest others up_pairs) past in
            let low : min k x ≡ lowest = let s = same.1 in omega (arith, s, above) in
            let high : max k x ≡ k = let s = same.1 in omega (arith, s, above) in (
              k,
              subst (λ (xs : List ℕ). Contains xs k) (sym (now_others heads)) past,
              subst (λ (p : ℕ). slice_get graph.edges next ≡ Some (record { low = p; high = k })) low
                  (subst (λ (q : ℕ). slice_get graph.edges next ≡ Some (record { low = min k x; high = q })) high on),
            )
        | inr off ↦
            let one : Contains (lowest ∷ []) k = subst (λ b. Contains (cond b (lowest ∷ others) (lowest ∷ [])) k) off.0 to_k in
            let is_lowest : lowest ≡ k = elim (member_cases lowest [] k one) [ inl own ↦ own | inr none ↦ absurd (none_in_nil k none) ] in
            let ne = off.1 in
            let above : lowest < x = elim (cases_eq lowest x) [ inl s ↦ absurd (ne s) | inr s ↦ omega (arith, s, least_x) ] in
            let low : min k x ≡ lowest = omega (arith, is_lowest, above) in
            let high : max k x ≡ x = omega (arith, is_lowest, above) in (
              x,
              elim (cases_eq lowest first) [
                | inl heads ↦ subst (λ (xs : List ℕ). Contains xs x) (sym (now_others heads)) (elim (member_cases lowest others x (up_there x has)) [
                  | inl s ↦ absurd (ne s)
                  | inr past ↦ past
                ])
                | inr heads ↦ subst (λ (xs : List ℕ). Contains xs x) (sym (now_same heads)) among
              ],
              subst (λ (p : ℕ). slice_get graph.edges next ≡ Some (record { low = p; high = x })) low
                  (subst (λ (q : ℕ). slice_get graph.edges next ≡ Some (record { low = min k x; high = q })) high on),
            )
      ]

long_both : (xs ys : List ℕ) → length (xs ++ ys) ≡ length xs + length ys
long_both [] ys = omega arith
long_both (x ∷ xs) ys = let l = long_both xs ys in omega (arith, l)

-- with the edges from a rank to its heads more are found, by rising number
pub found_more : (graph : ChordalValue) → IsChordal graph → (first : ℕ) (marks : List Bool) (rank : ℕ) (heads found some own : List ℕ) (is_known : Bool)
    → AreClimbing graph first marks rank heads found some is_known → AreOwn graph.edges rank heads own → AllPairs (λ x y. x < y) (found ++ own)
found_more graph sound first marks rank heads found some own is_known so are =
    pairs_append (λ (x y : ℕ). x < y) found own so.pairs are.pairs (λ e f c d.
    let (ends, at, lt) = so.below e c in
    let (x, among, on) = (are.exact f).0 d in
    comes_less graph.edges sound.rising e f ends (record { low = rank; high = x }) at on (inl lt))

-- no more than there are edges
pub few_more : (graph : ChordalValue) → IsChordal graph → (first : ℕ) (marks : List Bool) (rank : ℕ) (heads found some : List ℕ) (is_known : Bool)
    → AreClimbing graph first marks rank heads found some is_known → length found + length heads ≤ length graph.edges
few_more graph sound first marks rank heads found some is_known so =
    let (own, are) = own_of graph.edges sound.rising rank heads so.rise so.sides in
    let pairs = found_more graph sound first marks rank heads found some own is_known so are in
    let few = found_few (length graph.edges) (found ++ own) (λ i j d lt h same. let less = pairs i j d lt h in omega (arith, less, same))
    (all_from_members (λ e. e < length graph.edges) (found ++ own) (λ e c. elim (Contains-append_cases found own e c) [
      | inl before ↦ let (ends, at, lt) = so.below e before in slice_get_within graph.edges e ends at
      | inr new ↦ let (x, among, on) = (are.exact e).0 new in slice_get_within graph.edges e (record { low = rank; high = x }) on
    ])) in
    let long = are.long in
    let both = long_both found own in
    omega (arith, few, long, both)

-- one rank more
pub climbing_more : (graph : ChordalValue) → IsChordal graph → (begin : ℕ) (marks : List Bool) (rank : ℕ) (heads found some : List ℕ) (is_known : Bool)
    → AreClimbing graph begin marks rank heads found some is_known → (lowest : ℕ) (others : List ℕ) (first : ℕ) (rest : List ℕ) (now_some : List ℕ) (now_known : Bool)
    → heads ≡ first ∷ rest → lowest ∷ others ≡ up_of graph.edges rank
    → ((e : ℕ) → Contains now_some e ↔ (Contains some e ⊎ ((is_known ≡ false) × IsHead graph.edges rank heads e)))
    → (now_known ≡ true → (is_known ≡ true) ⊎ ((x : ℕ) × (slice_get heads 0 ≡ Some x) × HasMarked graph.edges rank x marks))
    → (now_found : List ℕ) × AreClimbing graph begin marks lowest (heads_behind (lowest ∷ others) heads) now_found now_some now_known × (length now_found ≡ length found + length heads)
climbing_more graph sound begin marks rank heads found some is_known so lowest others first rest now_some now_known is ups added knows =
    let (own, are) = own_of graph.edges sound.rising rank heads so.rise so.sides in
    let rise = subst (AllPairs (λ x y. x < y)) is so.rise in
    let sides = subst (All (λ x. HasEdge graph.edges rank x)) is so.sides in
    let above = (edge_within graph sound rank lowest (lowest_edge graph sound rank lowest others first rest ups rise sides)).0 in
    let next = heads_behind (lowest ∷ others) (first ∷ rest) in
    let same : next ≡ heads_behind (lowest ∷ others) heads = ap (heads_behind (lowest ∷ others)) (sym is) in
    let head : (e : ℕ) → IsHead graph.edges rank (first ∷ rest) e → IsHead graph.edges rank heads e = λ e h. subst (λ (xs : List ℕ). IsHead graph.edges rank xs e) (sym is) h in
    let head_of : (e : ℕ) → IsHead graph.edges rank heads e → IsHead graph.edges rank (first ∷ rest) e = λ e h. subst (λ (xs : List ℕ). IsHead graph.edges rank xs e) is h in
    let reached_own : (e : ℕ) → Contains (found ++ own) e → IsReached graph.edges (begin ∷ []) e = λ e c. elim (Contains-append_cases found own e c) [
      | inl before ↦ so.each e (inl before)
      | inr new ↦ so.each e (inr ((are.exact e).0 new))
    ] in
    let all : AreClimbing graph begin marks lowest next (found ++ own) now_some now_known = record {
      pairs = found_more graph sound begin marks rank heads found some own is_known so are;
      below = λ e c. elim (Contains-append_cases found own e c) [
        | inl before ↦ let (ends, at, lt) = so.below e before in (ends, at, omega (arith, lt, above))
        | inr new ↦ let (x, among, on) = (are.exact e).0 new in (record { low = rank; high = x }, on, above)
      ];
      rise = now_rise graph sound rank lowest others first rest ups rise sides;
      sides = now_sides graph sound rank lowest others first rest ups rise sides;
      begun = elim so.begun [
        | inl before ↦ inl (Contains-append_left found own begin before)
        | inr own_head ↦ inl (Contains-append_right found own begin ((are.exact begin).1 own_head))
      ];
      each = λ e either. elim either [
        | inl c ↦ reached_own e c
        | inr h ↦
            let (from, from_head, leads) = led graph sound rank lowest others first rest ups rise sides e h in
            onward from e (so.each from (inr (head from from_head))) leads
      ];
      near = λ e onto c leads. elim (Contains-append_cases found own e c) [
        | inl before ↦ elim (so.near e onto before leads) [
          | inl old ↦ inl (Contains-append_left found own onto old)
          | inr own_head ↦ inl (Contains-append_right found own onto ((are.exact onto).1 own_head))
        ]
        | inr new ↦ inr (led_now graph sound rank lowest others first rest ups rise sides e onto (head_of e ((are.exact e).0 new)) leads)
      ];
      of = λ e c. elim ((added e).0 c) [
        | inl before ↦ Contains-append_left found own e (so.of e before)
        | inr new ↦ let (unset, own_head) = new in Contains-append_right found own e ((are.exact e).1 own_head)
      ];
      marked = λ leads e c. elim (Contains-append_cases found own e c) [
        | inl before ↦ elim (so.marked leads e before) [ inl old ↦ inl ((added e).1 (inl old)) | inr mark ↦ inr mark ]
        | inr new ↦ own_marked leads e ((are.exact e).0 new) is_known refl
      ];
      known = λ leads is_set e h. elim (knows is_set) [
        | inl before ↦
            let (from, from_head, to) = led graph sound rank lowest others first rest ups rise sides e h in
            leads from e (so.known leads before from (head from from_head)) to
        | inr marked ↦
            let (x, read, has) = marked in
            let at : slice_get (first ∷ rest) 0 ≡ Some x = subst (λ (xs : List ℕ). slice_get xs 0 ≡ Some x) is read in
            let one : x ≡ first = cc at in
            marked_led graph sound rank lowest others first rest ups rise sides marks leads (subst (λ (y : ℕ). HasMarked graph.edges rank y marks) one has) e h
      ];
    } in
    let long = are.long in
    let both = long_both found own in (
      found ++ own,
      subst (λ (xs : List ℕ). AreClimbing graph begin marks lowest xs (found ++ own) now_some now_known) same all,
      omega (arith, long, both),
    )
  where
    own_marked : LeadToMarked graph.edges marks → (e : ℕ) → IsHead graph.edges rank heads e → (b : Bool) → is_known ≡ b → Contains now_some e ⊎ IsMarked marks e
    own_marked leads e h true is_set = inr (so.known leads is_set e h)
    own_marked leads e h false unset = inl ((added e).1 (inr (unset, h)))

-- where no head is left all are found
pub climbed_all : (graph : ChordalValue) (begin : ℕ) (marks : List Bool) (rank : ℕ) (found some : List ℕ) (is_known : Bool) (count : ℕ)
    → AreClimbing graph begin marks rank [] found some is_known → count ≡ length found → IsClimbed graph.edges begin marks some count
climbed_all graph begin marks rank found some is_known count so counted leads = (
  found,
  (λ e. ((λ c. so.each e (inl c)), back e)),
  so.pairs,
  record { counts = counted; of = so.of; marked = so.marked leads },
)
  where
    no_head : (e : ℕ) → Contains found e ⊎ IsHead graph.edges rank [] e → Contains found e
    no_head e (inl c) = c
    no_head e (inr head) = absurd (none_in_nil head.0 head.1)

    back : (e : ℕ) → IsReached graph.edges (begin ∷ []) e → Contains found e
    back _ (start e c) = elim (member_cases begin [] e c) [
      | inl same ↦ subst (Contains found) same (no_head begin so.begun)
      | inr past ↦ absurd (none_in_nil e past)
    ]
    back _ (onward e next reached leads) = no_head next (so.near e next (back e reached) leads)

-- what was added are those found before and the new ones
pub both_found : (IsNew : ℕ → Type 0) (old now : List ℕ) → AddsFound IsNew old now → (e : ℕ) → Contains now e ↔ (Contains old e ⊎ IsNew e)
both_found IsNew old now adds e = (adds.each e, λ either. elim either [ inl before ↦ stays_found IsNew old now adds e before | inr new ↦ adds.all e new ])

-- the edges to all heads were added
pub found_heads : (edges : List Ends) (rank : ℕ) (heads : List ℕ) (count : ℕ) (old now : List ℕ) → count ≡ length heads
    → AddsFound (OfFirst (λ head. IsTo edges rank head) heads count) old now → AddsFound (IsHead edges rank heads) old now
found_heads edges rank heads count old now all adds =
    found_as (OfFirst (λ head. IsTo edges rank head) heads count) (IsHead edges rank heads) old now
    (λ e. (
      (λ t. (get_or heads t.0 0, Contains-get_or heads t.0 0 (omega (arith, t.1, all)), t.2)),
      λ a.
          let (head, (i, inside, read), at) = a in
          let value : head ≡ get_or heads i 0 = sym read ∙ get_or_default heads i head 0 inside in
          (i, omega (arith, inside, all), subst (λ (k : ℕ). IsTo edges rank k e) value at),
    )) adds

pub some_first : (xs : List ℕ) → xs ≢ [] → (x : ℕ) × (rest : List ℕ) × (xs ≡ x ∷ rest)
some_first [] some = absurd (some refl)
some_first (x ∷ rest) some = (x, rest, refl)

pub only_first : (xs : List ℕ) → length xs ≡ 1 → xs ≡ get_or xs 0 0 ∷ []
only_first [] one = absurd (omega (arith, one))
only_first (x ∷ []) one = refl
only_first (x ∷ y ∷ rest) one = absurd (omega (arith, one))

pub none_empty : (x : ℕ) (xs : List ℕ) → Contains xs x → xs ≢ []
none_empty x xs c none = none_in_nil x (subst (λ (ys : List ℕ). Contains ys x) none c)

-- the edge between the ends of a road is its own
pub edge_of_links : (h : HierarchyValue) (edges : List Ends) (arc x y low high : ℕ) (found : Option ℕ) → edges ≡ h.edges → LinksRanks h.network h.order arc x y → low ≡ min x y → high ≡ max x y
    → FindsEdge edges low high found → IsEdgeOf h arc found
edge_of_links h edges arc x y low high None same links low_is high_is none = λ e own.
    (let (p, q, other, at) = own in
    let (one, two) = links_same h.network h.order arc x y p q links other in
    let is = same_ends (record { low = min p q; high = max p q }) low high (omega (arith, one, two, low_is)) (omega (arith, one, two, high_is)) in
    let between : slice_get h.edges e ≡ Some (record { low = low; high = high }) = at ∙ ap (λ (n : Ends). Some n) is in
    none (member_at edges (record { low = low; high = high }) e (subst (λ (es : List Ends). slice_get es e ≡ Some (record { low = low; high = high })) (sym same) between)))
edge_of_links h edges arc x y low high (Some e) same links low_is high_is at = (
  x,
  y,
  links,
  subst (λ (es : List Ends). IsBetween es x y e) same
      (subst (λ (p : ℕ). slice_get edges e ≡ Some (record { low = p; high = max x y })) low_is
      (subst (λ (q : ℕ). slice_get edges e ≡ Some (record { low = low; high = q })) high_is at)),
)

-- a road with no edge touches none
pub planned_none : (h : HierarchyValue) → IsHierarchy h → (arc : ℕ) (marks : List Bool) (planned : Planned) → ((e : ℕ) → IsOfRoad h arc e → ⊥) → planned.edges.items ≡ [] → planned.count ≡ 0
    → ArePlanned h (arc ∷ []) marks planned
planned_none h sound arc marks planned none empty zero_is leads = (
  [],
  touched_rising h sound (arc ∷ []) [] []
      (λ e. (
        (λ c. absurd (none_in_nil e c)),
        λ own. let (a, among, of) = own in absurd (none e (subst (λ (k : ℕ). IsOfRoad h k e) (only arc a among) of)),
      ))
      (λ e. ((λ c. absurd (none_in_nil e c)), λ reached. absurd (unreached e reached)))
      (λ i j d lt inside. absurd (omega (arith, inside))),
  record {
    counts = zero_is;
    of = λ e c. absurd (none_in_nil e (subst (λ (xs : List ℕ). Contains xs e) empty c));
    marked = λ e c. absurd (none_in_nil e c);
  },
)
  where
    only : (arc a : ℕ) → Contains (arc ∷ []) a → a ≡ arc
    only arc a c = elim (member_cases arc [] a c) [ inl same ↦ sym same | inr past ↦ absurd (none_in_nil a past) ]

    unreached : (e : ℕ) → IsReached h.edges [] e → ⊥
    unreached _ (start e c) = none_in_nil e c
    unreached _ (onward e next reached leads) = unreached e reached

-- and one with an edge those that this leads to
pub planned_road : (h : HierarchyValue) → IsHierarchy h → (edges : List Ends) → edges ≡ h.edges → (arc edge : ℕ) (marks : List Bool) (planned : Planned) → IsOfRoad h arc edge
    → IsClimbed edges edge marks planned.edges.items planned.count → ArePlanned h (arc ∷ []) marks planned
planned_road h sound edges same arc edge marks planned own climbed leads =
    let (all, reaches, pairs, counted) = climbed (subst (λ (es : List Ends). LeadToMarked es marks) (sym same) leads) in (
      all,
      touched_rising h sound (arc ∷ []) (edge ∷ []) all
          (λ e. (
            (λ c. (arc, here arc [], subst (IsOfRoad h arc) (first_is e c) own)),
            λ of. let (a, among, road) = of in subst (Contains (edge ∷ [])) (one_edge e (subst (λ (k : ℕ). IsOfRoad h k e) (only a among) road)) (here edge []),
          ))
          (subst (λ (es : List Ends). Reaches es (edge ∷ []) all) same reaches) pairs,
      counted,
    )
  where
    first_is : (e : ℕ) → Contains (edge ∷ []) e → edge ≡ e
    first_is e c = elim (member_cases edge [] e c) [ inl is ↦ is | inr past ↦ absurd (none_in_nil e past) ]

    only : (a : ℕ) → Contains (arc ∷ []) a → a ≡ arc
    only a c = elim (member_cases arc [] a c) [ inl is ↦ sym is | inr past ↦ absurd (none_in_nil a past) ]

    one_edge : (e : ℕ) → IsOfRoad h arc e → edge ≡ e
    one_edge e (p, q, other, at) =
        let (x, y, links, on) = own in
        let (one, two) = links_same h.network h.order arc x y p q links other in
        one_number h.edges sound.graph.rising edge e (min x y) (max x y) on
        (subst (λ (k : ℕ). IsBetween h.edges x k e) (sym two) (subst (λ (k : ℕ). IsBetween h.edges k q e) (sym one) at))

pub some_long : (xs : List ℕ) → xs ≢ [] → 0 < length xs
some_long [] some = absurd (some refl)
some_long (x ∷ xs) some = omega arith

-- a rank with a head has a higher neighbour, and is a rank
pub heads_sides : (graph : ChordalValue) → IsChordal graph → (begin : ℕ) (marks : List Bool) (rank : ℕ) (heads found some : List ℕ) (is_known : Bool)
    → AreClimbing graph begin marks rank heads found some is_known → heads ≢ [] → (ups : List ℕ) → ups ≡ up_of graph.edges rank → ups ≢ []
heads_sides graph sound begin marks rank heads found some is_known so full ups are =
    let (first, rest, is) = some_first heads full in
    let has = All-head (λ (x : ℕ). HasEdge graph.edges rank x) first rest (subst (All (λ x. HasEdge graph.edges rank x)) is so.sides) in
    none_empty first ups (subst (λ (us : List ℕ). Contains us first) (sym are) (up_of_from_edge graph.edges rank first has))

-- the same with what a step of the way does
pub climbing_next : (graph : ChordalValue) → IsChordal graph → (begin : ℕ) (marks : List Bool) (rank : ℕ) (heads found some : List ℕ) (is_known : Bool) (count : ℕ)
    → AreClimbing graph begin marks rank heads found some is_known → heads ≢ [] → (ups : List ℕ) → ups ≡ up_of graph.edges rank → (now_some : List ℕ) (now_known : Bool) (now_heads : List ℕ)
    → now_heads ≡ heads_behind ups heads → AddsFound (λ e. (is_known ≡ false) × IsHead graph.edges rank heads e) some now_some
    → (now_known ≡ true → (is_known ≡ true) ⊎ ((x : ℕ) × (slice_get heads 0 ≡ Some x) × HasMarked graph.edges rank x marks)) → count ≡ length found
    → (get_or ups 0 0 < graph.ranks) × ((now_found : List ℕ) × AreClimbing graph begin marks (get_or ups 0 0) now_heads now_found now_some now_known × (count + length heads ≡ length now_found))
climbing_next graph sound begin marks rank heads found some is_known count so full ups are now_some now_known now_heads now_is added knows counted =
    let (first, rest, is) = some_first heads full in
    let (lowest, others, split) = some_first ups (heads_sides graph sound begin marks rank heads found some is_known so full ups are) in
    let whole : lowest ∷ others ≡ up_of graph.edges rank = sym split ∙ are in
    let (now_found, so_now, long) = climbing_more graph sound begin marks rank heads found some is_known so lowest others first rest now_some now_known is whole
    (both_found (λ e. (is_known ≡ false) × IsHead graph.edges rank heads e) some now_some added) knows in
    let heads_are : heads_behind (lowest ∷ others) heads ≡ now_heads = ap (λ (us : List ℕ). heads_behind us heads) (sym split) ∙ sym now_is in
    let read : lowest ≡ get_or ups 0 0 = ap (λ (us : List ℕ). get_or us 0 0) (sym split) in
    let rank_is = subst (λ (r : ℕ). AreClimbing graph begin marks r (heads_behind (lowest ∷ others) heads) now_found now_some now_known) read so_now in
    let side : HasEdge graph.edges rank lowest = edge_from_up_of graph.edges rank lowest (subst (λ (us : List ℕ). Contains us lowest) whole (here lowest others)) in
    let inside = (edge_within graph sound rank lowest side).1 in (
      omega (arith, inside, read),
      (now_found, subst (λ (xs : List ℕ). AreClimbing graph begin marks (get_or ups 0 0) xs now_found now_some now_known) heads_are rank_is, omega (arith, long, counted)),
    )

-- and the next rank is higher
pub next_higher : (graph : ChordalValue) → IsChordal graph → (begin : ℕ) (marks : List Bool) (rank : ℕ) (heads found some : List ℕ) (is_known : Bool)
    → AreClimbing graph begin marks rank heads found some is_known → heads ≢ [] → (ups : List ℕ) → ups ≡ up_of graph.edges rank → (rank < get_or ups 0 0) × (get_or ups 0 0 < graph.ranks) × (0 < length ups)
next_higher graph sound begin marks rank heads found some is_known so full ups are =
    let (lowest, others, split) = some_first ups (heads_sides graph sound begin marks rank heads found some is_known so full ups are) in
    let whole : lowest ∷ others ≡ up_of graph.edges rank = sym split ∙ are in
    let read : lowest ≡ get_or ups 0 0 = ap (λ (us : List ℕ). get_or us 0 0) (sym split) in
    let side : HasEdge graph.edges rank lowest = edge_from_up_of graph.edges rank lowest (subst (λ (us : List ℕ). Contains us lowest) whole (here lowest others)) in
    let (above, inside) = edge_within graph sound rank lowest side in
    (omega (arith, above, read), omega (arith, inside, read), subst (λ (us : List ℕ). 0 < length us) (sym split) (omega arith))

-- a list that isn't empty is another than the empty one
pub full_of : (xs : List ℕ) → (length xs == 0) ≡ false → xs ≢ []
full_of [] off none = absurd (cc off)
full_of (x ∷ xs) off none = absurd (cc none)

pub empty_of : (xs : List ℕ) → (length xs == 0) ≡ true → xs ≡ []
empty_of [] on = refl
empty_of (x ∷ xs) on = absurd (let e = eqb-true (length (x ∷ xs)) 0 on in omega (arith, e))

-- all edges that are touched were found
pub planned_all : (h : HierarchyValue) (arcs read : List ℕ) (marks : List Bool) (planned : Planned) → AreTouchedFrom h read planned.edges.items → read ≡ arcs
    → planned.count ≡ length planned.edges.items → ArePlanned h arcs marks planned
planned_all h arcs read marks planned from same counted leads = (
  planned.edges.items,
  subst (λ (xs : List ℕ). AreTouchedFrom h xs planned.edges.items) same from,
  record { counts = counted; of = λ e c. c; marked = λ e c. inl c },
)
