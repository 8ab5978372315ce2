-- Ways taken one after the other from a list of roads and from one of middles.
use Rattle.std.proofs.Common.{◌≡◌, ◌≤◌, ◌<◌, ◌+◌, ◌∙◌, ◌++◌, ◌↔◌, append_assoc, ℕ, suc, List, [], ◌∷◌, sym, ap, subst, arith, inl, inr, length, get_or, take, map}
use Rattle.std.specs.Prelude.{All}
use Rattle.std.specs.List.{Contains}
use Rattle.std.specs.List.Sorted.{IsStrictlyIncreasing}
use Rattle.std.proofs.Math.Seq.{take-suc}
use Rattle.std.proofs.lemmas.List.{get_or-take, get_or_default, length-take-le, map-append}
use Rattle.std.proofs.lemmas.List.Kept.{AllPairs-from_increasing}
use Rattle.std.proofs.lemmas.List.Elements.{Contains-append_cases, Contains-append_left, Contains-append_right}
use Rattle.std.proofs.lemmas.Option.{slice_get-get_or}
use Rattle.cu_model.specs.Begun.{Rises}
use Rattle.cu_model.proofs.Begun.{few_items}
use Rattle.cu_chordal.specs.declared.graph.Ends.{Ends}
use Rattle.cu_chordal.specs.Graphs.{ChordalValue, HasEdge, IsChordal}
use Rattle.cu_chordal.proofs.Members.{all_from_members, here, member_at, member_cases, none_in_nil, place_of, there}
use Rattle.cu_model.proofs.RoadLaws.{all_at}
use Rattle.cu_interval.specs.declared.ways.Way.{Way}
use Rattle.cu_interval.specs.declared.ways.Way.TheVariants.{Road, Via}
use Rattle.cu_interval.specs.declared.ways.Entry.{Entry}
use Rattle.cu_interval.specs.WayLists.{GoesFirst, IsRunsOf}
use Rattle.cu_interval.proofs.LowLists.{runs_by}
use Rattle.cu_customize.specs.Functions.{FunctionsState}
use Rattle.cu_customize.specs.Settling.{ArrivesBy, IsCandidateBy, IsSettledList}
use Rattle.cu_customize.specs.Steps.Best.{IsOpenAmong}
use Rattle.cu_customize.proofs.LowFunctions.{down_edge, up_edge}

pub map_member : (f : ℕ → Way) (xs : List ℕ) (w : Way) → Contains (map f xs) w → (x : ℕ) × Contains xs x × (f x ≡ w)
map_member f [] w c = absurd (none_in_nil w c)
map_member f (x ∷ xs) w c =
    elim (member_cases (f x) (map f xs) w c) [
      | inl same ↦ (x, here x xs, same)
      | inr more ↦ let (y, held, is) = map_member f xs w more in (y, there x xs y held, is)
    ]

pub member_map : {A B : Type 0} (f : A → B) (xs : List A) (x : A) → Contains xs x → Contains (map f xs) (f x)
member_map f [] x c = absurd (none_in_nil x c)
member_map {A} f (y ∷ xs) x c =
    elim (member_cases y xs x c) [
      | inl same ↦ subst (λ (z : A). Contains (f y ∷ map f xs) (f z)) same (here (f y) (map f xs))
      | inr more ↦ there (f y) (map f xs) (f x) (member_map f xs x more)
    ]

-- those taken so far are below the next
pub taken_below : (xs : List ℕ) (i z d : ℕ) → IsStrictlyIncreasing xs → i < length xs → Contains (take i xs) z → z < get_or xs i d
taken_below xs i z d rising inside held =
    let (k, lt, is) = held in
    let size = length-take-le i xs (omega (arith, inside)) in
    let early : k < i = omega (arith, lt, size) in
    let same : get_or (take i xs) k z ≡ get_or xs k z = get_or-take i xs k z early in
    let default : get_or xs k z ≡ get_or xs k d = get_or_default xs k z d (omega (arith, early, inside)) in
    let below = AllPairs-from_increasing xs rising k i d early inside in
    omega (arith, below, default, same, is)

-- numbers that rise and stay below a limit are no more than it
pub few_rising : (xs : List ℕ) (n : ℕ) → IsStrictlyIncreasing xs → All (λ x. x < n) xs → length xs ≤ n
few_rising xs n rising below =
    let rises : Rises (λ (x : ℕ). x) xs = λ k d h. AllPairs-from_increasing xs rising k (k + 1) d (omega arith) h in
    few_items (λ (x : ℕ). x) n xs rises below

pub taken_member : {A : Type 0} (xs : List A) (i : ℕ) (d : A) → i < length xs → Contains xs (get_or xs i d)
taken_member xs i d inside = member_at xs (get_or xs i d) i (slice_get-get_or xs i d inside)

-- an edge leads up
pub edge_rises : (graph : ChordalValue) → IsChordal graph → (x y : ℕ) → HasEdge graph.edges x y → x < y
edge_rises graph is x y edge =
    let (k, at) = place_of graph.edges (record { low = x; high = y }) edge in
    (all_at (λ (e : Ends). (e.low < e.high) × (e.high < graph.ranks)) graph.edges k (record { low = x; high = y }) is.in_range at).0

-- a lower neighbour is below
pub lower_below : (graph : ChordalValue) → IsChordal graph → (rank : ℕ) (downs : List ℕ) → ((x : ℕ) → Contains downs x ↔ HasEdge graph.edges x rank) → (i : ℕ) → i < length downs
    → HasEdge graph.edges (get_or downs i 0) rank × (get_or downs i 0 < rank)
lower_below graph is rank downs members i inside =
    let edge = (members (get_or downs i 0)).0 (taken_member downs i 0 inside) in
    (edge, edge_rises graph is (get_or downs i 0) rank edge)

-- one more is taken
pub map_taken : {A : Type 0} (f : A → Way) (xs : List A) (i : ℕ) (d : A) → i < length xs → map f (take i xs) ++ f (get_or xs i d) ∷ [] ≡ map f (take (i + 1) xs)
map_taken f xs i d inside =
    let sum : suc i ≡ i + 1 = omega arith in
    let more : take (i + 1) xs ≡ take i xs ++ get_or xs i d ∷ [] = subst (λ (k : ℕ). take k xs ≡ take i xs ++ get_or xs i d ∷ []) sum (take-suc xs i d inside) in
    sym (ap (map f) more ∙ map-append f (take i xs) (get_or xs i d ∷ []))

pub roads_before : (xs : List ℕ) (i d : ℕ) → IsStrictlyIncreasing xs → i < length xs → All (λ (w : Way). GoesFirst w (Road (get_or xs i d))) (map Road (take i xs))
roads_before xs i d rising inside =
    all_from_members (λ (w : Way). GoesFirst w (Road (get_or xs i d))) (map Road (take i xs))
    (λ w c.
    let (z, held, is) = map_member Road (take i xs) w c in
    subst (λ (x : Way). GoesFirst x (Road (get_or xs i d))) is (taken_below xs i z d rising inside held))

pub vias_before : (arcs xs : List ℕ) (i d : ℕ) → IsStrictlyIncreasing xs → i < length xs → All (λ (w : Way). GoesFirst w (Via (get_or xs i d))) (map Road arcs ++ map Via (take i xs))
vias_before arcs xs i d rising inside =
    all_from_members (λ (w : Way). GoesFirst w (Via (get_or xs i d))) (map Road arcs ++ map Via (take i xs))
    (λ w c. elim (Contains-append_cases (map Road arcs) (map Via (take i xs)) w c) [
      | inl road ↦ let (z, held, is) = map_member Road arcs w road in subst (λ (x : Way). GoesFirst x (Via (get_or xs i d))) is tt
      | inr via ↦ let (z, held, is) = map_member Via (take i xs) w via in subst (λ (x : Way). GoesFirst x (Via (get_or xs i d))) is (taken_below xs i z d rising inside held)
    ])

pub via_taken : (arcs xs : List ℕ) (i d : ℕ) → i < length xs → (map Road arcs ++ map Via (take i xs)) ++ Via (get_or xs i d) ∷ [] ≡ map Road arcs ++ map Via (take (i + 1) xs)
via_taken arcs xs i d inside = append_assoc (map Road arcs) (map Via (take i xs)) (Via (get_or xs i d) ∷ []) ∙ ap (λ (ways : List Way). map Road arcs ++ ways) (map_taken Via xs i d inside)

-- a lower neighbour of the lower end is below both ends
pub middles_below : (graph : ChordalValue) → IsChordal graph → (u v low : ℕ) (middles : List ℕ) → low ≤ u → low ≤ v → ((x : ℕ) → Contains middles x → HasEdge graph.edges x low)
    → All (λ (m : ℕ). (m < u) × (m < v)) middles
middles_below graph is u v low middles lu lv joined =
    all_from_members (λ (m : ℕ). (m < u) × (m < v)) middles (λ m held. let lt = edge_rises graph is m low (joined m held) in (omega (arith, lt, lu), omega (arith, lt, lv)))

-- the candidates that are taken are those of the shortcut, where its middles have an edge to its lower end, and all that have one to both ends are there
module _ (graph : ChordalValue) (is : IsChordal graph) (f : FunctionsState) (u v low : ℕ) (arcs middles : List ℕ) (lu : low ≤ u) (lv : low ≤ v)
    (joined : (x : ℕ) → Contains middles x → HasEdge graph.edges x low) (whole : (x : ℕ) → HasEdge graph.edges x u → HasEdge graph.edges x v → Contains middles x) where
  taken_road : (a : ℕ) → Contains (map Road arcs ++ map Via middles) (Road a) → Contains arcs a
  taken_road a held =
      elim (Contains-append_cases (map Road arcs) (map Via middles) (Road a) held) [
        | inl road ↦ let (x, at, same) = map_member Road arcs (Road a) road in let e : x ≡ a = cc same in subst (λ (y : ℕ). Contains arcs y) e at
        | inr via ↦ let (x, at, same) = map_member Via middles (Road a) via in absurd (cc same)
      ]

  taken_via : (m : ℕ) → Contains (map Road arcs ++ map Via middles) (Via m) → Contains middles m
  taken_via m held =
      elim (Contains-append_cases (map Road arcs) (map Via middles) (Via m) held) [
        | inl road ↦ let (x, at, same) = map_member Road arcs (Via m) road in absurd (cc same)
        | inr via ↦ let (x, at, same) = map_member Via middles (Via m) via in let e : x ≡ m = cc same in subst (λ (y : ℕ). Contains middles y) e at
      ]

  taken_to : (way : Way) → IsOpenAmong graph.edges f u v (map Road arcs ++ map Via middles) way → IsCandidateBy graph.edges arcs f u v way
  taken_to (Road a) (held, free) = (taken_road a held, free)
  taken_to (Via m) (held, free) =
      let lt = edge_rises graph is m low (joined m (taken_via m held)) in
      (omega (arith, lt, lu), omega (arith, lt, lv), free.0, free.1)

  taken_back : (way : Way) → IsCandidateBy graph.edges arcs f u v way → IsOpenAmong graph.edges f u v (map Road arcs ++ map Via middles) way
  taken_back (Road a) (held, free) = (Contains-append_left (map Road arcs) (map Via middles) (Road a) (member_map Road arcs a held), free)
  taken_back (Via m) (mu, mv, one, two) =
      let held = whole m (down_edge graph.edges f u m mu one) (up_edge graph.edges f m v mv two) in
      (Contains-append_right (map Road arcs) (map Via middles) (Via m) (member_map Via middles m held), (one, two))

  pub taken_settled : (entries : List Entry) → IsRunsOf (IsOpenAmong graph.edges f u v (map Road arcs ++ map Via middles)) (ArrivesBy graph.edges f u v) entries
      → IsSettledList graph.edges arcs f u v entries
  taken_settled entries runs =
      runs_by (IsOpenAmong graph.edges f u v (map Road arcs ++ map Via middles)) (IsCandidateBy graph.edges arcs f u v) (ArrivesBy graph.edges f u v) (ArrivesBy graph.edges f u v) entries
      taken_to taken_back
      (λ s a way lt d e. e) (λ s a way lt d e. e) runs
