-- A list of the nodes, each once, and the places of the nodes in it are each other's inverse.
use Rattle.std.proofs.Common.{◌≡◌, ◌≢◌, ◌≤◌, ◌<◌, ◌+◌, ℕ, List, [], ◌∷◌, ◌++◌, Some, true, false, arith, eqb, length, get_or, set, refl, sym, ◌∙◌, ap, subst, inl, inr}
use Rattle.std.specs.Prelude.{slice_get}
use Rattle.std.specs.List.{IsDistinct, AllByRecursion, list_any, range_with_len}
use Rattle.std.proofs.lemmas.List.{get_or_default, get_or-set_same, get_or-set_other, map-id}
use Rattle.std.proofs.lemmas.List.FromFn.{length-range_with_len, get_or-range_with_len, map-range_with_len_more}
use Rattle.std.proofs.lemmas.Option.{slice_get-get_or, get_or_from_slice_get, slice_get_within, slice_get_read}
use Rattle.std.proofs.lemmas.Bool.{eqb-true, cases_Bool, cases_eq, or_cases, cases_order}
use Rattle.std.proofs.lemmas.Bool.Decides.{Decides-eqb}
use Rattle.std.proofs.lemmas.List.Folds.{Any-from_list_any, list_any_at}
use Rattle.std.proofs.lemmas.List.Elements.{recursion_from_All}
use Rattle.std.proofs.lemmas.Map.Keys.{IsDistinct-cons}
use Rattle.std.proofs.lemmas.Map.Made.{AllPairs-from_IsDistinct, IsDistinct-from_AllPairs}
use Rattle.std.proofs.lemmas.Map.Steps.{length-le_from_distinct_below}
use Rattle.cu_model.specs.declared.limits.TheConstants.{MAX_NODES}
use Rattle.cu_model.specs.Orders.{OrderValue, IsOrder, ListsEachNodeOnce}

-- a rank that was read is below the number of ranks
pub rank_below : (o p : OrderValue) → IsOrder o → o ≡ p → (node rank : ℕ) → node < length p.rank_of → rank ≡ get_or o.rank_of node rank → rank < length p.node_at
rank_below o p f same node rank below read =
    let within : node < length o.rank_of = subst (λ (q : OrderValue). node < length q.rank_of) (sym same) below in
    let there : slice_get o.rank_of node ≡ Some rank = slice_get_read o.rank_of (length o.rank_of) node rank refl within read in
    subst (λ (q : OrderValue). rank < length q.node_at) same (slice_get_within o.node_at rank node (f.placed node rank there))

-- and a node below the number of nodes
pub node_below : (o p : OrderValue) → IsOrder o → o ≡ p → (rank node : ℕ) → rank < length p.node_at → node ≡ get_or o.node_at rank node → node < length p.rank_of
node_below o p f same rank node below read =
    let within : rank < length o.node_at = subst (λ (q : OrderValue). rank < length q.node_at) (sym same) below in
    let there : slice_get o.node_at rank ≡ Some node = slice_get_read o.node_at (length o.node_at) rank node refl within read in
    subst (λ (q : OrderValue). node < length q.rank_of) same (slice_get_within o.rank_of node rank (f.ranked rank node there))

-- two places of a list that has each node once hold different nodes
pub different : (nodes : List ℕ) → IsDistinct eqb nodes → (i j : ℕ) → i < length nodes → j < length nodes → get_or nodes i 0 ≡ get_or nodes j 0 → i ≡ j
different nodes once i j i_in j_in same =
    elim (cases_order i j) [
      | inl e ↦ e
      | inr apart ↦ elim apart [
        | inl below ↦ absurd (AllPairs-from_IsDistinct Decides-eqb nodes once i j 0 below j_in same)
        | inr above ↦ absurd (AllPairs-from_IsDistinct Decides-eqb nodes once j i 0 above i_in (sym same))
      ]
    ]

-- a number that a list doesn't have differs from each of its elements
pub none_pass : (v : ℕ) (nodes : List ℕ) → list_any (eqb v) nodes ≡ false → AllByRecursion (λ y. eqb v y ≡ false) nodes
none_pass v nodes none =
    recursion_from_All (λ y. eqb v y ≡ false) nodes
    (λ k d h. elim (cases_Bool (eqb v (get_or nodes k d))) [
      | inl same ↦ let some = list_any_at (eqb v) nodes k d h same in absurd (cc)
      | inr other ↦ other
    ])

in_range : (nodes : List ℕ) (v : ℕ) → ListsEachNodeOnce nodes → v < length nodes → (q : ℕ) → list_any (eqb q) (v ∷ nodes) ≡ true → q < length nodes
in_range nodes v f below q h =
    elim (or_cases (eqb q v) (list_any (eqb q) nodes) h) [
      | inl first ↦ let same : q ≡ v = eqb-true q v first in omega (arith, same, below)
      | inr rest ↦
          let found = Any-from_list_any (eqb q) nodes rest in
          let read : get_or nodes found.0 found.1 ≡ found.1 = found.3 in
          let same : q ≡ found.1 = eqb-true q found.1 found.4 in
          let low : get_or nodes found.0 found.1 < length nodes = f.in_range found.0 found.1 found.2 in
          omega (arith, low, read, same)
    ]

-- every node is in the list: else it and the list would be too many
pub listed : (nodes : List ℕ) → ListsEachNodeOnce nodes → (v : ℕ) → v < length nodes → (r : ℕ) × (r < length nodes) × (get_or nodes r 0 ≡ v)
listed nodes f v below =
    elim (cases_Bool (list_any (eqb v) nodes)) [
      | inl there ↦
          let found = Any-from_list_any (eqb v) nodes there in
          let read : get_or nodes found.0 found.1 ≡ found.1 = found.3 in
          let same : v ≡ found.1 = eqb-true v found.1 found.4 in
          (found.0, found.2, get_or_default nodes found.0 0 found.1 found.2 ∙ read ∙ sym same)
      | inr none ↦
          let all : IsDistinct eqb (v ∷ nodes) = IsDistinct-cons eqb v nodes (none_pass v nodes none) f.once in
          let few : length (v ∷ nodes) ≤ length nodes = length-le_from_distinct_below (v ∷ nodes) (length nodes) all (in_range nodes v f below) in
          absurd (omega (arith, few))
    ]

-- one more node got its place
pub placed_more : (nodes places : List ℕ) → ListsEachNodeOnce nodes → (i : ℕ) → i < length nodes → length places ≡ length nodes
    → ((r : ℕ) → r < i → get_or places (get_or nodes r 0) 0 ≡ r)
    → (r : ℕ) → r < i + 1 → get_or (set places (get_or nodes i 0) i) (get_or nodes r 0) 0 ≡ r
placed_more nodes places f i below long before r h =
    elim (cases_eq r i) [
      | inl same ↦
          let here : get_or nodes i 0 < length places = omega (arith, long, f.in_range i 0 below) in
          subst (λ k. get_or (set places (get_or nodes i 0) i) (get_or nodes k 0) 0 ≡ k) (sym same) (get_or-set_same places (get_or nodes i 0) i 0 here)
      | inr other ↦
          let lt : r < i = omega (arith, h, other) in
          let apart : get_or nodes r 0 ≢ get_or nodes i 0 = λ e. other (different nodes f.once r i (omega (arith, lt, below)) below e) in
          get_or-set_other places (get_or nodes i 0) (get_or nodes r 0) i 0 apart ∙ before r lt
    ]

-- the list and the places of its nodes are an order
pub order_from_places : (nodes places : List ℕ) → ListsEachNodeOnce nodes → length places ≡ length nodes
    → ((r : ℕ) → r < length nodes → get_or places (get_or nodes r 0) 0 ≡ r)
    → IsOrder (record { node_at = nodes; rank_of = places })
order_from_places nodes places f long all = record {
  few = f.few;
  same = long;
  ranked = λ rank node e.
      let within : rank < length nodes = slice_get_within nodes rank node e in
      let read : get_or nodes rank 0 ≡ node = get_or_from_slice_get nodes rank node 0 e in
      let low : get_or nodes rank 0 < length nodes = f.in_range rank 0 within in
      let below : node < length places = omega (arith, low, read, long) in
      let value : get_or places node 0 ≡ rank = subst (λ k. get_or places k 0 ≡ rank) read (all rank within) in
      slice_get-get_or places node 0 below ∙ ap Some value;
  placed = λ node rank e.
      let within : node < length places = slice_get_within places node rank e in
      let read : get_or places node 0 ≡ rank = get_or_from_slice_get places node rank 0 e in
      let at = listed nodes f node (omega (arith, within, long)) in
      let there : get_or places node 0 ≡ at.0 = subst (λ k. get_or places k 0 ≡ at.0) at.2 (all at.0 at.1) in
      let same : at.0 ≡ rank = sym there ∙ read in
      subst (λ k. slice_get nodes k ≡ Some node) same (slice_get-get_or nodes at.0 0 at.1 ∙ ap Some at.2);
}

-- counting up from 0 gives each node once
pub each_once : (n : ℕ) → n ≤ MAX_NODES → ListsEachNodeOnce (range_with_len 0 n)
each_once n few =
    let long = length-range_with_len 0 n in
    record {
      few = omega (arith, few, long);
      in_range = λ k d h. let read = get_or-range_with_len 0 n k d (omega (arith, h, long)) in omega (arith, read, h, long);
      once = IsDistinct-from_AllPairs Decides-eqb (range_with_len 0 n)
          (λ i j d lt h e.
          let first = get_or-range_with_len 0 n i d (omega (arith, lt, h, long)) in
          let second = get_or-range_with_len 0 n j d (omega (arith, h, long)) in
          absurd (omega (arith, first, second, e, lt)));
    }

-- one more number
pub count_more : (n : ℕ) → range_with_len 0 n ++ (n ∷ []) ≡ range_with_len 0 (n + 1)
count_more n =
    let more = map-range_with_len_more (λ (x : ℕ). x) 0 n n (omega arith) in
    let whole = map-id (range_with_len 0 (n + 1)) in
    let part = map-id (range_with_len 0 n) in
    sym (sym whole ∙ more ∙ ap (λ xs. xs ++ (n ∷ [])) part)

-- where the numbers from 0 are listed, each is at its own place
pub counted_at : (n : ℕ) (xs : List ℕ) → xs ≡ range_with_len 0 n → (k : ℕ) → k < n → slice_get xs k ≡ Some k
counted_at n xs e k below =
    let long = length-range_with_len 0 n in
    let read = slice_get-get_or (range_with_len 0 n) k 0 (omega (arith, below, long)) in
    let value : get_or (range_with_len 0 n) k 0 ≡ k = get_or-range_with_len 0 n k 0 below ∙ omega arith in
    subst (λ ys. slice_get ys k ≡ Some k) (sym e) (read ∙ ap Some value)
