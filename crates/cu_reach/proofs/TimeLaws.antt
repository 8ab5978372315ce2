-- The times of nodes as they are written, one behind the other.
use Rattle.std.proofs.Common.{◌≡◌, ◌<◌, ◌+◌, ◌-◌, ◌∙◌, ℕ, zero, suc, List, [], ◌∷◌, ◌++◌, Option, Some, refl, sym, ap, subst, arith}
use Rattle.std.specs.Prelude.{slice_get}
use Rattle.std.specs.List.{Contains, range_with_len}
use Rattle.std.proofs.lemmas.List.Elements.{Contains-append_right}
use Rattle.std.proofs.lemmas.Grind.{flat_map-append}
use Rattle.std.proofs.lemmas.List.{append-nil, append_assoc, map-append}
use Rattle.cu_interval.specs.Hierarchies.{HierarchyValue}
use Rattle.cu_reach.specs.Reaching.{HoldsLabels, HoldsTimes}
use Rattle.cu_reach.specs.ReachTexts.{time_at, time_text, times_at, times_text}

module _ (h : HierarchyValue) (from second : ℕ) where
  pub times_split : (done rest : List ℕ)
      → times_text (times_at h from second (done ++ rest)) ≡ times_text (times_at h from second done) ++ times_text (times_at h from second rest)
  times_split done rest =
      ap times_text (map-append (λ node. time_at h from second (slice_get h.order.rank_of node)) done rest)
      ∙ flat_map-append time_text (times_at h from second done) (times_at h from second rest)

  -- the label of a node's rank is its time
  pub time_known : (labels : List (Option ℕ)) (node rank : ℕ) (time : Option ℕ) → HoldsLabels h from second labels → slice_get h.order.rank_of node ≡ Some rank
      → rank < h.network.nodes → slice_get labels rank ≡ Some time → time_at h from second (slice_get h.order.rank_of node) ≡ time
  time_known labels node rank time holds a low b = let c = holds.1 rank low in rw a (cc (b, c))

  -- so it is of each of these nodes
  pub time_listed : (labels : List (Option ℕ)) (nodes : List ℕ) (node rank : ℕ) (time : Option ℕ) → HoldsTimes h from second nodes labels → Contains nodes node
      → slice_get h.order.rank_of node ≡ Some rank → rank < h.network.nodes → slice_get labels rank ≡ Some time → time_at h from second (slice_get h.order.rank_of node) ≡ time
  time_listed labels nodes node rank time holds member a low b = let c = holds node rank member a low in rw a (cc (b, c))

  pub times_of_labels : (labels : List (Option ℕ)) (nodes : List ℕ) → HoldsLabels h from second labels → HoldsTimes h from second nodes labels
  times_of_labels labels nodes holds node rank member there low = holds.1 rank low

  pub times_more : (done : List ℕ) (node : ℕ) (time : Option ℕ) → time_at h from second (slice_get h.order.rank_of node) ≡ time
      → times_text (times_at h from second done) ++ time_text time ≡ times_text (times_at h from second (done ++ node ∷ []))
  times_more done node time is =
      sym (times_split done (node ∷ []) ∙ ap (λ (t : List ℕ). times_text (times_at h from second done) ++ t)
      (append-nil (time_text (time_at h from second (slice_get h.order.rank_of node))) ∙ ap time_text is))

  -- what was written up to a node, and what is written behind it
  pub times_whole : (all done rest : List ℕ) (node : ℕ) (time : Option ℕ) → all ≡ done ++ node ∷ rest → time_at h from second (slice_get h.order.rank_of node) ≡ time
      → (times_text (times_at h from second done) ++ time_text time) ++ times_text (times_at h from second rest) ≡ times_text (times_at h from second all)
  times_whole all done rest node time e is =
      ap (λ (t : List ℕ). t ++ times_text (times_at h from second rest)) (times_more done node time is) ∙ sym (times_split (done ++ node ∷ []) rest)
      ∙ ap (λ (nodes : List ℕ). times_text (times_at h from second nodes)) (append_assoc done (node ∷ []) rest ∙ sym e)

-- a node between those before it and those behind it is one of all
pub node_there : (all done rest : List ℕ) (node : ℕ) → all ≡ done ++ node ∷ rest → Contains all node
node_there all done rest node e = subst (λ (xs : List ℕ). Contains xs node) (sym e) (Contains-append_right done (node ∷ rest) node (0, omega arith, refl))

pub range_splits : (first count more : ℕ) → range_with_len first (count + more) ≡ range_with_len first count ++ range_with_len (first + count) more
range_splits first zero more = let same : first + 0 ≡ first = omega arith in let none : 0 + more ≡ more = omega arith in rw (same, none) refl
range_splits first (suc count) more =
    let same : first + suc count ≡ first + 1 + count = omega arith in
    let next : suc count + more ≡ suc (count + more) = omega arith in
    rw (same, next) (ap (λ (xs : List ℕ). first ∷ xs) (range_splits (first + 1) count more))

-- one more of a range, and those behind it
pub range_at : (count node : ℕ) → node < count → range_with_len 0 count ≡ range_with_len 0 node ++ node ∷ range_with_len (node + 1) (count - (node + 1))
range_at count node lt =
    let whole : count ≡ node + suc (count - (node + 1)) = omega (arith, lt) in
    let begin : 0 + node ≡ node = omega arith in
    let behind = suc (count - (node + 1)) in
    let split = range_splits 0 node behind in
    ap (range_with_len 0) whole
    ∙ subst (λ (b : ℕ). range_with_len 0 (node + behind) ≡ range_with_len 0 node ++ range_with_len b behind) begin split

pub range_more : (node : ℕ) → range_with_len 0 (node + 1) ≡ range_with_len 0 node ++ node ∷ []
range_more node = let begin : 0 + node ≡ node = omega arith in
    subst (λ (b : ℕ). range_with_len 0 (node + 1) ≡ range_with_len 0 node ++ range_with_len b 1) begin (range_splits 0 node 1)
