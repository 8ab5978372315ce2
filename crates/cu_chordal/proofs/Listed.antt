-- The edges of two lists.
use Rattle.std.proofs.Common.{◌≡◌, ◌≤◌, ◌<◌, ◌+◌, ◌-◌, ℕ, zero, suc, List, [], ◌∷◌, ◌++◌, length, get_or, take, drop, replicate, refl, sym, ◌∙◌, ap, subst, arith, inl, inr}
use Rattle.std.specs.Prelude.{All, Some, slice_get, slice_range}
use Rattle.std.specs.List.{Contains}
use Rattle.std.specs.List.Sorted.{IsStrictlyIncreasing}
use Rattle.std.proofs.lemmas.Bool.{cases_eq}
use Rattle.std.proofs.lemmas.List.{length-append, length-replicate, length-take-le, take-append-drop, take_all}
use Rattle.std.proofs.lemmas.List.Edits.{length-between}
use Rattle.std.proofs.lemmas.List.Elements.{All-append, All-weaker}
use Rattle.std.proofs.lemmas.List.Kept.{AllPairs-from_increasing}
use Rattle.std.proofs.lemmas.Option.{get_or_from_slice_get}
use Rattle.std.proofs.lemmas.Slice.{between_is}
use Rattle.cu_chordal.specs.declared.graph.Ends.{Ends}
use Rattle.cu_chordal.specs.declared.graph.TheConstants.{MAX_EDGES}
use Rattle.cu_chordal.specs.Graphs.{HasEdge, first_edge_of, up_of}
use Rattle.cu_chordal.specs.Lists.{EndWith, NeverFall, edges_below, edges_to, part_at}
use Rattle.cu_chordal.specs.Steps.Checking.{IsLaid}
use Rattle.cu_chordal.specs.Steps.Closing.{AreClosed}
use Rattle.cu_chordal.specs.Steps.Flat.{paired}
use Rattle.cu_chordal.specs.Steps.Listing.{AreLows}
use Rattle.cu_chordal.proofs.Steps.{closed_more, up_before}
use Rattle.cu_chordal.proofs.Tables.{edge_from_up_of, first_all, first_append, first_none, length_edges_to, lows_of_edges_to, paired_append, up_append, up_edges_to, up_none, up_of_from_edge}

-- what is known of the starts of the first so many ranks
pub record AreLaid (starts uppers : List ℕ) (ranks : ℕ) : Type 0 where
  pub first : get_or starts 0 0 ≡ 0
  pub laid : (k : ℕ) → k < ranks → IsLaid starts uppers k

module _ (starts uppers : List ℕ) where
  pub fewer_laid : (few ranks : ℕ) → few ≤ ranks → AreLaid starts uppers ranks → AreLaid starts uppers few
  fewer_laid few ranks le f = record { first = f.first; laid = λ k lt. f.laid k (omega (arith, lt, le)) }

  pub below_lows : (ranks : ℕ) → All (λ (e : Ends). e.low < ranks) (edges_below starts uppers ranks)
  below_lows zero = λ k d h. absurd (omega (arith, h))
  below_lows (suc rank) =
      All-append (λ (e : Ends). e.low < suc rank) (edges_below starts uppers rank) (edges_to rank (part_at starts uppers rank))
      (All-weaker (λ (e : Ends). e.low < rank) (λ (e : Ends). e.low < suc rank) (λ e h. omega (arith, h)) (edges_below starts uppers rank) (below_lows rank))
      (lows_of_edges_to rank (part_at starts uppers rank) (λ (e : Ends). e.low < suc rank) (λ y c. omega arith))

  -- the higher neighbours of a rank are its part
  pub up_below : (ranks rank : ℕ) → rank < ranks → up_of (edges_below starts uppers ranks) rank ≡ part_at starts uppers rank
  up_below zero rank lt = absurd (omega (arith, lt))
  up_below (suc ranks) rank lt =
      let edges : List Ends = edges_below starts uppers ranks in
      let part : List ℕ = part_at starts uppers ranks in
      elim (cases_eq rank ranks) [
        | inl same ↦
            let last : up_of (edges ++ edges_to ranks part) ranks ≡ part = up_append edges (edges_to ranks part) ranks
            ∙ ap (λ xs. xs ++ up_of (edges_to ranks part) ranks) (up_none edges ranks (below_lows ranks)) ∙ up_edges_to ranks part in
            subst (λ k. up_of (edges ++ edges_to ranks part) k ≡ part_at starts uppers k) (sym same) last
        | inr other ↦
            let below : rank < ranks = omega (arith, lt, other) in
            up_before edges ranks rank part below ∙ up_below ranks rank below
      ]

  -- an entry of a part is an edge, and an edge is an entry
  pub entry_from_edge : (ranks x y : ℕ) → x < ranks → HasEdge (edges_below starts uppers ranks) x y → Contains (part_at starts uppers x) y
  entry_from_edge ranks x y lt e = subst (λ xs. Contains xs y) (up_below ranks x lt) (up_of_from_edge (edges_below starts uppers ranks) x y e)

  pub edge_from_entry : (ranks x y : ℕ) → x < ranks → Contains (part_at starts uppers x) y → HasEdge (edges_below starts uppers ranks) x y
  edge_from_entry ranks x y lt c = edge_from_up_of (edges_below starts uppers ranks) x y (subst (λ xs. Contains xs y) (sym (up_below ranks x lt)) c)

  pub length_part : (rank : ℕ) → IsLaid starts uppers rank → length (part_at starts uppers rank) ≡ get_or starts (rank + 1) 0 - get_or starts rank 0
  length_part rank f = length-between uppers (get_or starts rank 0) (get_or starts (rank + 1) 0) f.1

  pub length_below : (ranks : ℕ) → AreLaid starts uppers ranks → length (edges_below starts uppers ranks) ≡ get_or starts ranks 0
  length_below zero f = sym f.first
  length_below (suc rank) f =
      let before = length_below rank (fewer_laid rank (suc rank) (omega arith) f) in
      let laid = f.laid rank (omega arith) in
      let both = length-append (edges_below starts uppers rank) (edges_to rank (part_at starts uppers rank)) in
      let own = length_edges_to rank (part_at starts uppers rank) in
      let part = length_part rank laid in
      let next : get_or starts (rank + 1) 0 ≡ get_or starts (suc rank) 0 = ap (λ k. get_or starts k 0) (omega arith) in
      omega (arith, before, laid.0, both, own, part, next)

  pub start_most : (ranks : ℕ) → AreLaid starts uppers ranks → get_or starts ranks 0 ≤ length uppers
  start_most zero f = omega (arith, f.first)
  start_most (suc rank) f =
      let laid = f.laid rank (omega arith) in
      let next : get_or starts (rank + 1) 0 ≡ get_or starts (suc rank) 0 = ap (λ k. get_or starts k 0) (omega arith) in
      omega (arith, laid.1, next)

-- what is known of the parts of the first so many ranks
pub record ArePartsOf (starts uppers : List ℕ) (ranks some : ℕ) : Type 0 where
  pub few : length uppers ≤ MAX_EDGES
  pub laid : AreLaid starts uppers some
  pub rising : (k : ℕ) → k < some → IsStrictlyIncreasing (part_at starts uppers k)
  pub range : (k y : ℕ) → k < some → Contains (part_at starts uppers k) y → (k < y) × (y < ranks)

fewer_parts : (starts uppers : List ℕ) (ranks few some : ℕ) → few ≤ some → ArePartsOf starts uppers ranks some → ArePartsOf starts uppers ranks few
fewer_parts starts uppers ranks few some le f = record {
  few = f.few;
  laid = fewer_laid starts uppers few some le f.laid;
  rising = λ k lt. f.rising k (omega (arith, lt, le));
  range = λ k y lt. f.range k y (omega (arith, lt, le));
}

pub no_edges : (ranks : ℕ) → AreClosed [] ranks 0
no_edges ranks = record { few = omega arith; rising = λ i j d lt h. absurd (omega (arith, h)); in_range = λ k d h. absurd (omega (arith, h)) }

-- how many edges there are with one more part
pub few_more : (starts uppers : List ℕ) (rank : ℕ) → AreLaid starts uppers (rank + 1) → length uppers ≤ MAX_EDGES
    → length (edges_below starts uppers rank) + length (part_at starts uppers rank) ≤ MAX_EDGES
few_more starts uppers rank f few =
    let before = length_below starts uppers rank (fewer_laid starts uppers rank (rank + 1) (omega arith) f) in
    let laid = f.laid rank (omega arith) in
    let part = length_part starts uppers rank laid in
    omega (arith, before, laid.0, laid.1, part, few)

pub closed_below : (starts uppers : List ℕ) (ranks some : ℕ) → ArePartsOf starts uppers ranks some → AreClosed (edges_below starts uppers some) ranks some
closed_below starts uppers ranks zero f = no_edges ranks
closed_below starts uppers ranks (suc rank) f =
    let before = closed_below starts uppers ranks rank (fewer_parts starts uppers ranks rank (suc rank) (omega arith) f) in
    let laid : AreLaid starts uppers (rank + 1) = fewer_laid starts uppers (rank + 1) (suc rank) (omega arith) f.laid in
    let more = closed_more (edges_below starts uppers rank) ranks rank (part_at starts uppers rank) before
    (AllPairs-from_increasing (part_at starts uppers rank) (f.rising rank (omega arith))) (λ y. f.range rank y (omega arith))
    (few_more starts uppers rank laid f.few) in
    subst (AreClosed (edges_below starts uppers (suc rank)) ranks) (omega arith) more

pub first_below : (starts uppers : List ℕ) (ranks rank : ℕ) → AreLaid starts uppers ranks → rank ≤ ranks → first_edge_of (edges_below starts uppers ranks) rank ≡ get_or starts rank 0
first_below starts uppers zero rank f le = let none : 0 ≡ rank = omega (arith, le) in subst (λ k. 0 ≡ get_or starts k 0) none (sym f.first)
first_below starts uppers (suc ranks) rank f le =
    elim (cases_eq rank (suc ranks)) [
      | inl same ↦
          subst (λ k. first_edge_of (edges_below starts uppers (suc ranks)) k ≡ get_or starts k 0) (sym same)
          (first_all (edges_below starts uppers (suc ranks)) (suc ranks) (below_lows starts uppers (suc ranks)) ∙ length_below starts uppers (suc ranks) f)
      | inr other ↦
          let before = first_below starts uppers ranks rank (fewer_laid starts uppers ranks (suc ranks) (omega arith) f) (omega (arith, le, other)) in
          let part : List ℕ = part_at starts uppers ranks in
          let split = first_append (edges_below starts uppers ranks) (edges_to ranks part) rank in
          let none = first_none (edges_to ranks part) rank (lows_of_edges_to ranks part (λ (e : Ends). rank ≤ e.low) (λ y c. omega (arith, le, other))) in
          omega (arith, before, split, none)
    ]

-- the lower ends of the first so many ranks
pub record AreLowsBelow (starts uppers : List ℕ) (ranks : ℕ) (lows : List ℕ) : Type 0 where
  pub long : length lows ≡ get_or starts ranks 0
  pub edges : paired lows (take (get_or starts ranks 0) uppers) ≡ edges_below starts uppers ranks

take_less : (a b : ℕ) (xs : List ℕ) → a ≤ b → take a (take b xs) ≡ take a xs
take_less zero b xs le = refl
take_less (suc a) zero xs le = absurd (omega (arith, le))
take_less (suc a) (suc b) [] le = refl
take_less (suc a) (suc b) (x ∷ xs) le = ap (λ ys. x ∷ ys) (take_less a b xs (omega (arith, le)))

-- a longer front is a shorter one and what follows it
front_grows : (a b : ℕ) (xs : List ℕ) → a ≤ b → take b xs ≡ take a xs ++ slice_range xs a b
front_grows a b xs le =
    sym (take-append-drop a (take b xs)) ∙ ap (λ ys. ys ++ drop a (take b xs)) (take_less a b xs le) ∙ ap (λ ys. take a xs ++ ys) (sym (between_is xs a b))

pub lows_none : (starts uppers lows : List ℕ) → get_or starts 0 0 ≡ 0 → lows ≡ [] → AreLowsBelow starts uppers 0 lows
lows_none starts uppers lows first none = record {
  long = ap length none ∙ sym first;
  edges = ap (λ xs. paired xs (take (get_or starts 0 0) uppers)) none;
}

pub lows_more : (starts uppers : List ℕ) (rank count : ℕ) (lows grown : List ℕ) → IsLaid starts uppers rank → AreLowsBelow starts uppers rank lows → count ≡ length lows
    → grown ≡ take (get_or starts (rank + 1) 0) lows ++ replicate (get_or starts (rank + 1) 0 - count) rank → AreLowsBelow starts uppers (rank + 1) grown
lows_more starts uppers rank count lows grown laid f same grown_is =
    let start : ℕ = get_or starts rank 0 in
    let end : ℕ = get_or starts (rank + 1) 0 in
    let part : List ℕ = part_at starts uppers rank in
    let part_long : length part ≡ end - start = length_part starts uppers rank laid in
    let added : end - count ≡ length part = omega (arith, f.long, part_long, same) in
    let whole : take end lows ≡ lows = take_all end lows (omega (arith, f.long, laid.0)) in
    let now : grown ≡ lows ++ replicate (length part) rank = grown_is ∙ ap (λ xs. xs ++ replicate (end - count) rank) whole ∙ ap (λ n. lows ++ replicate n rank) added in
    let front_long : length (take start uppers) ≡ start = length-take-le start uppers (omega (arith, laid.0, laid.1)) in
    let fronts : length lows ≡ length (take start uppers) = f.long ∙ sym front_long in
    let next : suc rank ≡ rank + 1 = omega arith in
    let long : length grown ≡ length lows + length part = ap length now ∙ length-append lows (replicate (length part) rank)
    ∙ ap (λ n. length lows + n) (length-replicate (length part) rank) in
    record {
      long = omega (arith, long, f.long, part_long, laid.0);
      edges = ap (λ xs. paired xs (take end uppers)) now ∙ ap (paired (lows ++ replicate (length part) rank)) (front_grows start end uppers laid.0)
          ∙ paired_append lows (take start uppers) rank part fronts ∙ ap (λ es. es ++ edges_to rank part) f.edges
          ∙ ap (edges_below starts uppers) next;
    }

pub lows_all : (starts uppers : List ℕ) (ranks : ℕ) (lows : List ℕ) → length starts ≡ ranks + 1 → EndWith starts uppers → AreLowsBelow starts uppers ranks lows → AreLows starts uppers lows
lows_all starts uppers ranks lows count end f =
    let last : length starts - 1 ≡ ranks = omega (arith, count) in
    let all : get_or starts ranks 0 ≡ length uppers = ap (λ k. get_or starts k 0) (sym last) ∙ end in
    record {
      long = f.long ∙ all;
      edges = ap (paired lows) (sym (take_all (get_or starts ranks 0) uppers (omega (arith, all)))) ∙ f.edges ∙ ap (edges_below starts uppers) (sym last);
    }

-- the starts of lists that hold a graph
start_later : (starts : List ℕ) (rank more : ℕ) → NeverFall starts → rank + more < length starts → get_or starts rank 0 ≤ get_or starts (rank + more) 0
start_later starts rank zero f lt = let same : get_or starts rank 0 ≡ get_or starts (rank + zero) 0 = ap (λ k. get_or starts k 0) (omega arith) in omega (arith, same)
start_later starts rank (suc more) f lt =
    let before = start_later starts rank more f (omega (arith, lt)) in
    let step = f (rank + more) (omega (arith, lt)) in
    let same : get_or starts (rank + more + 1) 0 ≡ get_or starts (rank + suc more) 0 = ap (λ k. get_or starts k 0) (omega arith) in
    omega (arith, before, step, same)

pub lists_laid : (starts uppers : List ℕ) (ranks : ℕ) → length starts ≡ ranks + 1 → slice_get starts 0 ≡ Some 0 → NeverFall starts → EndWith starts uppers → AreLaid starts uppers ranks
lists_laid starts uppers ranks count first rise end = record {
  first = get_or_from_slice_get starts 0 0 0 first;
  laid = λ k lt. (
    rise k (omega (arith, lt, count)),
    let later = start_later starts (k + 1) (length starts - 1 - (k + 1)) rise (omega (arith, lt, count)) in
        let last : get_or starts (k + 1 + (length starts - 1 - (k + 1))) 0 ≡ get_or starts (length starts - 1) 0 = ap (λ n. get_or starts n 0) (omega (arith, lt, count)) in
        omega (arith, later, last, end),
  );
}
