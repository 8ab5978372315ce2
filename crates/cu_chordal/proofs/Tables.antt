-- Edges in flat arrays, and what is read from them.
use Rattle.std.proofs.Common.{◌≡◌, ◌≢◌, ◌≤◌, ◌<◌, ◌+◌, ℕ, zero, suc, Bool, true, false, List, [], ◌∷◌, ◌++◌, Some, cond, length, get_or, replicate, refl, sym, ◌∙◌, ap, subst, arith, inl, inr, ◌⊎◌}
use Rattle.std.specs.Prelude.{All, slice_get, nat_lt, ◌==◌}
use Rattle.std.specs.List.{Contains, AllPairs}
use Rattle.std.specs.List.Sorted.{IsStrictlyIncreasing}
use Rattle.std.proofs.lemmas.Bool.{cases_eq, cases_order, eq-eqb}
use Rattle.std.proofs.lemmas.Bool.Decides.{nat_tests, eqb_tells}
use Rattle.std.proofs.lemmas.List.Elements.{All-head, All-tail, All-cons}
use Rattle.std.proofs.lemmas.List.Kept.{AllPairs-cons}
use Rattle.std.proofs.lemmas.Option.{same_Some}
use Rattle.cu_chordal.specs.declared.graph.Ends.{Ends}
use Rattle.cu_chordal.specs.Graphs.{ChordalValue, ComesBefore, IsChordal, IsRising, HasEdge, one_if, up_of, down_of, first_edge_of}
use Rattle.cu_chordal.specs.Groups.{group_of}
use Rattle.cu_chordal.specs.Lists.{edges_to}
use Rattle.cu_chordal.specs.Steps.Flat.{paired}
use Rattle.cu_chordal.proofs.Members.{here, there, member_at, member_cases, none_in_nil, all_from_members, pairs_tail, pairs_head, pairs_append}

paired_one_rank : (rank : ℕ) (part : List ℕ) → paired (replicate (length part) rank) part ≡ edges_to rank part
paired_one_rank rank [] = refl
paired_one_rank rank (y ∷ part) = ap (λ es. record { low = rank; high = y } ∷ es) (paired_one_rank rank part)

pub paired_append : (lows highs : List ℕ) (rank : ℕ) (part : List ℕ) → length lows ≡ length highs
    → paired (lows ++ replicate (length part) rank) (highs ++ part) ≡ paired lows highs ++ edges_to rank part
paired_append [] [] rank part e = paired_one_rank rank part
paired_append [] (y ∷ highs) rank part e = absurd (omega (arith, e))
paired_append (x ∷ lows) [] rank part e = absurd (omega (arith, e))
paired_append (x ∷ lows) (y ∷ highs) rank part e = ap (λ es. record { low = x; high = y } ∷ es) (paired_append lows highs rank part (omega (arith, e)))

pub length_paired : (lows highs : List ℕ) → length lows ≡ length highs → length (paired lows highs) ≡ length lows
length_paired [] highs e = refl
length_paired (x ∷ lows) [] e = absurd (omega (arith, e))
length_paired (x ∷ lows) (y ∷ highs) e = ap suc (length_paired lows highs (omega (arith, e)))

pub paired_at : (lows highs : List ℕ) (i : ℕ) → i < length lows → i < length highs → slice_get (paired lows highs) i ≡ Some (record { low = get_or lows i 0; high = get_or highs i 0 })
paired_at [] highs i h w = absurd (omega (arith, h))
paired_at (x ∷ lows) [] i h w = absurd (omega (arith, w))
paired_at (x ∷ lows) (y ∷ highs) zero h w = refl
paired_at (x ∷ lows) (y ∷ highs) (suc i) h w = paired_at lows highs i (omega (arith, h)) (omega (arith, w))

down_step : (b : Bool) (x : ℕ) (xs ys : List ℕ) → xs ≡ ys → cond b (x ∷ xs) xs ≡ cond b (x ∷ ys) ys
down_step b x xs ys e = ap (λ zs. cond b (x ∷ zs) zs) e

pub down_grouped : (lows highs : List ℕ) (rank : ℕ) → group_of highs lows rank ≡ down_of (paired lows highs) rank
down_grouped [] [] rank = refl
down_grouped [] (y ∷ highs) rank = refl
down_grouped (x ∷ lows) [] rank = refl
down_grouped (x ∷ lows) (y ∷ highs) rank = down_step (y == rank) x _ _ (down_grouped lows highs rank)

-- the higher neighbours are those that edges lead to
up_cases : (e : Ends) (es : List Ends) (rank y : ℕ) → Contains (up_of (e ∷ es) rank) y → ((e.low ≡ rank) × (e.high ≡ y)) ⊎ Contains (up_of es rank) y
up_cases e es rank y c =
    elim (eqb_tells e.low rank) [
      | inl at ↦
          let c2 : Contains (e.high ∷ up_of es rank) y = subst (λ b. Contains (cond b (e.high ∷ up_of es rank) (up_of es rank)) y) at.0 c in
          elim (member_cases e.high (up_of es rank) y c2) [
            | inl same ↦ inl (at.1, same)
            | inr rest ↦ inr rest
          ]
      | inr off ↦ inr (subst (λ b. Contains (cond b (e.high ∷ up_of es rank) (up_of es rank)) y) off.0 c)
    ]

up_first : (e : Ends) (es : List Ends) (rank : ℕ) → e.low ≡ rank → up_of (e ∷ es) rank ≡ e.high ∷ up_of es rank
up_first e es rank at = ap (λ b. cond b (e.high ∷ up_of es rank) (up_of es rank)) (eq-eqb e.low rank at)

up_skip : (e : Ends) (es : List Ends) (rank : ℕ) → e.low ≢ rank → up_of (e ∷ es) rank ≡ up_of es rank
up_skip e es rank off =
    elim (eqb_tells e.low rank) [
      | inl at ↦ absurd (off at.1)
      | inr other ↦ ap (λ b. cond b (e.high ∷ up_of es rank) (up_of es rank)) other.0
    ]

pub same_ends : (e : Ends) (x y : ℕ) → e.low ≡ x → e.high ≡ y → e ≡ record { low = x; high = y }
same_ends e x y p q = subst (λ k. e ≡ record { low = k; high = y }) p (subst (λ h. e ≡ record { low = e.low; high = h }) q refl)

pub edge_from_up_of : (edges : List Ends) (rank y : ℕ) → Contains (up_of edges rank) y → HasEdge edges rank y
edge_from_up_of [] rank y c = absurd (none_in_nil y c)
edge_from_up_of (e ∷ es) rank y c =
    elim (up_cases e es rank y c) [
      | inl at ↦
          let same : e ≡ record { low = rank; high = y } = same_ends e rank y at.0 at.1 in
          subst (λ (x : Ends). Contains (x ∷ es) (record { low = rank; high = y })) (sym same) (here _ es)
      | inr rest ↦ there e es _ (edge_from_up_of es rank y rest)
    ]

pub up_of_from_edge : (edges : List Ends) (rank y : ℕ) → HasEdge edges rank y → Contains (up_of edges rank) y
up_of_from_edge [] rank y c = absurd (none_in_nil _ c)
up_of_from_edge (e ∷ es) rank y c =
    elim (member_cases e es (record { low = rank; high = y }) c) [
      | inl same ↦
          let first : up_of (e ∷ es) rank ≡ e.high ∷ up_of es rank = up_first e es rank (ap (λ (x : Ends). x.low) same) in
          let high : e.high ≡ y = ap (λ (x : Ends). x.high) same in
          subst (λ xs. Contains xs y) (sym first) (subst (λ h. Contains (h ∷ up_of es rank) y) (sym high) (here y (up_of es rank)))
      | inr rest ↦
          let deeper = up_of_from_edge es rank y rest in
          elim (cases_eq e.low rank) [
            | inl at ↦ subst (λ xs. Contains xs y) (sym (up_first e es rank at)) (there e.high (up_of es rank) y deeper)
            | inr off ↦ subst (λ xs. Contains xs y) (sym (up_skip e es rank off)) deeper
          ]
    ]

-- the ends of an edge of a chordal graph rise, and are ranks
pub edge_within : (graph : ChordalValue) → IsChordal graph → (low high : ℕ) → HasEdge graph.edges low high → (low < high) × (high < graph.ranks)
edge_within graph sound low high has =
    subst (λ (e : Ends). (e.low < e.high) × (e.high < graph.ranks)) has.2 (sound.in_range has.0 (record { low = low; high = high }) has.1)

pub after_first : (e : Ends) (es : List Ends) → IsRising (e ∷ es) → (x : Ends) → Contains es x → ComesBefore e x
after_first e es f x c = subst (ComesBefore e) c.2 (pairs_head ComesBefore e es f c.0 x c.1)

-- they rise
pub up_rising : (edges : List Ends) (rank : ℕ) → IsRising edges → AllPairs (λ x y. x < y) (up_of edges rank)
up_rising [] rank f = λ i j d lt h. absurd (omega (arith, h))
up_rising (e ∷ es) rank f =
    let rest = up_rising es rank (pairs_tail ComesBefore e es f) in
    elim (cases_eq e.low rank) [
      | inl at ↦
          let all : All (λ y. e.high < y) (up_of es rank) =
          all_from_members (λ y. e.high < y) (up_of es rank)
          (λ y c.
          let edge = edge_from_up_of es rank y c in
          let before : ComesBefore e (record { low = rank; high = y }) = after_first e es f _ edge in
          elim before [
            | inl less ↦ absurd (omega (arith, less, at))
            | inr both ↦ both.1
          ]) in
          subst (AllPairs (λ x y. x < y)) (sym (up_first e es rank at)) (AllPairs-cons (λ x y. x < y) e.high (up_of es rank) all rest)
      | inr off ↦ subst (AllPairs (λ x y. x < y)) (sym (up_skip e es rank off)) rest
    ]

-- the lower neighbours are those that edges lead from
down_cases : (e : Ends) (es : List Ends) (rank y : ℕ) → Contains (down_of (e ∷ es) rank) y → ((e.high ≡ rank) × (e.low ≡ y)) ⊎ Contains (down_of es rank) y
down_cases e es rank y c =
    elim (eqb_tells e.high rank) [
      | inl at ↦
          let c2 : Contains (e.low ∷ down_of es rank) y = subst (λ b. Contains (cond b (e.low ∷ down_of es rank) (down_of es rank)) y) at.0 c in
          elim (member_cases e.low (down_of es rank) y c2) [
            | inl same ↦ inl (at.1, same)
            | inr rest ↦ inr rest
          ]
      | inr off ↦ inr (subst (λ b. Contains (cond b (e.low ∷ down_of es rank) (down_of es rank)) y) off.0 c)
    ]

down_first : (e : Ends) (es : List Ends) (rank : ℕ) → e.high ≡ rank → down_of (e ∷ es) rank ≡ e.low ∷ down_of es rank
down_first e es rank at = ap (λ b. cond b (e.low ∷ down_of es rank) (down_of es rank)) (eq-eqb e.high rank at)

down_skip : (e : Ends) (es : List Ends) (rank : ℕ) → e.high ≢ rank → down_of (e ∷ es) rank ≡ down_of es rank
down_skip e es rank off =
    elim (eqb_tells e.high rank) [
      | inl at ↦ absurd (off at.1)
      | inr other ↦ ap (λ b. cond b (e.low ∷ down_of es rank) (down_of es rank)) other.0
    ]

pub edge_from_down_of : (edges : List Ends) (rank y : ℕ) → Contains (down_of edges rank) y → HasEdge edges y rank
edge_from_down_of [] rank y c = absurd (none_in_nil y c)
edge_from_down_of (e ∷ es) rank y c =
    elim (down_cases e es rank y c) [
      | inl at ↦
          let same : e ≡ record { low = y; high = rank } = same_ends e y rank at.1 at.0 in
          subst (λ (x : Ends). Contains (x ∷ es) (record { low = y; high = rank })) (sym same) (here _ es)
      | inr rest ↦ there e es _ (edge_from_down_of es rank y rest)
    ]

pub down_of_from_edge : (edges : List Ends) (rank y : ℕ) → HasEdge edges y rank → Contains (down_of edges rank) y
down_of_from_edge [] rank y c = absurd (none_in_nil _ c)
down_of_from_edge (e ∷ es) rank y c =
    elim (member_cases e es (record { low = y; high = rank }) c) [
      | inl same ↦
          let first : down_of (e ∷ es) rank ≡ e.low ∷ down_of es rank = down_first e es rank (ap (λ (x : Ends). x.high) same) in
          let low : e.low ≡ y = ap (λ (x : Ends). x.low) same in
          subst (λ xs. Contains xs y) (sym first) (subst (λ h. Contains (h ∷ down_of es rank) y) (sym low) (here y (down_of es rank)))
      | inr rest ↦
          let deeper = down_of_from_edge es rank y rest in
          elim (cases_eq e.high rank) [
            | inl at ↦ subst (λ xs. Contains xs y) (sym (down_first e es rank at)) (there e.low (down_of es rank) y deeper)
            | inr off ↦ subst (λ xs. Contains xs y) (sym (down_skip e es rank off)) deeper
          ]
    ]

-- they rise
pub down_rising : (edges : List Ends) (rank : ℕ) → IsRising edges → AllPairs (λ x y. x < y) (down_of edges rank)
down_rising [] rank f = λ i j d lt h. absurd (omega (arith, h))
down_rising (e ∷ es) rank f =
    let rest = down_rising es rank (pairs_tail ComesBefore e es f) in
    elim (cases_eq e.high rank) [
      | inl at ↦
          let all : All (λ y. e.low < y) (down_of es rank) =
          all_from_members (λ y. e.low < y) (down_of es rank)
          (λ y c.
          let edge = edge_from_down_of es rank y c in
          let before : ComesBefore e (record { low = y; high = rank }) = after_first e es f _ edge in
          elim before [
            | inl less ↦ less
            | inr both ↦ absurd (omega (arith, both.1, at))
          ]) in
          subst (AllPairs (λ x y. x < y)) (sym (down_first e es rank at)) (AllPairs-cons (λ x y. x < y) e.low (down_of es rank) all rest)
      | inr off ↦ subst (AllPairs (λ x y. x < y)) (sym (down_skip e es rank off)) rest
    ]

-- a value that is kept or not goes before what is added behind
pub kept_append : (b : Bool) (v : ℕ) (xs ys zs : List ℕ) → xs ≡ ys ++ zs → cond b (v ∷ xs) xs ≡ cond b (v ∷ ys) ys ++ zs
kept_append true v xs ys zs e = ap (λ l. v ∷ l) e
kept_append false v xs ys zs e = e

-- edges added behind
pub up_append : (xs ys : List Ends) (rank : ℕ) → up_of (xs ++ ys) rank ≡ up_of xs rank ++ up_of ys rank
up_append [] ys rank = refl
up_append (e ∷ xs) ys rank = kept_append (e.low == rank) e.high _ _ (up_of ys rank) (up_append xs ys rank)

pub up_edges_to : (rank : ℕ) (part : List ℕ) → up_of (edges_to rank part) rank ≡ part
up_edges_to rank [] = refl
up_edges_to rank (y ∷ part) = up_first (record { low = rank; high = y }) (edges_to rank part) rank refl ∙ ap (λ l. y ∷ l) (up_edges_to rank part)

pub up_other : (rank k : ℕ) (part : List ℕ) → rank ≢ k → up_of (edges_to rank part) k ≡ []
up_other rank k [] off = refl
up_other rank k (y ∷ part) off = up_skip (record { low = rank; high = y }) (edges_to rank part) k off ∙ up_other rank k part off

pub up_none : (edges : List Ends) (rank : ℕ) → All (λ (e : Ends). e.low < rank) edges → up_of edges rank ≡ []
up_none [] rank f = refl
up_none (e ∷ es) rank f =
    let low : e.low < rank = All-head (λ (x : Ends). x.low < rank) e es f in
    up_skip e es rank (λ at. omega (arith, at, low)) ∙ up_none es rank (All-tail (λ (x : Ends). x.low < rank) e es f)

pub first_append : (xs ys : List Ends) (rank : ℕ) → first_edge_of (xs ++ ys) rank ≡ first_edge_of xs rank + first_edge_of ys rank
first_append [] ys rank = omega arith
first_append (e ∷ xs) ys rank = let rest = first_append xs ys rank in omega (arith, rest)

first_all_step : (x k a n : ℕ) → x < k → a ≡ n → one_if (nat_lt x k) + a ≡ suc n
first_all_step x k a n lt h = grind (arith, nat_tests)

first_none_step : (x k a : ℕ) → k ≤ x → a ≡ 0 → one_if (nat_lt x k) + a ≡ 0
first_none_step x k a le h = grind (arith, nat_tests)

pub first_all : (edges : List Ends) (rank : ℕ) → All (λ (e : Ends). e.low < rank) edges → first_edge_of edges rank ≡ length edges
first_all [] rank f = refl
first_all (e ∷ es) rank f =
    first_all_step e.low rank (first_edge_of es rank) (length es) (All-head (λ (x : Ends). x.low < rank) e es f) (first_all es rank (All-tail (λ (x : Ends). x.low < rank) e es f))

pub first_none : (edges : List Ends) (rank : ℕ) → All (λ (e : Ends). rank ≤ e.low) edges → first_edge_of edges rank ≡ 0
first_none [] rank f = refl
first_none (e ∷ es) rank f =
    first_none_step e.low rank (first_edge_of es rank) (All-head (λ (x : Ends). rank ≤ x.low) e es f) (first_none es rank (All-tail (λ (x : Ends). rank ≤ x.low) e es f))

-- the edges below the next rank are those below a rank and those up from it
first_next_step : (low high rank next first : ℕ) (up : List ℕ) → next ≡ first + length up
    → one_if (nat_lt low (rank + 1)) + next ≡ (one_if (nat_lt low rank) + first) + length (cond (low == rank) (high ∷ up) up)
first_next_step low high rank next first up same = grind (arith, nat_tests)

pub first_next : (edges : List Ends) (rank : ℕ) → first_edge_of edges (rank + 1) ≡ first_edge_of edges rank + length (up_of edges rank)
first_next [] rank = refl
first_next (e ∷ es) rank =
    first_next_step e.low e.high rank (first_edge_of es (rank + 1)) (first_edge_of es rank) (up_of es rank) (first_next es rank)

pub lows_of_edges_to : (rank : ℕ) (part : List ℕ) (P : Ends → Type 0) → ((y : ℕ) → Contains part y → P (record { low = rank; high = y })) → All P (edges_to rank part)
lows_of_edges_to rank [] P f = λ k d h. absurd (omega (arith, h))
lows_of_edges_to rank (y ∷ part) P f = All-cons P _ (edges_to rank part) (f y (here y part)) (lows_of_edges_to rank part P (λ z c. f z (there y part z c)))

pub member_edges_to : (rank : ℕ) (part : List ℕ) (e : Ends) → Contains (edges_to rank part) e → (e.low ≡ rank) × Contains part e.high
member_edges_to rank [] e c = absurd (none_in_nil e c)
member_edges_to rank (y ∷ part) e c =
    elim (member_cases (record { low = rank; high = y }) (edges_to rank part) e c) [
      | inl same ↦ (sym (ap (λ (x : Ends). x.low) same), subst (λ (x : Ends). Contains (y ∷ part) x.high) same (here y part))
      | inr rest ↦ let deeper = member_edges_to rank part e rest in (deeper.0, there y part e.high deeper.1)
    ]

pub length_edges_to : (rank : ℕ) (part : List ℕ) → length (edges_to rank part) ≡ length part
length_edges_to rank [] = refl
length_edges_to rank (y ∷ part) = ap suc (length_edges_to rank part)

edges_to_rising : (rank : ℕ) (part : List ℕ) → AllPairs (λ x y. x < y) part → IsRising (edges_to rank part)
edges_to_rising rank [] f = λ i j d lt h. absurd (omega (arith, h))
edges_to_rising rank (y ∷ part) f =
    AllPairs-cons ComesBefore _ (edges_to rank part)
    (lows_of_edges_to rank part (ComesBefore (record { low = rank; high = y })) (λ z c. inr (refl, subst (λ w. y < w) c.2 (pairs_head (λ x y. x < y) y part f c.0 z c.1))))
    (edges_to_rising rank part (pairs_tail (λ x y. x < y) y part f))

pub rising_append : (edges : List Ends) (rank : ℕ) (part : List ℕ) → IsRising edges → All (λ (e : Ends). e.low < rank) edges → AllPairs (λ x y. x < y) part → IsRising (edges ++ edges_to rank part)
rising_append edges rank part f low g =
    pairs_append ComesBefore edges (edges_to rank part) f (edges_to_rising rank part g)
    (λ x y c e.
    let below : x.low < rank = subst (λ (z : Ends). z.low < rank) c.2 (low c.0 x c.1) in
    let at = member_edges_to rank part y e in
    inl (omega (arith, below, at.0)))

at_step : (x k a : ℕ) → x ≡ k → one_if (nat_lt x k) + a ≡ a
at_step x k a h = grind (arith, nat_tests)

no_lower : (e : Ends) (es : List Ends) (rank : ℕ) → IsRising (e ∷ es) → e.low ≡ rank → All (λ (x : Ends). rank ≤ x.low) es
no_lower e es rank f at =
    all_from_members (λ (x : Ends). rank ≤ x.low) es
    (λ x c. elim (after_first e es f x c) [
      | inl less ↦ omega (arith, less, at)
      | inr both ↦ omega (arith, both.0, at)
    ])

none_above : (e : Ends) (es : List Ends) (rank y : ℕ) → IsRising (e ∷ es) → rank < e.low → Contains (up_of (e ∷ es) rank) y → ⊥
none_above e es rank y f above c =
    elim (up_cases e es rank y c) [
      | inl at ↦ omega (arith, at.0, above)
      | inr rest ↦
          let before : ComesBefore e (record { low = rank; high = y }) = after_first e es f _ (edge_from_up_of es rank y rest) in
          elim before [
            | inl less ↦ omega (arith, less, above)
            | inr both ↦ omega (arith, both.0, above)
          ]
    ]

numbered_first : (e : Ends) (es : List Ends) (rank i y : ℕ) → IsRising (e ∷ es) → e.low ≡ rank → slice_get (e.high ∷ up_of es rank) i ≡ Some y
    → ((j : ℕ) → slice_get (up_of es rank) j ≡ Some y → slice_get es (first_edge_of es rank + j) ≡ Some (record { low = rank; high = y }))
    → slice_get (e ∷ es) (first_edge_of (e ∷ es) rank + i) ≡ Some (record { low = rank; high = y })
numbered_first e es rank zero y f at g deeper =
    let none = first_none es rank (no_lower e es rank f at) in
    let step = at_step e.low rank (first_edge_of es rank) at in
    let place : 0 ≡ first_edge_of (e ∷ es) rank + 0 = omega (arith, step, none) in
    let same : e ≡ record { low = rank; high = y } = same_ends e rank y at (same_Some e.high y g) in
    subst (λ n. slice_get (e ∷ es) n ≡ Some (record { low = rank; high = y })) place (ap Some same)
numbered_first e es rank (suc i) y f at g deeper =
    let step = at_step e.low rank (first_edge_of es rank) at in
    let place : suc (first_edge_of es rank + i) ≡ first_edge_of (e ∷ es) rank + suc i = omega (arith, step) in
    subst (λ n. slice_get (e ∷ es) n ≡ Some (record { low = rank; high = y })) place (deeper i g)

-- the edge to a rank's i-th higher neighbour
pub numbered : (edges : List Ends) (rank i y : ℕ) → IsRising edges → slice_get (up_of edges rank) i ≡ Some y → slice_get edges (first_edge_of edges rank + i) ≡ Some (record { low = rank; high = y })
numbered [] rank i y f g = cc
numbered (e ∷ es) rank i y f g =
    elim (cases_order e.low rank) [
      | inl at ↦ numbered_first e es rank i y f at (ap (λ xs. slice_get xs i) (sym (up_first e es rank at)) ∙ g) (λ j h. numbered es rank j y (pairs_tail ComesBefore e es f) h)
      | inr apart ↦ elim apart [
        | inl less ↦
            let deeper = numbered es rank i y (pairs_tail ComesBefore e es f) (ap (λ xs. slice_get xs i) (sym (up_skip e es rank (λ at. omega (arith, at, less)))) ∙ g) in
            let step = first_all_step e.low rank (first_edge_of es rank) (first_edge_of es rank) less refl in
            let place : suc (first_edge_of es rank + i) ≡ first_edge_of (e ∷ es) rank + i = omega (arith, step) in
            subst (λ n. slice_get (e ∷ es) n ≡ Some (record { low = rank; high = y })) place deeper
        | inr above ↦ absurd (none_above e es rank y f above (member_at (up_of (e ∷ es) rank) y i g))
      ]
    ]

pub increasing_from_pairs : (xs : List ℕ) → AllPairs (λ x y. x < y) xs → IsStrictlyIncreasing xs
increasing_from_pairs xs f k h = f k (k + 1) 0 (omega arith) h
