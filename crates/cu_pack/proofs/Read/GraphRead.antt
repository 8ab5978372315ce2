-- The order and the graph of a file, read number by number, and what the check of the graph answers.
use Rattle.std.proofs.Common.{◌≡◌, ◌+◌, ◌*◌, ◌∙◌, ◌++◌, ◌∷◌, [], ℕ, suc, List, Option, Some, None, Result, Ok, Err, length, get_or, refl, ap, sym, subst, arith}
use Rattle.std.specs.Prelude.{IfOk, slice_get}
use Rattle.std.proofs.lemmas.List.{ext_get_or}
use Rattle.std.proofs.lemmas.List.FromFn.{map-range_with_len_more}
use Rattle.std.proofs.lemmas.Option.{get_or_from_slice_get, slice_get-get_or}
use Rattle.cu_model.specs.Orders.{IsOrder, OrderValue}
use Rattle.cu_chordal.specs.WrongParts.{IsFirstWrong}
use Rattle.cu_pack.specs.Checks.{FindsFirst, IsWrongRankUp}
use Rattle.cu_pack.specs.Places.{short_at}
use Rattle.cu_pack.specs.Reading.{counts_in, edge_starts_in, network_in, order_in, uppers_in, shorts_in}
use Rattle.cu_pack.proofs.Viewed.Adopted.{wrong_within}
use Rattle.cu_pack.proofs.Read.Driven.{nodes_same}

-- one number more
pub shorts_more : (bytes numbers : List ℕ) (at count number : ℕ) → numbers ≡ shorts_in bytes at count → number ≡ short_at bytes (at + 4 * count)
    → numbers ++ number ∷ [] ≡ shorts_in bytes at (count + 1)
shorts_more bytes numbers at count number before here =
    ap (λ xs. xs ++ number ∷ []) before ∙ ap (λ n. shorts_in bytes at count ++ n ∷ []) here
    ∙ sym (map-range_with_len_more (λ index. short_at bytes (at + 4 * index)) 0 count count (omega arith))

-- the nodes at the ranks say the whole order
pub order_same : (a b : OrderValue) → IsOrder a → IsOrder b → a.node_at ≡ b.node_at → a ≡ b
order_same a b f g nodes =
    let long : length a.rank_of ≡ length b.rank_of = f.same ∙ ap length nodes ∙ sym g.same in
    let ranks : a.rank_of ≡ b.rank_of = ext_get_or 0 a.rank_of b.rank_of long (λ i h.
    let rank : ℕ = get_or a.rank_of i 0 in
    let at : slice_get a.node_at rank ≡ Some i = f.placed i rank (slice_get-get_or a.rank_of i 0 h) in
    let other : slice_get b.rank_of i ≡ Some rank = g.ranked rank i (subst (λ ns. slice_get ns rank ≡ Some i) nodes at) in
    sym (get_or_from_slice_get b.rank_of i rank 0 other)) in
    let made : List ℕ → List ℕ → OrderValue = λ ns rs. record { node_at = ns; rank_of = rs } in
    ap (λ ns. made ns a.rank_of) nodes ∙ ap (made b.node_at) ranks

-- what the check of the graph finds is what is asked of it
pub first_found : (bytes : List ℕ) (found : Option ℕ) → IsFirstWrong (network_in bytes) (order_in bytes) (edge_starts_in bytes) (uppers_in bytes) found
    → FindsFirst (IsWrongRankUp bytes) (suc (counts_in bytes).nodes) found
first_found bytes None none = λ number h wrong. none number wrong
first_found bytes (Some rank) (wrong, before) = (
  let within = wrong_within (network_in bytes) (order_in bytes) (edge_starts_in bytes) (uppers_in bytes) rank wrong in omega (arith, within, nodes_same bytes),
  wrong,
  before,
)

pub nodes_read : (bytes : List ℕ) → (order_in bytes).node_at ≡ shorts_in bytes 52 (counts_in bytes).nodes
unfolding order_in
nodes_read bytes = refl

-- an order of the nodes that were read is the order of the file
pub order_read : {E : Type 0} (bytes nodes : List ℕ) (answer : Result OrderValue E) → IsOrder (order_in bytes) → nodes ≡ shorts_in bytes 52 (counts_in bytes).nodes
    → IfOk answer (λ order. order.node_at ≡ nodes) → IfOk answer IsOrder → IfOk answer (λ order. order ≡ order_in bytes)
order_read bytes nodes (Ok order) f read given sound = order_same order (order_in bytes) sound f (given ∙ read ∙ sym (nodes_read bytes))
order_read bytes nodes (Err e) f read given sound = tt

-- what the check of the graph that was read finds is what is asked of it
pub found_read : {E : Type 0} (bytes roads starts uppers : List ℕ) (order : OrderValue) (answer : Result (Option ℕ) E) → roads ≡ bytes → order ≡ order_in bytes
    → starts ≡ edge_starts_in bytes → uppers ≡ uppers_in bytes → IfOk answer (λ found. IsFirstWrong (network_in roads) order starts uppers found)
    → IfOk answer (FindsFirst (IsWrongRankUp bytes) (suc (counts_in bytes).nodes))
found_read bytes roads starts uppers order (Err e) a b c d wrong = tt
found_read bytes roads starts uppers order (Ok found) a b c d wrong =
    first_found bytes found
    (subst (λ (us : List ℕ). IsFirstWrong (network_in bytes) (order_in bytes) (edge_starts_in bytes) us found) d
    (subst (λ (ss : List ℕ). IsFirstWrong (network_in bytes) (order_in bytes) ss uppers found) c
    (subst (λ (o : OrderValue). IsFirstWrong (network_in bytes) o starts uppers found) b
    (subst (λ (bs : List ℕ). IsFirstWrong (network_in bs) order starts uppers found) a wrong))))
