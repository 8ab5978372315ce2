-- There is one list of the chordal edges.
use Rattle.std.proofs.Common.{◌≡◌, List, [], ◌∷◌, refl, sym, ◌∙◌, ap, subst, arith, inl, inr}
use Rattle.std.specs.Prelude.{◌↔◌}
use Rattle.std.specs.List.{Contains, AllPairs}
use Rattle.cu_model.specs.Networks.{NetworkValue}
use Rattle.cu_model.specs.Orders.{OrderValue}
use Rattle.cu_chordal.specs.declared.graph.Ends.{Ends}
use Rattle.cu_chordal.specs.Graphs.{ChordalValue, ComesBefore}
use Rattle.cu_chordal.specs.Edges.{IsClosureOf, ListsEdges}
use Rattle.cu_chordal.proofs.Members.{here, there, member_cases, none_in_nil, pairs_head, pairs_tail}

-- no value comes before itself, nor two before each other
abbrev IsStrict : {X : Type 0} → (X → X → Type 0) → Type 0
IsStrict {X} R = (x y : X) → R x y → R y x → ⊥

after_head : {X : Type 0} (R : X → X → Type 0) (x : X) (xs : List X) (y : X) → AllPairs R (x ∷ xs) → Contains xs y → R x y
after_head R x xs y f c = subst (R x) c.2 (pairs_head R x xs f c.0 y c.1)

heads_same : {X : Type 0} (R : X → X → Type 0) (x y : X) (xs ys : List X) → IsStrict R → AllPairs R (x ∷ xs) → AllPairs R (y ∷ ys) → Contains (y ∷ ys) x → Contains (x ∷ xs) y → x ≡ y
heads_same R x y xs ys strict f g c d =
    elim (member_cases y ys x c) [
      | inl same ↦ sym same
      | inr later ↦ elim (member_cases x xs y d) [
        | inl same ↦ same
        | inr other ↦ absurd (strict x y (after_head R x xs y f other) (after_head R y ys x g later))
      ]
    ]

in_tail : {X : Type 0} (R : X → X → Type 0) (x y z : X) (xs ys : List X) → IsStrict R → AllPairs R (x ∷ xs) → x ≡ y → Contains xs z → Contains (y ∷ ys) z → Contains ys z
in_tail R x y z xs ys strict f same c d =
    elim (member_cases y ys z d) [
      | inl head ↦
          let before : R x x = subst (R x) (sym (same ∙ head)) (after_head R x xs z f c) in
          absurd (strict x x before before)
      | inr rest ↦ rest
    ]

-- two lists in one strict order with the same members are one list
pub same_in_order : {X : Type 0} (R : X → X → Type 0) (xs ys : List X) → IsStrict R → AllPairs R xs → AllPairs R ys → ((z : X) → Contains xs z ↔ Contains ys z) → xs ≡ ys
same_in_order R [] [] strict f g same = refl
same_in_order R [] (y ∷ ys) strict f g same = absurd (none_in_nil y ((same y).1 (here y ys)))
same_in_order R (x ∷ xs) [] strict f g same = absurd (none_in_nil x ((same x).0 (here x xs)))
same_in_order R (x ∷ xs) (y ∷ ys) strict f g same =
    let head : x ≡ y = heads_same R x y xs ys strict f g ((same x).0 (here x xs)) ((same y).1 (here y ys)) in
    let tail : xs ≡ ys = same_in_order R xs ys strict (pairs_tail R x xs f) (pairs_tail R y ys g)
    (λ z. (
      (λ c. in_tail R x y z xs ys strict f head c ((same z).0 (there x xs z c))),
      (λ c. in_tail R y x z ys xs strict g (sym head) c ((same z).1 (there y ys z c))),
    )) in
    ap (λ k. k ∷ xs) head ∙ ap (λ ks. y ∷ ks) tail

comes_strict : IsStrict ComesBefore
comes_strict x y f g =
    elim f [
      | inl less ↦ elim g [
        | inl back ↦ omega (arith, less, back)
        | inr both ↦ omega (arith, less, both.0)
      ]
      | inr both ↦ elim g [
        | inl back ↦ omega (arith, both.0, back)
        | inr other ↦ omega (arith, both.1, other.1)
      ]
    ]

-- a network and an order have one list of chordal edges
pub closure_unique : (g : NetworkValue) (o : OrderValue) (a b : List Ends) → ListsEdges g o a → ListsEdges g o b → a ≡ b
closure_unique g o a b f h =
    same_in_order ComesBefore a b comes_strict f.sorted h.sorted
    (λ (e : Ends). (
      (λ c. (h.exact e.low e.high).1 ((f.exact e.low e.high).0 c)),
      (λ c. (f.exact e.low e.high).1 ((h.exact e.low e.high).0 c)),
    ))

graphs_same : (a b : ChordalValue) → a.ranks ≡ b.ranks → a.edges ≡ b.edges → a ≡ b
graphs_same a b p q = subst (λ n. a ≡ record { ranks = n; edges = b.edges }) p (subst (λ es. a ≡ record { ranks = a.ranks; edges = es }) q refl)

-- and so one chordal supergraph
pub graph_unique : (g : NetworkValue) (o : OrderValue) (a b : ChordalValue) → IsClosureOf g o a → IsClosureOf g o b → a ≡ b
graph_unique g o a b f h = graphs_same a b (f.ranks ∙ sym h.ranks) (closure_unique g o a.edges b.edges f.edges h.edges)
