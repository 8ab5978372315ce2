-- Ranks that are joined below a bound, and where the higher neighbours of a rank come from.
use Rattle.std.proofs.Common.{◌≡◌, ◌≤◌, ◌<◌, ◌+◌, ℕ, zero, suc, List, [], ◌∷◌, ◌++◌, Option, Some, min, sym, subst, arith, inl, inr, ◌⊎◌}
use Rattle.std.proofs.lemmas.Bool.{cases_eq}
use Rattle.cu_model.specs.Networks.{NetworkValue}
use Rattle.cu_model.specs.Orders.{OrderValue}
use Rattle.cu_chordal.specs.Edges.{Adjacent, PathBelow, JoinedBelow, IsEdge}

-- x is a higher neighbour of c
abbrev pub IsUp : NetworkValue → OrderValue → ℕ → ℕ → Type 0
IsUp g o c x = (c < x) × JoinedBelow g o c c x

module _ (g : NetworkValue) (o : OrderValue) where
  pub adjacent_back : (x y : ℕ) → Adjacent g o x y → Adjacent g o y x
  adjacent_back x y (a, inl j) = (a, inr j)
  adjacent_back x y (a, inr j) = (a, inl j)

  pub path_append : (m x z : ℕ) (zs ws : List ℕ) (y : ℕ) → z < m → PathBelow g o m x zs z → PathBelow g o m z ws y → PathBelow g o m x (zs ++ (z ∷ ws)) y
  path_append m x z [] ws y lt p q = (p, lt, q)
  path_append m x z (k ∷ zs) ws y lt p q = (p.0, p.1, path_append m k z zs ws y lt p.2 q)

  pub path_more : (m n x : ℕ) (zs : List ℕ) (y : ℕ) → m ≤ n → PathBelow g o m x zs y → PathBelow g o n x zs y
  path_more m n x [] y le p = p
  path_more m n x (z ∷ zs) y le p = (p.0, omega (arith, p.1, le), path_more m n z zs y le p.2)

  pub joined_back : (m x : ℕ) (zs : List ℕ) (y : ℕ) → PathBelow g o m x zs y → JoinedBelow g o m y x
  joined_back m x [] y p = ([], adjacent_back x y p)
  joined_back m x (z ∷ zs) y p =
      let back = joined_back m z zs y p.2 in
      (back.0 ++ (z ∷ []), path_append m y z back.0 [] x p.1 back.1 (adjacent_back x z p.0))

  -- cut at the bound
  pub cut_path : (m x : ℕ) (zs : List ℕ) (y : ℕ) → PathBelow g o (suc m) x zs y → JoinedBelow g o m x y ⊎ (JoinedBelow g o m x m × JoinedBelow g o m m y)
  cut_path m x [] y p = inl ([], p)
  cut_path m x (z ∷ zs) y p =
      elim (cases_eq z m) [
        | inl same ↦
            let at_bound : JoinedBelow g o m x m = ([], subst (λ (k : ℕ). Adjacent g o x k) same p.0) in
            elim (cut_path m z zs y p.2) [
              | inl stays ↦ inr (at_bound, subst (λ (k : ℕ). JoinedBelow g o m k y) same stays)
              | inr c ↦ inr (at_bound, c.1)
            ]
        | inr other ↦
            elim (cut_path m z zs y p.2) [
              | inl stays ↦ inl (z ∷ stays.0, (p.0, omega (arith, p.1, other), stays.1))
              | inr c ↦ inr ((z ∷ c.0.0, (p.0, omega (arith, p.1, other), c.0.1)), c.1)
            ]
      ]

  -- down to the highest inner rank: two ranks joined below a bound are linked, or both are joined below a lower rank to it
  highest_inner : (m x y : ℕ) → JoinedBelow g o m x y → Adjacent g o x y ⊎ ((c : ℕ) × (c < m) × JoinedBelow g o c x c × JoinedBelow g o c c y)
  highest_inner zero x y ([], p) = inl p
  highest_inner zero x y (z ∷ zs, p) = absurd (omega (arith, p.1))
  highest_inner (suc m) x y j =
      elim (cut_path m x j.0 y j.1) [
        | inl stays ↦
            elim (highest_inner m x y stays) [
              | inl next ↦ inl next
              | inr c ↦ inr (c.0, omega (arith, c.1), c.2, c.3)
            ]
        | inr c ↦ inr (m, omega arith, c.0, c.1)
      ]

  -- two ranks that a lower rank is joined to below itself are joined below any greater bound
  pub through : (c x y m : ℕ) → c < m → JoinedBelow g o c c x → JoinedBelow g o c c y → JoinedBelow g o m x y
  through c x y m lt j k =
      let back = joined_back c c j.0 x j.1 in
      (back.0 ++ (c ∷ k.0), path_append m x c back.0 k.0 y lt (path_more c m x back.0 c (omega (arith, lt)) back.1) (path_more c m c k.0 y (omega (arith, lt)) k.1))

-- what is known of the parent of each rank below r that has higher neighbours
abbrev pub HasParents : NetworkValue → OrderValue → (ℕ → Option ℕ) → ℕ → Type 0
HasParents g o parent r = (k z : ℕ) → k < r → IsUp g o k z → (p : ℕ) × (parent k ≡ Some p) × IsUp g o k p × (p ≤ z)

-- from a rank c below r that has both r and y as higher neighbours up to one whose parent is r
up_to_child : (g : NetworkValue) (o : OrderValue) (parent : ℕ → Option ℕ) (r y n c : ℕ)
    → HasParents g o parent r → r ≤ c + n → c < r → r < y → IsUp g o c r → IsUp g o c y
    → (k : ℕ) × (k < r) × (parent k ≡ Some r) × IsUp g o k y
up_to_child g o parent r y zero c least le lt above up_r up_y = absurd (omega (arith, le, lt))
up_to_child g o parent r y (suc n) c least le lt above up_r up_y =
    let first = least c r lt up_r in
    elim (cases_eq first.0 r) [
      | inl same ↦ (c, lt, subst (λ (p : ℕ). parent c ≡ Some p) same first.1, up_y)
      | inr other ↦
          let p : ℕ = first.0 in
          let c_below : c < p = first.2.0 in
          let at_most : p ≤ r = first.3 in
          let p_below : p < r = omega (arith, at_most, other) in
          up_to_child g o parent r y n p least (omega (arith, le, c_below)) p_below above
          (p_below, through g o c p r p c_below first.2.1 up_r.1)
          (omega (arith, p_below, above), through g o c p y p c_below first.2.1 up_y.1)
    ]

-- the higher neighbours of r are those that it has links to and those of its children
pub from_link_or_child : (g : NetworkValue) (o : OrderValue) (parent : ℕ → Option ℕ) (r y : ℕ)
    → HasParents g o parent r → r < y → JoinedBelow g o r r y → Adjacent g o r y ⊎ ((k : ℕ) × (k < r) × (parent k ≡ Some r) × IsUp g o k y)
from_link_or_child g o parent r y least lt j =
    elim (highest_inner g o r r y j) [
      | inl next ↦ inl next
      | inr c ↦
          let back = joined_back g o c.0 r c.2.0 c.0 c.2.1 in
          inr (up_to_child g o parent r y r c.0 least (omega arith) c.1 lt (c.1, back) (omega (arith, c.1, lt), c.3))
    ]

-- and all of these are
pub up_from_child : (g : NetworkValue) (o : OrderValue) (k r y : ℕ) → IsUp g o k r → IsUp g o k y → r < y → IsUp g o r y
up_from_child g o k r y up_r up_y lt = (lt, through g o k r y r up_r.0 up_r.1 up_y.1)

min_first : (x y : ℕ) → x < y → min x y ≡ x
min_first x y lt = omega (arith, lt)

pub up_from_edge : (g : NetworkValue) (o : OrderValue) (x y : ℕ) → x < y → IsEdge g o x y → IsUp g o x y
up_from_edge g o x y lt e = (lt, subst (λ m. JoinedBelow g o m x y) (min_first x y lt) e.1)

pub edge_from_up : (g : NetworkValue) (o : OrderValue) (x y : ℕ) → IsUp g o x y → IsEdge g o x y
edge_from_up g o x y up = ((λ e. omega (arith, e, up.0)), subst (λ m. JoinedBelow g o m x y) (sym (min_first x y up.0)) up.1)
