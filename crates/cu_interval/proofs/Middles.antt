-- One middle more: the least drive is the lesser of the one before and of that by the middle.
use Rattle.std.proofs.Common.{◌≡◌, ◌≤◌, ◌<◌, ◌∙◌, ℕ, suc, List, ◌++◌, ap, arith, inl, inr, ◌⊎◌, min}
use Rattle.std.proofs.lemmas.Bool.{cases_lt}
use Rattle.cu_model.specs.Networks.{NetworkValue, IsNetwork}
use Rattle.cu_model.specs.Orders.{OrderValue}
use Rattle.cu_model.specs.Roads.{drive}
use Rattle.cu_model.proofs.RoadLaws.{drive-append}
use Rattle.cu_interval.specs.declared.ways.Way.{Way}
use Rattle.cu_interval.specs.Low.{WalkBelow, IsLowWalk, IsLeastLowDrive}
use Rattle.cu_interval.specs.FirstWays.{IsFirstWay}
use Rattle.cu_interval.proofs.Walks.{CutAt, below-append, below-cut, below-fifo, below-more}
use Rattle.cu_interval.proofs.Candidates.{candidate_below}

-- the least drive over walks whose inner ranks are below m
pub record IsLeastBelow (g : NetworkValue) (o : OrderValue) (m u v t arrival : ℕ) : Type 0 where
  pub reached : (w : List ℕ) × WalkBelow g o m u w v × (drive g w t ≡ arrival)
  pub least : (w : List ℕ) → WalkBelow g o m u w v → arrival ≤ drive g w t

abbrev pub HasNoneBelow : NetworkValue → OrderValue → ℕ → ℕ → ℕ → Type 0
HasNoneBelow g o m u v = (w : List ℕ) → WalkBelow g o m u w v → ⊥

module _ (g : NetworkValue) (o : OrderValue) (f : IsNetwork g) where
  -- by the middle: to it, and from where that arrives on
  via_least : (m u v t b c : ℕ) → IsLeastBelow g o m u m t b → IsLeastBelow g o m m v b c → (w : List ℕ) → CutAt g o m u w v → c ≤ drive g w t
  via_least m u v t b c one two w k =
      let p = one.least k.first k.to in
      let q = two.least k.second k.on in
      let r = below-fifo g o f m m k.second v b (drive g k.first t) k.on p in
      let e = drive-append g k.first k.second t in
      let n = k.no_later t in
      omega (arith, q, r, e, n)

  via_walk : (m u v t b c : ℕ) → IsLeastBelow g o m u m t b → IsLeastBelow g o m m v b c → (w : List ℕ) × WalkBelow g o (suc m) u w v × (drive g w t ≡ c)
  via_walk m u v t b c one two =
      let (w1, h1, e1) = one.reached in
      let (w2, h2, e2) = two.reached in (
        w1 ++ w2,
        below-append g o (suc m) u m w1 w2 v (omega arith) (below-more g o m (suc m) u w1 m (omega arith) h1) (below-more g o m (suc m) m w2 v (omega arith) h2),
        drive-append g w1 w2 t ∙ ap (λ (s : ℕ). drive g w2 s) e1 ∙ e2,
      )

  -- both ways exist
  pub middle_both : (m u v t a b c : ℕ) → IsLeastBelow g o m u v t a → IsLeastBelow g o m u m t b → IsLeastBelow g o m m v b c → IsLeastBelow g o (suc m) u v t (min a c)
  middle_both m u v t a b c direct one two =
      let least : (w : List ℕ) → WalkBelow g o (suc m) u w v → min a c ≤ drive g w t = λ w h.
      elim (below-cut g o f m u w v h) [
        | inl stays ↦ let p = direct.least w stays in omega (arith, p)
        | inr k ↦ let p = via_least m u v t b c one two w k in omega (arith, p)
      ] in
      elim (cases_lt c a) [
        | inl less ↦
            let (w, h, e) = via_walk m u v t b c one two in
            record { reached = (w, h, omega (arith, e, less)); least = least }
        | inr more ↦
            let (w, h, e) = direct.reached in
            record { reached = (w, below-more g o m (suc m) u w v (omega arith) h, omega (arith, e, more)); least = least }
      ]

  -- only by the middle
  pub middle_only : (m u v t b c : ℕ) → HasNoneBelow g o m u v → IsLeastBelow g o m u m t b → IsLeastBelow g o m m v b c → IsLeastBelow g o (suc m) u v t c
  middle_only m u v t b c none one two = record {
    reached = via_walk m u v t b c one two;
    least = λ w h.
        elim (below-cut g o f m u w v h) [
          | inl stays ↦ absurd (none w stays)
          | inr k ↦ via_least m u v t b c one two w k
        ];
  }

  -- none by the middle
  pub middle_none : (m u v t a : ℕ) → IsLeastBelow g o m u v t a → (HasNoneBelow g o m u m ⊎ HasNoneBelow g o m m v) → IsLeastBelow g o (suc m) u v t a
  middle_none m u v t a direct none = record {
    reached = let (w, h, e) = direct.reached in (w, below-more g o m (suc m) u w v (omega arith) h, e);
    least = λ w h.
        elim (below-cut g o f m u w v h) [
          | inl stays ↦ direct.least w stays
          | inr k ↦ elim none [ inl left ↦ absurd (left k.first k.to) | inr right ↦ absurd (right k.second k.on) ]
        ];
  }

  -- a first way arrives no later than any low walk
  pub first_least : (u v t : ℕ) (way : Way) → ((x y s : ℕ) (w : List ℕ) → min x y < min u v → IsLowWalk g o x w y → (a : ℕ) × IsLeastLowDrive g o x y s a)
      → (first : IsFirstWay g o u v t way) (w : List ℕ) → IsLowWalk g o u w v → first.arrival ≤ drive g w t
  first_least u v t way has first w h =
      let c = candidate_below g o f u v has (min u v) (omega arith) (omega arith) w t h.1 in
      let early = c.early in
      elim (first.first c.way c.arrival c.candidate c.value) [
        | inl less ↦ omega (arith, less, early)
        | inr tie ↦ let same = tie.0 in omega (arith, same, early)
      ]
