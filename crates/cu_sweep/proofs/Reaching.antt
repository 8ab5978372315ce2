-- Labels that both sweeps leave are no later than any walk.
use Rattle.std.proofs.Common.{◌≡◌, ◌≤◌, ◌<◌, ◌+◌, ℕ, zero, suc, List, [], ◌∷◌, length, Option, Some, subst, arith, inl, inr}
use Rattle.std.proofs.lemmas.Bool.{cases_lt}
use Rattle.cu_model.specs.Networks.{NetworkValue, IsNetwork}
use Rattle.cu_model.specs.Orders.{OrderValue}
use Rattle.cu_model.specs.Roads.{drive}
use Rattle.cu_model.proofs.RoadLaws.{drive-append}
use Rattle.cu_interval.specs.Low.{WalkBelow}
use Rattle.cu_sweep.proofs.Peaks.{IsRankWalk, StaysAtMost, Climbs, IsLowTo, climbs, drive-rises, falls, stays_onward}

-- there is a second, at most t
abbrev pub IsReachedBy : Option ℕ → ℕ → Type 0
IsReachedBy label t = (s : ℕ) × (label ≡ Some s) × (s ≤ t)

-- what the sweeps leave: `above` holds of the ancestors of the first rank, `below` of those of the last
pub record AreSwept (g : NetworkValue) (o : OrderValue) (above below : ℕ → Type 0) (up down : ℕ → Option ℕ) : Type 0 where
  pub climb : (x y s : ℕ) (walk : List ℕ) → above x → x < y → WalkBelow g o x x walk y → up x ≡ Some s
      → above y × IsReachedBy (up y) (drive g walk s)
  pub fall : (y z s : ℕ) (walk : List ℕ) → below y → y < z → WalkBelow g o y z walk y → down z ≡ Some s
      → IsReachedBy (down y) (drive g walk s)
  pub goes_up : (y z : ℕ) (walk : List ℕ) → below y → y < z → WalkBelow g o y z walk y → below z
  pub turn : (x s : ℕ) → up x ≡ Some s → IsReachedBy (down x) s

stays_end : (g : NetworkValue) (o : OrderValue) (p u : ℕ) (walk : List ℕ) (v : ℕ) → StaysAtMost g o p u walk v → v ≤ p
stays_end g o p u [] v h = let le = h.0 in let e = h.1 in omega (arith, le, e)
stays_end g o p u (a ∷ walk) v h = stays_end g o p h.1 walk v h.3

module _ (g : NetworkValue) (o : OrderValue) (n : IsNetwork g) (above below : ℕ → Type 0) (up down : ℕ → Option ℕ) (k : AreSwept g o above below up down) where
  at_peak : (p y t : ℕ) (walk : List ℕ)
      → IsReachedBy (up p) t → StaysAtMost g o p p walk y → p ≡ y → IsReachedBy (down y) (drive g walk t)
  at_peak p y t walk label h same =
      let (s, at, le) = label in
      let (d, is, low) = k.turn p s at in
      let late = stays_onward g o n p p walk y t h in
      (d, subst (λ (q : ℕ). down q ≡ Some d) same is, omega (arith, low, le, late))

  from_peak : (p y t : ℕ) (walk : List ℕ)
      → below y → y < p → IsReachedBy (up p) t → IsLowTo g o y p walk → IsReachedBy (down y) (drive g walk t)
  from_peak p y t walk in_to gt label c =
      let (s, at, le) = label in
      let (d, is, low) = k.turn p s at in
      let (e, there, early) = k.fall y p d c.part in_to gt c.low is in
      let rise = drive-rises g n c.part d t (omega (arith, low, le)) in
      let all = c.no_later t in
      (e, there, omega (arith, early, rise, all))

  -- from the peak p down
  downward : (fuel p y t : ℕ) (walk : List ℕ)
      → p ≤ y + fuel → below y → IsReachedBy (up p) t → StaysAtMost g o p p walk y → IsReachedBy (down y) (drive g walk t)
  downward zero p y t walk enough in_to label h =
      let e = stays_end g o p p walk y h in
      at_peak p y t walk label h (omega (arith, e, enough))
  downward (suc fuel) p y t walk enough in_to label h =
      let e = stays_end g o p p walk y h in
      elim (cases_lt y p) [
        | inr top ↦ at_peak p y t walk label h (omega (arith, e, top))
        | inl gt ↦ elim (falls g o n p y p walk h) [
          | inl same ↦ at_peak p y t walk label h same
          | inr found ↦ elim found [
            | inl c ↦ from_peak p y t walk in_to gt label c
            | inr c ↦
                let higher = c.above in
                let in_peak = k.goes_up y c.peak c.last in_to higher c.low in
                let r = downward fuel p c.peak t c.first (omega (arith, enough, higher)) in_peak label c.to in
                let (d, is, low) = k.fall y c.peak r.0 c.last in_to higher c.low r.1 in
                let le = r.2 in
                let rise = drive-rises g n c.last r.0 (drive g c.first t) le in
                let joined = drive-append g c.first c.last t in
                let all = c.no_later t in
                (d, is, omega (arith, low, rise, joined, all))
          ]
        ]
      ]

  climbed : (x v t : ℕ) (walk : List ℕ)
      → above x → IsReachedBy (up x) t → (c : Climbs g o x x walk v) → above c.peak × IsReachedBy (up c.peak) (drive g c.first t)
  climbed x v t walk in_from label c =
      let (s, at, le) = label in
      let u = k.climb x c.peak s c.first in_from c.above c.low at in
      let rise = drive-rises g n c.first s t le in
      let early = u.1.2 in
      (u.0, (u.1.0, u.1.1, omega (arith, early, rise)))

  -- from a rank with an upward label
  upward : (fuel x y t : ℕ) (walk : List ℕ)
      → length walk ≤ fuel → above x → below y → IsReachedBy (up x) t → IsRankWalk g o x walk y
      → IsReachedBy (down y) (drive g walk t)
  upward zero x y t walk enough in_from in_to label h =
      elim (climbs g o n x x walk y (omega arith) h) [
        | inl stays ↦ downward x x y t walk (omega arith) in_to label stays
        | inr found ↦
            let c : Climbs g o x x walk y = elim found [ inl c ↦ c | inr c ↦ c ] in
            let less = c.shorter in
            absurd (omega (arith, less, enough))
      ]
  upward (suc fuel) x y t walk enough in_from in_to label h =
      elim (climbs g o n x x walk y (omega arith) h) [
        | inl stays ↦ downward x x y t walk (omega arith) in_to label stays
        | inr found ↦
            let c : Climbs g o x x walk y = elim found [ inl c ↦ c | inr c ↦ c ] in
            let less = c.shorter in
            let (in_peak, there) = climbed x y t walk in_from label c in
            let (d, is, low) = upward fuel c.peak y (drive g c.first t) c.rest (omega (arith, less, enough)) in_peak in_to there c.on in
            let joined = drive-append g c.first c.rest t in
            let all = c.no_later t in
            (d, is, omega (arith, low, joined, all))
      ]

  -- the last rank's label is no later than any walk
  pub sweeps_reach : (from to second : ℕ) (walk : List ℕ)
      → above from → below to → IsReachedBy (up from) second → IsRankWalk g o from walk to
      → IsReachedBy (down to) (drive g walk second)
  sweeps_reach from to second walk in_from in_to label h =
      upward (length walk) from to second walk (omega arith) in_from in_to label h
