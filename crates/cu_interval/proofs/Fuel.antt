-- More fuel changes nothing: unpacked walks and rebuilt values are the same at any fuel above the lower end.
use Rattle.std.proofs.Common.{◌≡◌, ◌<◌, ◌∙◌, ℕ, zero, suc, List, ◌++◌, Option, Some, None, refl, ap, arith, min}
use Rattle.cu_model.specs.Roads.{drive}
use Rattle.cu_interval.specs.declared.ways.Way.{Way}
use Rattle.cu_interval.specs.declared.ways.Way.TheVariants.{Road, Via}
use Rattle.cu_interval.specs.Hierarchies.{HierarchyValue, way_from}
use Rattle.cu_interval.specs.Unpacking.{unpacked, unpacked_walk, unpacked_way, followed}

-- every middle in force is below both ends
abbrev pub MiddlesFall : HierarchyValue → Type 0
MiddlesFall h = (u v t m : ℕ) → way_from h u v t ≡ Some (Via m) → (m < u) × (m < v)

module _ (h : HierarchyValue) (falls : MiddlesFall h) where
  unpacked-fuel_way : (fuel more u v t : ℕ) → min u v < suc fuel → min u v < suc more → (way : Option Way) → way_from h u v t ≡ way
      → ((x y s : ℕ) → min x y < min u v → unpacked h fuel x y s ≡ unpacked h more x y s) → unpacked_way h.network (unpacked h fuel) u v t way ≡ unpacked_way h.network (unpacked h more) u v t way
  unpacked-fuel_way fuel more u v t a b None e same = refl
  unpacked-fuel_way fuel more u v t a b (Some (Road r)) e same = refl
  unpacked-fuel_way fuel more u v t a b (Some (Via m)) e same =
      let lower = falls u v t m e in
      let first : unpacked h fuel u m t ≡ unpacked h more u m t = same u m t (omega (arith, lower.0, lower.1)) in
      let s = drive h.network (unpacked h more u m t) t in
      let second : unpacked h fuel m v s ≡ unpacked h more m v s = same m v s (omega (arith, lower.0, lower.1)) in
      ap (λ (w : List ℕ). followed w (λ first. unpacked h fuel m v (drive h.network first t))) first
      ∙ ap (λ (w : List ℕ). unpacked h more u m t ++ w) second

  pub unpacked-fuel : (fuel more u v t : ℕ) → min u v < fuel → min u v < more → unpacked h fuel u v t ≡ unpacked h more u v t
  unpacked-fuel zero more u v t a b = absurd (omega (arith, a))
  unpacked-fuel (suc fuel) zero u v t a b = absurd (omega (arith, b))
  unpacked-fuel (suc fuel) (suc more) u v t a b =
      unpacked-fuel_way fuel more u v t a b (way_from h u v t) refl
      (λ x y s lt. unpacked-fuel fuel more x y s (omega (arith, a, lt)) (omega (arith, b, lt)))

  -- the unpacked walk of a middle: that to it, and from its arrival that on from it
  pub unpacked-via : (u v t m : ℕ) → way_from h u v t ≡ Some (Via m) → unpacked_walk h u v t ≡ unpacked_walk h u m t ++ unpacked_walk h m v (drive h.network (unpacked_walk h u m t) t)
  unpacked-via u v t m e =
      let lower = falls u v t m e in
      let fuel = min u v in
      let first : unpacked h fuel u m t ≡ unpacked_walk h u m t = unpacked-fuel fuel (suc (min u m)) u m t (omega (arith, lower.0, lower.1)) (omega arith) in
      let s = drive h.network (unpacked_walk h u m t) t in
      let second : unpacked h fuel m v s ≡ unpacked_walk h m v s = unpacked-fuel fuel (suc (min m v)) m v s (omega (arith, lower.0, lower.1)) (omega arith) in
      ap (λ (way : Option Way). unpacked_way h.network (unpacked h fuel) u v t way) e
      ∙ ap (λ (w : List ℕ). followed w (λ first. unpacked h fuel m v (drive h.network first t))) first
      ∙ ap (λ (w : List ℕ). unpacked_walk h u m t ++ w) second
